use Rattle.std.proofs.Common.{◌+◌, sym, arith}
use Rattle.std.specs.Prelude.{false, length}
use Rattle.tso_move.proofs.FreeLemmas.{not_passed, passes_more}
use Rattle.tso_move.specs.Parts.{parts_of}
use Rattle.tso_move.proofs.free.is_free.Goals as goal

pub returns-then-not-is_passed : goal.returns-then-not-is_passed
returns-then-not-is_passed g c =
    let client = c.args.checked.now.client in
    let table = c.args.table.now in
    let s = g.S.Viewed.state c.args.state.now in
    let kinds = parts_of c.args.kind in
    let n = c.loop-other.other in
    let fails = passes_more client table s c.args.thread kinds n false c.loop-other.invariant (sym c.if-not-is_passed.ensures) in
    sym (not_passed client table s c.args.thread kinds (n + 1) (length s.threads) fails (let a = c.loop-other-test.true in let b = c.thread_count-other-end.ensures in omega (arith, a, b)))
