use Rattle.std.proofs.Common.{arith}
use Rattle.tso_move.proofs.FreeLemmas.{none_is_free}
use Rattle.tso_store.proofs.arrived.free_in.Goals as goal

pub returns : goal.returns
returns g c =
    none_is_free c.args.checked.now.client c.args.own.now c.args.table.now (g.S.Viewed.state c.args.state.now) c.loop-thread.thread c.loop-thread.invariant.below
    (let a = c.loop-thread-test.false in let b = c.thread_count-thread-end.ensures in omega (arith, a, b))
