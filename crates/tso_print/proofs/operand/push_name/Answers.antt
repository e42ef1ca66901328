use Rattle.std.proofs.Common.{◌<◌, length, append_assoc, refl, arith}
use Rattle.std.proofs.lemmas.List.{take_more}
use Rattle.tso_print.proofs.Names.{name_small}
use Rattle.tso_print.proofs.operand.push_name.Goals as goal

pub loop-byte-preserved : goal.loop-byte-preserved
loop-byte-preserved c =
    let i = c.loop-byte.byte-index in
    let lt : i < length c.args.name.now = omega arith in
    let small : c.from.result < 128 = rw c.from.ensures (name_small c.args.name.now c.requires i 0 lt) in
    let added = c.in_ok-push.ensures.bytes in
    let one = c.in_ok-push.ensures.ascii small in
    let more = take_more c.args.name.now i 0 lt in
    rw (added, one, more, c.from.ensures, c.loop-byte.invariant, append_assoc) refl
