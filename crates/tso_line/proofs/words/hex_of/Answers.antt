use Rattle.std.proofs.Common.{◌+◌, ◌*◌, ◌≤◌, ◌^◌, arith, length}
use Rattle.tso_line.proofs.Hex.{hex_room}
use Rattle.tso_line.proofs.words.hex_of.Goals as goal
use Rattle.tso_line.proofs.words.hex_of.Goals.{in-48-to-57, in-97-to-102}

pub overflow_mul-value : goal.overflow_mul-value
overflow_mul-value c = omega (arith, hex_room c.loop-digit.value c.loop-digit.digit-index (length c.args.digits.now) c.loop-digit.invariant.below c.loop-digit-test.true c.if-digits-gt16.false)

pub overflow_add-value : goal.overflow_add-value
overflow_add-value c =
    let room : c.loop-digit.value * 16 + 16 ≤ 2 ^ 64 = hex_room c.loop-digit.value c.loop-digit.digit-index (length c.args.digits.now) c.loop-digit.invariant.below c.loop-digit-test.true c.if-digits-gt16.false in
    elim c.if-digit-lt58.branch [ in-48-to-57 w ↦ omega arith | in-97-to-102 w ↦ omega arith ]
