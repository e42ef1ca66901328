use Rattle.std.proofs.Common.{arith}
use Rattle.tso_scan.proofs.halves.room_behind.Goals as goal

pub returns : goal.returns
returns c = record { enough = c.if-second-all.false; is = omega (arith, c.if-second-all.false, c.if-used-first.false) }
