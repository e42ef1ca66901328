use Rattle.std.proofs.Common.{arith}
use Rattle.tso_regions.proofs.gathering.take_own.Goals as goal

pub take-requires-clause-there : goal.take-requires-clause-there
take-requires-clause-there g c = λ i n e. let less = c.are_below.ensures c.if-not-are_below.false i n e in omega (arith, less, c.len.ensures)
