use Rattle.std.proofs.Common.{arith}
use Rattle.tso_rec.proofs.PartLemmas.{done}
use Rattle.tso_rec.proofs.shared.differing.Goals as goal

pub returns-clause-count : goal.returns-clause-count
returns-clause-count g c =
    let rest = done g.T.PartialEq.eq c.args.before.now c.args.parts.now c.loop-i.i (omega (arith, c.loop-i-test.false, c.min-i-end.ensures)) in
    omega (arith, c.loop-i.invariant.0, rest)
