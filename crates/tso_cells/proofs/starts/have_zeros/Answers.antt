use Rattle.std.proofs.Common.{rules}
use Rattle.tso_cells.proofs.PlaceLemmas.{at_each, one_more}
use Rattle.tso_cells.specs.Inductive.{HasZero}
use Rattle.tso_cells.proofs.starts.have_zeros.Goals as goal

pub loop-n-preserved : goal.loop-n-preserved
loop-n-preserved c = one_more HasZero c.args.registers.now c.loop-n.n _ c.loop-n.invariant (c.has_zero.ensures.0 c.if-not-has_zero.false)

pub returns : goal.returns
returns c = (λ yes. at_each HasZero c.args.registers.now c.loop-n.n c.loop-n.invariant c.loop-n-test.false, λ is. search rules)
