use Rattle.std.proofs.Common.{rules}
use Rattle.tso_cells.proofs.PlaceLemmas.{at_each}
use Rattle.tso_cells.proofs.TestLemmas.{LiesIn, inside_more}
use Rattle.tso_cells.proofs.inductive.are_inside.Goals as goal

pub loop-n-preserved : goal.loop-n-preserved
loop-n-preserved c = inside_more c.args.intervals.now c.args.others.now c.loop-n.n _ _ c.loop-n.invariant (c.is_inside.ensures.0 c.if-not-is_inside.false)

pub returns : goal.returns
returns c = (
  λ yes n i j at there. at_each (LiesIn c.args.others.now) c.args.intervals.now c.loop-n.n c.loop-n.invariant c.loop-n-test.false n i at j there,
  λ is. search rules,
)
