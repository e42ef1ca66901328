use Rattle.std.proofs.Common.{◌∙◌, sym}
use Rattle.tso_cells.proofs.TestLemmas.{lie_done, lie_more, lie_stopped}
use Rattle.tso_cells.proofs.places.lie_in.Goals as goal

pub loop-n-preserved : goal.loop-n-preserved
loop-n-preserved c =
    lie_more c.args.intervals.now c.args.words.now c.loop-n.n _ _ _ c.loop-n-test.true c.requires (sym c.has.ensures ∙ c.if-not-has.false) c.loop-n.invariant

pub returns-then-not-has : goal.returns-then-not-has
returns-then-not-has c =
    lie_stopped c.args.intervals.now c.args.words.now c.loop-n.n _ _ _ c.loop-n-test.true c.requires (sym c.has.ensures ∙ c.if-not-has.true) c.loop-n.invariant

pub returns : goal.returns
returns c = lie_done c.args.intervals.now c.args.words.now c.loop-n.n _ c.loop-n-test.false c.requires c.loop-n.invariant
