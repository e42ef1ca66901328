use Rattle.tso_cells.proofs.TestLemmas.{all_before, next_left, too_short}
use Rattle.tso_cells.proofs.places.index_in.Goals as goal

pub loop-other-preserved : goal.loop-other-preserved
loop-other-preserved c =
    next_left _ c.loop-other.other-index c.loop-other.left c.len.result c.in_ok-left.left c.args.place c.other-item.result c.loop-other-test.true c.other-item.is c.len.ensures c.loop-other.invariant
    c.in_ok-left.ensures

pub returns-in_err-left : goal.returns-in_err-left
returns-in_err-left c =
    rw c.from_residual.ensures
    (too_short c.args.arrays.now c.args.array c.min.result c.loop-other.other-index c.loop-other.left c.len.result c.args.place c.other-item.result c.min.ensures c.loop-other-test.true c.other-item.is
    c.len.ensures c.loop-other.invariant c.in_err-left.ensures)

pub returns : goal.returns
returns c =
    all_before c.args.arrays.now c.args.array c.min.result c.loop-other.other-index c.loop-other.left c.args.place c.min.ensures c.loop-other-test.false c.loop-other.invariant
