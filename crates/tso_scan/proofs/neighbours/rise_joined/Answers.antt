use Rattle.tso_scan.proofs.NeighbourLemmas.{rises_behind}
use Rattle.tso_scan.proofs.neighbours.rise_joined.Goals as goal

pub returns : goal.returns
returns c = λ old others is long left right e.
    rises_behind old others c.args.states.now.states c.args.first is long (left c.if-not-one.false) (right c.if-not-two.false) (c.rises_at.ensures e)
