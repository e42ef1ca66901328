use Rattle.tso_scan.proofs.NeighbourLemmas.{rising_by_neighbours}
use Rattle.tso_scan.proofs.neighbours.is_rising.Goals as goal

pub returns : goal.returns
returns c = rising_by_neighbours c.args.states.now.states c.len.result c.rises_between.result c.len.ensures c.rises_between.ensures
