use Rattle.tso_move.specs.Cost.{cost}
use Rattle.tso_move.specs.Runs.{LeadsTo}
use Rattle.tso_move.proofs.runs.arrive.Given as goal

abbrev pub invariant-run : goal.invariant-run
invariant-run l = LeadsTo l.checked.client l.own l.table l.initial.state l.state

abbrev pub decreases-run : goal.decreases-run
decreases-run l = cost l.checked.client l.state
