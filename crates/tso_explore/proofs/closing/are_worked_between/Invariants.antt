use Rattle.tso_search.specs.BySteps.{AreWorkedBetween}
use Rattle.tso_explore.proofs.closing.are_worked_between.Given as goal

abbrev pub invariant-loop-number : goal.invariant-loop-number
invariant-loop-number l = AreWorkedBetween l.checked.client l.table l.store.states l.from l.number
