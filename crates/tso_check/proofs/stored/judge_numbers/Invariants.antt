use Rattle.tso_check.proofs.stored.judge_numbers.Given as goal
use Rattle.tso_rec.specs.Bases.{by_steps}
use Rattle.tso_check.specs.Spans.{AreValidBetween, records_with}

abbrev pub invariant-loop-number : goal.invariant-loop-number
invariant-loop-number g l = AreValidBetween l.checked.client (by_steps l.scanned.table) (records_with l.scanned.store.states l.scanned.ends) l.from l.number
