use Rattle.std.proofs.Common.{◌≤◌, length}
use Rattle.tso_search.proofs.leaving.without_call.Given as goal

abbrev pub invariant-loop-label : goal.invariant-loop-label
invariant-loop-label l = length l.rest.items ≤ l.label-index
