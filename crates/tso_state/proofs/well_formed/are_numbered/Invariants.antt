use Rattle.std.proofs.Common.{ℕ, ◌<◌, get_or}
use Rattle.tso_hist.specs.declared.call.Call.{Call}
use Rattle.tso_state.specs.Fitting.{IsNumbered}
use Rattle.tso_state.proofs.well_formed.are_numbered.Given as goal

abbrev pub invariant-loop-number : goal.invariant-loop-number
invariant-loop-number l = (k : ℕ) (d : Call) → k < l.number → IsNumbered l.kinds l.width l.thread k (get_or l.calls k d)
