use Rattle.std.proofs.Common.{◌≡◌, ℕ, ◌<◌, Some, slice_get}
use Rattle.tso_cert.specs.Seen.{Keeps, StateIsSeen}
use Rattle.tso_rec.specs.Records.{states_of}
use Rattle.tso_state.specs.declared.state.State.{State}
use Rattle.tso_cert.proofs.intervals.take_leaf.Given as goal

abbrev pub invariant-loop-k : goal.invariant-loop-k
invariant-loop-k l = record {
  keeps : Keeps l.fn.hull l.hull;
  seen : (i : ℕ) (s : State) → i < l.k → slice_get (states_of l.records) i ≡ Some s → StateIsSeen l.hull s;
}
