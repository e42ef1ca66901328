use Rattle.std.proofs.Common.{◌≡◌, ℕ, ◌<◌, Some, slice_get}
use Rattle.tso_cert.specs.Seen.{Keeps, StateIsSeen}
use Rattle.tso_state.specs.declared.state.State.{State}
use Rattle.tso_write.proofs.enclosing.take_all.Given as goal

abbrev pub invariant-loop-number : goal.invariant-loop-number
invariant-loop-number l = record {
  keeps : Keeps l.fn.hull l.hull;
  seen : (i : ℕ) (s : State) → i < l.number → slice_get l.store.states i ≡ Some s → StateIsSeen l.hull s;
}
