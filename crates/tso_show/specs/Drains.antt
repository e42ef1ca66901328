-- Where a thread's store buffer drains.
use Rattle.std.specs.Prelude.{◌≡◌, ◌==◌, ◌&&◌, ◌-◌, ◌<◌, ◌≤◌, ℕ, Bool, true, false, List, Some, IsTrue, length, slice_get}
use Rattle.tso_machine.specs.declared.label.Label.{Label}
use Rattle.tso_machine.specs.declared.label.LabelKind.{LabelKind}
use Rattle.tso_machine.specs.declared.label.LabelKind.TheVariants.{Drain}

abbrev pub is_drain : LabelKind → Bool
is_drain (Drain place word) = true
is_drain _ = false

abbrev pub is_drain_of : ℕ → Label → Bool
is_drain_of thread label = (label.thread == thread) && is_drain label.kind

-- label n, from 1, is one of those behind the first so many, and drains the thread's buffer
pub record IsDrainAfter (labels : List Label) (from thread n : ℕ) : Type 0 where
  pub behind : from < n
  pub within : n ≤ length labels
  pub label : Label
  pub at : slice_get labels (n - 1) ≡ Some label
  pub drains : IsTrue (is_drain_of thread label)
