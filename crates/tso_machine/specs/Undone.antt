-- A machine brought back by one step.
use Rattle.std.specs.Prelude.{◌≡◌, ℕ, ◌<◌, List, length, Option, Some, None, slice_get, slice_set}
use Rattle.tso_machine.specs.Changes.{thread_before, FitsBack}
use Rattle.tso_machine.specs.declared.back.Undo.{Undo}
use Rattle.tso_machine.specs.declared.change.ChangeBack.{ChangeBack}
use Rattle.tso_machine.specs.declared.machine.Machine.{Machine}
use Rattle.tso_machine.specs.declared.machine.Thread.{Thread}

-- the word that was at a place before, there again
abbrev pub memory_before : List ℕ → Option (ℕ × ℕ) → List ℕ
memory_before memory None = memory
memory_before memory (Some w) = slice_set memory w.0 w.1

abbrev pub IsWordOf : List ℕ → Option (ℕ × ℕ) → Type 0
IsWordOf memory None = Unit {0}
IsWordOf memory (Some w) = w.0 < length memory

abbrev pub threads_before : List Thread → ℕ → ChangeBack → Option Thread → List Thread
threads_before threads i back None = threads
threads_before threads i back (Some t) = slice_set threads i (thread_before t back)

-- the machine before the step
abbrev pub undone : Machine → Undo → Machine
undone m u = record { memory = memory_before m.memory u.memory; lock = u.lock; threads = threads_before m.threads u.thread u.back (slice_get m.threads u.thread) }

-- the step can be taken back of this machine
pub record FitsUndo (m : Machine) (u : Undo) : Type 0 where
  pub word : IsWordOf m.memory u.memory
  pub thread : u.thread < length m.threads
  pub back : (t : Thread) → slice_get m.threads u.thread ≡ Some t → FitsBack t u.back

-- it brings the machine after the step back to the one before
pub record Undoes (u : Undo) (after before : Machine) : Type 0 where
  pub fits : FitsUndo after u
  pub gives : undone after u ≡ before
