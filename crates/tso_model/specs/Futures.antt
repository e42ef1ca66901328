-- What a thread reads and drains in any continuation, lock sections included, is in what the table says of its future.
use Rattle.std.specs.Prelude.{◌≡◌, ◌⊎◌, ℕ, Bool, IsTrue, List, [], ◌∷◌}
use Rattle.tso_model.specs.Labels.{By, Drain, Label, Machine, Read, Run, machine_of}
use Rattle.tso_model.specs.Measure.{IsRanked}
use Rattle.tso_model.specs.Programs.{CallKind, Program}
use Rattle.tso_model.specs.States.{State}
use Rattle.tso_model.specs.Table.{IsTableClosed, Table, future_reads, future_writes}
use Rattle.tso_model.specs.WellFormed.{IsWellFormed}

-- the label is a read of the place by thread i
abbrev pub IsReadOf : Label → ℕ → ℕ → Type 0
IsReadOf (By j (Read q v)) i place = (j ≡ i) × (q ≡ place)
IsReadOf (By j _) i place = ⊥

-- the label is a drain of the place by thread i
abbrev pub IsDrainOf : Label → ℕ → ℕ → Type 0
IsDrainOf (By j (Drain q v)) i place = (j ≡ i) × (q ≡ place)
IsDrainOf (By j _) i place = ⊥

-- some label of the list is a read of the thread at the place
abbrev pub HasReadOf : List Label → ℕ → ℕ → Type 0
HasReadOf [] i place = ⊥
HasReadOf (l ∷ ls) i place = IsReadOf l i place ⊎ HasReadOf ls i place

-- some label of the list is a drain of the thread at the place
abbrev pub HasDrainOf : List Label → ℕ → ℕ → Type 0
HasDrainOf [] i place = ⊥
HasDrainOf (l ∷ ls) i place = IsDrainOf l i place ⊎ HasDrainOf ls i place

-- each read and each drain in the list is in the thread's future at the state
pub record IsForeseen {F : Type 0} (p : Program F) (t : Table F) (s : State F) (ls : List Label) : Type 0 where
  pub reads : (i place : ℕ) → HasReadOf ls i place → IsTrue (future_reads p t s i place)
  pub drains : (i place : ℕ) → HasDrainOf ls i place → IsTrue (future_writes p t s i place)

-- so it is in every run on from a well-formed state
abbrev pub RunsAreForeseen : Type 0 → Type 0
RunsAreForeseen F =
    (p : Program F) (size : ℕ) (sound : CallKind → F → Bool) (rank : F → ℕ) (t : Table F) → IsRanked p size sound rank → IsTableClosed p sound t
    → (s : State F) (ls : List Label) (m : Machine F) → IsWellFormed p size sound s → Run p (machine_of s) ls m → IsForeseen p t s ls
