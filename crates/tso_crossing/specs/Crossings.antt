-- What a set of kept states must meet so that every run is good, where only moves are followed: at each kept state a free actor
-- moves alone, or all actors that have a move do.
use Rattle.std.specs.Prelude.{◌≡◌, ◌⊎◌, ℕ, List, ◌∷◌, Some, Bool, IsTrue, length}
use Rattle.tso_model.specs.Certificate.{IsGood}
use Rattle.tso_model.specs.Faults.{IsStoppedIn}
use Rattle.tso_model.specs.Labels.{Label, Machine, Run, first_machine}
use Rattle.tso_model.specs.Linear.{IsOrder, Placed}
use Rattle.tso_model.specs.Measure.{IsRanked}
use Rattle.tso_model.specs.Objects.{Object}
use Rattle.tso_model.specs.Programs.{CallKind, Program}
use Rattle.tso_model.specs.Reasons.{Future}
use Rattle.tso_model.specs.Reduce.{Has, Over, Persistent, Steps}
use Rattle.tso_model.specs.States.{State, first_state}
use Rattle.tso_model.specs.Steps.{Actor, step}
use Rattle.tso_model.specs.Strictness.{AtLeast}
use Rattle.tso_model.specs.Table.{IsTableClosed, Table, table_future}
use Rattle.tso_model.specs.WellFormed.{IsWellFormed}
use Rattle.tso_crossing.specs.Free.{IsFree, IsValid}
use Rattle.tso_crossing.specs.Moves.{Extent, late_move}
use Rattle.tso_crossing.specs.Own.{AreOwn, IsApart}

-- where an actor has a move at a kept state, this state has a nonempty persistent choice whose moves lead to kept states
abbrev pub IsLateClosed : {F : Type 0} → Program F → Extent → (State F → Type 0) → Type 0
IsLateClosed {F} p n Kept = (s s' : State F) (a : Actor) → Kept s → late_move p n s a ≡ Some s' →
    (c : Actor) × (rest : List Actor) × Persistent (late_move p n) AtLeast s (c ∷ rest) × ((b : Actor) (s'' : State F) → Has (c ∷ rest) b → late_move p n s b ≡ Some s'' → Kept s'')

-- then each end that steps reach from a kept state is met by a kept end that is at least as strict
abbrev pub LateEndsAreMet : Type 0 → Type 0
LateEndsAreMet F =
    (p : Program F) (n : Extent) (size : ℕ) (sound : CallKind → F → Bool) (rank : F → ℕ) → IsRanked p size sound rank → (kept : State F → Bool) → IsLateClosed p n (λ s. IsTrue (kept s))
    → (s t : State F) (steps : List Actor) → IsTrue (kept s) → IsWellFormed p size sound s → AreOwn p n s → Steps (step p) s steps t → Over (step p) t
    → (r : State F) × IsTrue (kept r) × Over (late_move p n) r × AtLeast r t

-- chosen actors are valid, and their moves lead to kept states
abbrev pub IsChoice : {F : Type 0} → Program F → Extent → Future F → (State F → Type 0) → State F → Type 0
IsChoice {F} p n f Kept s =
    (c : Actor) × (rest : List Actor) × ((b : Actor) → Has (c ∷ rest) b → IsValid p n f s (c ∷ rest) b) ×
    ((b : Actor) (s' : State F) → Has (c ∷ rest) b → late_move p n s b ≡ Some s' → Kept s')

-- a free actor's move leads to a kept state
abbrev pub IsFreely : {F : Type 0} → Program F → Extent → Future F → (State F → Type 0) → State F → Type 0
IsFreely {F} p n f Kept s = (c : Actor) × IsFree p n f s c × ((s' : State F) → late_move p n s c ≡ Some s' → Kept s')

-- all moves lead to kept states
abbrev pub AllLead : {F : Type 0} → Program F → Extent → (State F → Type 0) → State F → Type 0
AllLead {F} p n Kept s = (b : Actor) (s' : State F) → late_move p n s b ≡ Some s' → Kept s'

-- the states of which `Kept` holds are those of a crossing of the program with this memory at first
pub record IsCrossing {F : Type 0} (p : Program F) (n : Extent) (memory : List ℕ) (sound : CallKind → F → Bool) (t u : Table F) (object : Object) (Kept : State F → Type 0) : Type 0 where
  -- the table holds all that may be read and written, the first state is kept, and kept states are well-formed
  pub closed : IsTableClosed p sound t
  pub has_initial : Kept (first_state p memory)
  pub well_formed : (s : State F) → Kept s → IsWellFormed p (length memory) sound s
  -- no other thread writes what a thread's openings may read, but for the prologue's, by a closed table
  pub closed_apart : IsTableClosed p sound u
  pub apart : IsApart p n (table_future p u) (first_state p memory)
  -- where an actor has a move, a free actor's leads to a kept state, or all do, or those of valid actors
  pub choices : (s s' : State F) (a : Actor) → Kept s → late_move p n s a ≡ Some s' → IsFreely p n (table_future p t) Kept s ⊎ (AllLead p n Kept s ⊎ IsChoice p n (table_future p t) Kept s)
  -- where none has, no thread is stopped, and there is an order
  pub unstopped : (s : State F) (i : ℕ) → Kept s → Over (late_move p n) s → IsStoppedIn s i → ⊥
  pub orders : (s : State F) → Kept s → Over (late_move p n) s → (order : List Placed) × IsOrder object s.history order

-- then every run of labels is good, ended or not
abbrev pub EveryCrossedRunIsGood : Type 0 → Type 0
EveryCrossedRunIsGood F =
    (p : Program F) (n : Extent) (memory : List ℕ) (sound : CallKind → F → Bool) (rank : F → ℕ) (t u : Table F) (object : Object) (kept : State F → Bool)
    → IsRanked p (length memory) sound rank → IsCrossing p n memory sound t u object (λ s. IsTrue (kept s))
    → (ls : List Label) (m : Machine F) → Run p (first_machine p memory) ls m → IsGood object ls
