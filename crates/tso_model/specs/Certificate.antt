-- What a set of kept states with choices must meet so that every run is good.
use Rattle.std.specs.Prelude.{◌≡◌, ℕ, List, ◌∷◌, Some, Bool, IsTrue, length}
use Rattle.tso_model.specs.Events.{events_of}
use Rattle.tso_model.specs.Labels.{Label, Machine, Run, first_machine}
use Rattle.tso_model.specs.Linear.{IsLinearizable, IsOrder, Placed}
use Rattle.tso_model.specs.Measure.{IsRanked}
use Rattle.tso_model.specs.Objects.{Object}
use Rattle.tso_model.specs.Programs.{CallKind, Program}
use Rattle.tso_model.specs.Reasons.{Valid}
use Rattle.tso_model.specs.Reduce.{Has, Over}
use Rattle.tso_model.specs.Faults.{HasFaultOf, IsStoppedIn}
use Rattle.tso_model.specs.States.{State, first_state}
use Rattle.tso_model.specs.Steps.{Actor, step}
use Rattle.tso_model.specs.Table.{IsTableClosed, Table, table_future}
use Rattle.tso_model.specs.WellFormed.{IsWellFormed}

-- a good run: no fault, and the history has a linearization
abbrev pub IsGood : Object → List Label → Type 0
IsGood object ls = ((i : ℕ) → HasFaultOf ls i → ⊥) × IsLinearizable object (events_of ls)

-- the states that pass the test `kept` are a certificate of the program with this memory at first
pub record IsCertificate {F : Type 0} (p : Program F) (memory : List ℕ) (sound : CallKind → F → Bool) (t : Table F) (object : Object) (kept : State F → Bool) : Type 0 where
  -- the table holds all that may be read and written, the first state is kept, and kept states are well-formed
  pub closed : IsTableClosed p sound t
  pub has_initial : IsTrue (kept (first_state p memory))
  pub well_formed : (s : State F) → IsTrue (kept s) → IsWellFormed p (length memory) sound s
  -- where an actor has a step, there are chosen actors, each with valid reasons, and their steps lead to kept states
  pub choices : (s s' : State F) (a : Actor) → IsTrue (kept s) → step p s a ≡ Some s' →
      (c : Actor) × (rest : List Actor) × ((b : Actor) → Has (c ∷ rest) b → Valid p (table_future p t) s (c ∷ rest) b) ×
      ((b : Actor) (s'' : State F) → Has (c ∷ rest) b → step p s b ≡ Some s'' → IsTrue (kept s''))
  -- where none has, no thread is stopped, and there is an order
  pub unstopped : (s : State F) (i : ℕ) → IsTrue (kept s) → Over (step p) s → IsStoppedIn s i → ⊥
  pub orders : (s : State F) → IsTrue (kept s) → Over (step p) s → (order : List Placed) × IsOrder object s.history order

-- THE THEOREM: every run of labels is good, ended or not, inside locked instructions and with full store buffers
abbrev pub EveryRunIsGood : Type 0 → Type 0
EveryRunIsGood F =
    (p : Program F) (memory : List ℕ) (sound : CallKind → F → Bool) (rank : F → ℕ) (t : Table F) (object : Object) (kept : State F → Bool)
    → IsRanked p (length memory) sound rank → IsCertificate p memory sound t object kept
    → (ls : List Label) (m : Machine F) → Run p (first_machine p memory) ls m → IsGood object ls
