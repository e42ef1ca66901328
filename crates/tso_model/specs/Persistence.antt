-- Why fewer steps suffice: valid choices are persistent, and each end that can be reached is met by a kept one.
use Rattle.std.specs.Prelude.{◌≡◌, ◌≢◌, ℕ, List, ◌∷◌, ◌++◌, Some, None, true, Bool, IsTrue, length, slice_get}
use Rattle.tso_model.specs.Events.{events_of}
use Rattle.tso_model.specs.Labels.{Label, Machine, Run, first_machine}
use Rattle.tso_model.specs.Linear.{IsLinearizable, IsOrder, Placed}
use Rattle.tso_model.specs.Measure.{IsRanked}
use Rattle.tso_model.specs.Objects.{Object}
use Rattle.tso_model.specs.Programs.{CallKind, Program}
use Rattle.tso_model.specs.Prologue.{is_thread_over}
use Rattle.tso_model.specs.Reasons.{Future, IsFuture, Valid}
use Rattle.tso_model.specs.Reduce.{Has, Over, Persistent, Steps}
use Rattle.tso_model.specs.States.{State, begun_by, first_state}
use Rattle.tso_model.specs.Steps.{Actor, step, thread_of}
use Rattle.tso_model.specs.Strictness.{AtLeast}
use Rattle.tso_model.specs.Table.{IsTableClosed, Table, table_future}
use Rattle.tso_model.specs.WellFormed.{IsWellFormed}

-- chosen actors that each have a step and, for each other thread, a reason that holds, are a persistent choice
abbrev pub ValidIsPersistent : Type 0 → Type 0
ValidIsPersistent F =
    (p : Program F) (size : ℕ) (sound : CallKind → F → Bool) (rank : F → ℕ) (t : Table F) → IsRanked p size sound rank → IsTableClosed p sound t
    → (s : State F) (chosen : List Actor) → IsWellFormed p size sound s
    → ((c : Actor) → Has chosen c → Valid p (table_future p t) s chosen c) → Persistent (step p) AtLeast s chosen

-- where an actor has a step at a kept state, this state has a nonempty persistent choice whose steps lead to kept states
abbrev pub IsClosed : {F : Type 0} → Program F → (State F → Bool) → Type 0
IsClosed {F} p kept = (s s' : State F) (a : Actor) → IsTrue (kept s) → step p s a ≡ Some s' →
    (c : Actor) × (rest : List Actor) × Persistent (step p) AtLeast s (c ∷ rest) × ((b : Actor) (s'' : State F) → Has (c ∷ rest) b → step p s b ≡ Some s'' → IsTrue (kept s''))

-- then each end that can be reached is met by a kept end that is at least as strict
abbrev pub EndsAreMet : Type 0 → Type 0
EndsAreMet F = (p : Program F) (kept : State F → Bool) → IsClosed p kept → (s s0 t : State F) (steps : List Actor) → IsTrue (kept s) → AtLeast s s0 →
    Steps (step p) s0 steps t → Over (step p) t → (r : State F) × IsTrue (kept r) × Over (step p) r × AtLeast r t

-- an order of a stricter state's history is one of a looser state's
abbrev pub OrdersServeLooser : Type 0 → Type 0
OrdersServeLooser F = (object : Object) (s t : State F) (order : List Placed) → AtLeast s t → IsOrder object s.history order → IsOrder object t.history order

-- what is linearizable is so at each of its beginnings
abbrev pub BeginningsAreLinearizable : Type 0 → Type 0
BeginningsAreLinearizable F = (P : Program F) (memory : List ℕ) (ls : List Label) (m : Machine F) (object : Object) (more : List Label) → Run P (first_machine P memory) ls m
    → IsLinearizable object (events_of (ls ++ more)) → IsLinearizable object (events_of ls)

-- each step of a well-formed state, reached or not, leads to a well-formed one
abbrev pub StepsStayWellFormed : Type 0 → Type 0
StepsStayWellFormed F =
    (p : Program F) (size : ℕ) (sound : CallKind → F → Bool) (rank : F → ℕ) → IsRanked p size sound rank
    → (s s' : State F) (a : Actor) → IsWellFormed p size sound s → step p s a ≡ Some s' → IsWellFormed p size sound s'

-- the initial state is well-formed
abbrev pub FirstIsWellFormed : Type 0 → Type 0
FirstIsWellFormed F = (p : Program F) (sound : CallKind → F → Bool) (memory : List ℕ) → IsWellFormed p (length memory) sound (first_state p memory)

-- thread j is idle, with no call left and nothing buffered
abbrev pub IsOverAt : {F : Type 0} → Program F → State F → ℕ → Type 0
IsOverAt p s j = is_thread_over p j (begun_by s j) (slice_get s.threads j) ≡ true

-- while the prologue's thread can move, no other thread can; once it is over it stays so, and never moves again
pub record ComesFirst {F : Type 0} (p : Program F) (size : ℕ) (sound : CallKind → F → Bool) (j : ℕ) : Type 0 where
  pub alone : (s s' s'' : State F) (a b : Actor) → IsWellFormed p size sound s → thread_of a ≡ j → thread_of b ≢ j → step p s a ≡ Some s' → step p s b ≡ Some s'' → ⊥
  pub stays : (s s' : State F) (b : Actor) → IsOverAt p s j → step p s b ≡ Some s' → IsOverAt p s' j
  pub still : (s : State F) (a : Actor) → IsOverAt p s j → thread_of a ≡ j → step p s a ≡ None

-- the prologue's thread comes first
abbrev pub ThePrologueComesFirst : Type 0 → Type 0
ThePrologueComesFirst F = (p : Program F) (size : ℕ) (sound : CallKind → F → Bool) (j : ℕ) → p.prologue ≡ Some j → ComesFirst p size sound j

-- over a closed table, what it says of a thread's future holds all that the thread may read and write
abbrev pub TablesHoldFutures : Type 0 → Type 0
TablesHoldFutures F = (p : Program F) (size : ℕ) (sound : CallKind → F → Bool) (t : Table F) → IsTableClosed p sound t → IsFuture p (IsWellFormed p size sound) (table_future p t)

-- where all actors that have a step are chosen, each of them is valid
abbrev pub AllEnabledIsValid : Type 0 → Type 0
AllEnabledIsValid F =
    (p : Program F) (f : Future F) (s : State F) (chosen : List Actor) → ((a : Actor) (s' : State F) → step p s a ≡ Some s' → Has chosen a)
    → (c : Actor) (s' : State F) → step p s c ≡ Some s' → Valid p f s chosen c
