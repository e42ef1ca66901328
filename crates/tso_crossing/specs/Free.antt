-- Valid choices of moves, and free actors: those whose move may be taken before all other threads' moves.
use Rattle.std.specs.Prelude.{◌≡◌, ◌≢◌, ◌⊎◌, ℕ, ◌<◌, Bool, List, [], ◌∷◌, Some, None, length}
use Rattle.tso_model.specs.Measure.{IsRanked}
use Rattle.tso_model.specs.Programs.{CallKind, Program}
use Rattle.tso_model.specs.Reasons.{Far, Future, Holds, NoReturn, Own, Reason, Returns}
use Rattle.tso_model.specs.Reduce.{Has, Persistent}
use Rattle.tso_model.specs.States.{State}
use Rattle.tso_model.specs.Steps.{Actor, Move, thread_of}
use Rattle.tso_model.specs.Strictness.{AtLeast}
use Rattle.tso_model.specs.Table.{IsTableClosed, Table, table_future}
use Rattle.tso_model.specs.WellFormed.{IsWellFormed}
use Rattle.tso_crossing.specs.Late.{IsStill}
use Rattle.tso_crossing.specs.Moves.{Extent, late_move, parts}
use Rattle.tso_crossing.specs.Own.{IsApart}

-- each actor of thread j is chosen, or has no move
abbrev pub IsInside : {F : Type 0} → Program F → Extent → State F → List Actor → ℕ → Type 0
IsInside p n s chosen j = (b : Actor) → thread_of b ≡ j → Has chosen b ⊎ (late_move p n s b ≡ None)

-- thread j is inside, or each of these parts has a reason to come before its steps: for the opening of a call this is `NoReturn`
abbrev pub MayPassThread : {F : Type 0} → Program F → Extent → Future F → State F → List Actor → List (Move F) → ℕ → Type 0
MayPassThread {F} p n f s chosen ms j = IsInside p n s chosen j ⊎ ((m : Move F) → Has ms m → (r : Reason) × Holds p f s chosen m.access m.log j r)

-- the actor has a move whose parts may pass each other thread
abbrev pub IsValid : {F : Type 0} → Program F → Extent → Future F → State F → List Actor → Actor → Type 0
IsValid {F} p n f s chosen a = (ms : List (Move F)) × (parts p n s a ≡ Some ms) × ((j : ℕ) → j < length s.threads → j ≢ thread_of a → MayPassThread p n f s chosen ms j)

-- Chosen actors that are valid are a persistent choice of moves. Which places are a thread's own may be told by another closed table than
-- what may still be accessed.
abbrev pub ValidMovesArePersistent : Type 0 → Type 0
ValidMovesArePersistent F =
    (p : Program F) (n : Extent) (size : ℕ) (sound : CallKind → F → Bool) (rank : F → ℕ) (t u : Table F) → IsRanked p size sound rank → IsTableClosed p sound t → IsTableClosed p sound u
    → (s : State F) (chosen : List Actor) → IsWellFormed p size sound s → IsApart p n (table_future p u) s
    → ((a : Actor) → Has chosen a → IsValid p n (table_future p t) s chosen a) → Persistent (late_move p n) AtLeast s chosen

-- the part of a move needs no chosen actor to come before thread j's steps: its opening, and then its step
pub data PassesAlone {F : Type 0} (p : Program F) (f : Future F) (s : State F) (m : Move F) (j : ℕ) : Type 0 where
  ByNoReturn : Holds p f s [] m.access m.log j NoReturn → PassesAlone p f s m j
  ByOwn : Holds p f s [] m.access m.log j Own → PassesAlone p f s m j
  ByFar : Holds p f s [] m.access m.log j Far → PassesAlone p f s m j
  ByReturns : Holds p f s [] m.access m.log j Returns → PassesAlone p f s m j

-- a free actor: it has a move, and for each other thread that has one each part of it passes
abbrev pub IsFree : {F : Type 0} → Program F → Extent → Future F → State F → Actor → Type 0
IsFree {F} p n f s a =
    (ms : List (Move F)) × (parts p n s a ≡ Some ms) ×
    ((j : ℕ) → j < length s.threads → j ≢ thread_of a → IsStill (late_move p n) s j ⊎ ((m : Move F) → Has ms m → PassesAlone p f s m j))

-- a free actor alone is a persistent choice of moves
abbrev pub FreeIsPersistent : Type 0 → Type 0
FreeIsPersistent F =
    (p : Program F) (n : Extent) (size : ℕ) (sound : CallKind → F → Bool) (rank : F → ℕ) (t u : Table F) → IsRanked p size sound rank → IsTableClosed p sound t → IsTableClosed p sound u
    → (s : State F) (a : Actor) → IsWellFormed p size sound s → IsApart p n (table_future p u) s → IsFree p n (table_future p t) s a → Persistent (late_move p n) AtLeast s (a ∷ [])

-- the actors that are chosen all have a move, and each that has one is
abbrev pub IsWhole : {F : Type 0} → Program F → Extent → State F → List Actor → Type 0
IsWhole {F} p n s chosen = ((c : Actor) → Has chosen c → (s' : State F) × (late_move p n s c ≡ Some s')) × ((b : Actor) (s' : State F) → late_move p n s b ≡ Some s' → Has chosen b)

-- all that have a move are a persistent choice
abbrev pub WholeIsPersistent : Type 0 → Type 0
WholeIsPersistent F = (p : Program F) (n : Extent) (s : State F) (chosen : List Actor) → IsWhole p n s chosen → Persistent (late_move p n) AtLeast s chosen
