-- What moves are to steps: a move is steps of its actor, moves end where steps do, and runs by moves dominate runs by steps.
use Rattle.std.specs.Prelude.{◌≡◌, ℕ, ◌≤◌, Bool, true, List, [], ◌∷◌, Option, Some, None, length}
use Rattle.tso_model.specs.Measure.{IsRanked}
use Rattle.tso_model.specs.Programs.{CallKind, Program}
use Rattle.tso_model.specs.Reduce.{Over, Steps}
use Rattle.tso_model.specs.States.{Buffer, State}
use Rattle.tso_model.specs.Steps.{Actor, step, thread_of}
use Rattle.tso_model.specs.Strictness.{AtLeast}
use Rattle.tso_model.specs.WellFormed.{IsWellFormed}
use Rattle.tso_crossing.specs.Moves.{Extent, goes_on, late_move, opened}
use Rattle.tso_crossing.specs.Own.{AreOwn, ReadsNone}

-- each is this one
abbrev pub AllAre : {X : Type 0} → X → List X → Type 0
AllAre x [] = Unit {0}
AllAre x (y ∷ ys) = (y ≡ x) × AllAre x ys

-- a move is steps of its actor
abbrev pub MovesAreSteps : Type 0 → Type 0
MovesAreSteps F =
    (p : Program F) (n : Extent) (s s' : State F) (a : Actor) → late_move p n s a ≡ Some s'
    → (first : State F) × (rest : List Actor) × (step p s a ≡ Some first) × AllAre a rest × Steps (step p) first rest s'

-- no actor of the thread can go on
abbrev pub IsStill : {S : Type 0} → (S → Actor → Option S) → S → ℕ → Type 0
IsStill step s i = (a : Actor) → thread_of a ≡ i → step s a ≡ None

-- a thread has no move exactly where it has no step
abbrev pub MovesEndAlike : Type 0 → Type 0
MovesEndAlike F = (p : Program F) (n : Extent) (s : State F) (i : ℕ) → (IsStill (step p) s i → IsStill (late_move p n) s i) × (IsStill (late_move p n) s i → IsStill (step p) s i)

-- where n is at least the rank, an opening ends only where it can go no further
abbrev pub OpeningsAreWhole : Type 0 → Type 0
OpeningsAreWhole F =
    (p : Program F) (size : ℕ) (sound : CallKind → F → Bool) (rank : F → ℕ) → IsRanked p size sound rank
    → (readable : ℕ → Option ℕ) (n : ℕ) (b : Buffer) (k : CallKind) (f : F) → sound k f ≡ true → rank f ≤ n → goes_on readable b (p.next (opened p readable n b f)) ≡ None

-- an end that moves reach, and that is at least as strict as t
pub record IsDominated {F : Type 0} (p : Program F) (n : Extent) (s t : State F) : Type 0 where
  pub moves : List Actor
  pub end : State F
  pub run : Steps (late_move p n) s moves end
  pub over : Over (late_move p n) end
  pub stricter : AtLeast end t

-- each end that steps reach from a well-formed state is dominated, as each from the first state is, where no other thread writes what
-- a thread's openings may read
abbrev pub LateRunsDominate : Type 0 → Type 0
LateRunsDominate F =
    (p : Program F) (n : Extent) (size : ℕ) (sound : CallKind → F → Bool) (rank : F → ℕ) → IsRanked p size sound rank
    → (s t : State F) (steps : List Actor) → IsWellFormed p size sound s → AreOwn p n s → Steps (step p) s steps t → Over (step p) t → IsDominated p n s t

-- where no opening reads, all that is asked is a history for each thread
abbrev pub SilentRunsDominate : Type 0 → Type 0
SilentRunsDominate F =
    (p : Program F) (n : Extent) → ReadsNone n
    → (s t : State F) (steps : List Actor) → length s.history ≡ length s.threads → Steps (step p) s steps t → Over (step p) t → IsDominated p n s t
