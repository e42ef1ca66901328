-- What holds of each machine that a run leads to.
use Rattle.std.specs.Prelude.{◌≡◌, ◌⊎◌, ℕ, Bool, List, [], ◌∷◌, length, slice_get, Some}
use Rattle.tso_model.specs.Labels.{Core, HasLock, HasRead, HasWritten, Idle, Label, Machine, Outside, Run, Running, Stage, Stopped, Thread, first_machine}
use Rattle.tso_model.specs.Measure.{IsRanked}
use Rattle.tso_model.specs.Programs.{CallKind, Locked, Program}
use Rattle.tso_model.specs.States.{Buffer}
use Rattle.tso_model.specs.WellFormed.{Within}

-- memory and threads are as many as they were
pub record IsAsLarge {F : Type 0} (m m' : Machine F) : Type 0 where
  pub memory : length m'.memory ≡ length m.memory
  pub threads : length m'.threads ≡ length m.threads

-- no label changes how large the memory is, or how many threads there are
abbrev pub SizesStay : Type 0 → Type 0
SizesStay F = (P : Program F) (m m' : Machine F) (ls : List Label) → Run P m ls m' → IsAsLarge m m'

-- each buffered place of each thread is one of so many
abbrev pub AllWithin : {F : Type 0} → ℕ → Machine F → Type 0
AllWithin {F} size m = (i : ℕ) (t : Thread F) → slice_get m.threads i ≡ Some t → Within size t.buffer

-- stores and locked instructions inside the memory leave only its places in buffers
abbrev pub BuffersStayWithin : Type 0 → Type 0
BuffersStayWithin F =
    (P : Program F) (memory : List ℕ) (sound : CallKind → F → Bool) (rank : F → ℕ) → IsRanked P (length memory) sound rank
    → (ls : List Label) (m : Machine F) → Run P (first_machine P memory) ls m → AllWithin (length m.memory) m

-- the core is between Lock and Unlock
abbrev pub IsInSection : {F : Type 0} → Core F → Type 0
IsInSection Idle = ⊥
IsInSection (Running f Outside) = ⊥
IsInSection (Running f HasLock) = Unit {0}
IsInSection (Running f (HasRead old)) = Unit {0}
IsInSection (Running f (HasWritten old)) = Unit {0}
IsInSection Stopped = ⊥

-- the buffer in a section at the place: empty, but for the section's own entry between its Write and its Drain
abbrev pub IsSectionBuffer : Stage → ℕ → (ℕ → ℕ) → Buffer → Type 0
IsSectionBuffer Outside p n buffer = ⊥
IsSectionBuffer HasLock p n buffer = buffer ≡ []
IsSectionBuffer (HasRead old) p n buffer = buffer ≡ []
IsSectionBuffer (HasWritten old) p n buffer = (buffer ≡ (p, n old) ∷ []) ⊎ (buffer ≡ [])

-- the thread is in the section of a locked instruction, and its buffer holds at most the section's own entry
pub record IsHolding {F : Type 0} (P : Program F) (m : Machine F) (i : ℕ) : Type 0 where
  pub thread : Thread F
  pub at : slice_get m.threads i ≡ Some thread
  pub frame : F
  pub stage : Stage
  pub place : ℕ
  pub new : ℕ → ℕ
  pub after : ℕ → F
  pub core : thread.core ≡ Running frame stage
  pub locked : P.next frame ≡ Locked place new after
  pub buffer : IsSectionBuffer stage place new thread.buffer

-- the lock's holder is in its section, and a thread in a section is the lock's holder
pub record IsGuarded {F : Type 0} (P : Program F) (m : Machine F) : Type 0 where
  pub holder : (i : ℕ) → m.lock ≡ Some i → IsHolding P m i
  pub alone : (i : ℕ) (t : Thread F) → slice_get m.threads i ≡ Some t → IsInSection t.core → m.lock ≡ Some i

-- in each machine that a run leads to
abbrev pub SectionsAreGuarded : Type 0 → Type 0
SectionsAreGuarded F = (P : Program F) (memory : List ℕ) (ls : List Label) (m : Machine F) → Run P (first_machine P memory) ls m → IsGuarded P m
