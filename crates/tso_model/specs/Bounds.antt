-- How long runs are, how many labels follow a state, and that each run has an end.
use Rattle.std.specs.Prelude.{◌≡◌, ◌⊎◌, ℕ, Bool, ◌≤◌, List, length}
use Rattle.tso_model.specs.Labels.{By, Ended, Kind, Label, Machine, Run, Step, first_machine}
use Rattle.tso_model.specs.Measure.{AllSound, IsRanked, labels_left, step_limit}
use Rattle.tso_model.specs.Offers.{actor_of}
use Rattle.tso_model.specs.Programs.{CallKind, Program}

-- some label follows
abbrev pub Follows : {F : Type 0} → Program F → Machine F → Type 0
Follows {F} P m = (l : Label) × (m' : Machine F) × Step P m l m'

-- some label follows, or none does: this is decided for each machine
abbrev pub EndsAreDecided : Type 0 → Type 0
EndsAreDecided F = (P : Program F) (m : Machine F) → Ended P m ⊎ Follows P m

-- for each actor, the core or the buffer of a thread, at most one label follows, and it leads to one machine
abbrev pub IsOneEach : {F : Type 0} → Program F → Machine F → Type 0
IsOneEach {F} P m = (l l' : Label) (a b : Machine F) → actor_of l ≡ actor_of l' → Step P m l a → Step P m l' b → (l ≡ l') × (a ≡ b)

-- of three labels of one thread that follow, two are the same
abbrev pub IsTwoEach : {F : Type 0} → Program F → Machine F → Type 0
IsTwoEach {F} P m = (i : ℕ) (x y z : Kind) (a b c : Machine F) → Step P m (By i x) a → Step P m (By i y) b → Step P m (By i z) c →
    (x ≡ y) ⊎ ((y ≡ z) ⊎ (x ≡ z))

-- so at most two labels follow for each thread, one of its core and one of its buffer
pub record AreLabelsFew {F : Type 0} (P : Program F) (m : Machine F) : Type 0 where
  pub one : IsOneEach P m
  pub two : IsTwoEach P m

-- at each machine
abbrev pub LabelsAreFew : Type 0 → Type 0
LabelsAreFew F = (P : Program F) (m : Machine F) → AreLabelsFew P m

-- every run goes on to an ended one
abbrev pub RunsEnd : Type 0 → Type 0
RunsEnd F =
    (P : Program F) (size : ℕ) (sound : CallKind → F → Bool) (rank : F → ℕ) → IsRanked P size sound rank
    → (m : Machine F) → AllSound sound m → (ls : List Label) × (end : Machine F) × Run P m ls end × Ended P end

-- no run from a machine with such frames is longer than what is left there: five labels for each rank, less those taken of a
-- locked instruction, one for each call to come, and one for each buffered store
abbrev pub RunsAreBounded : Type 0 → Type 0
RunsAreBounded F =
    (P : Program F) (size : ℕ) (sound : CallKind → F → Bool) (rank : F → ℕ) → IsRanked P size sound rank
    → (m m' : Machine F) (ls : List Label) → AllSound sound m → Run P m ls m' → length ls ≤ labels_left P rank m

-- no run from the start is longer than the limit
abbrev pub RunsAreShort : Type 0 → Type 0
RunsAreShort F =
    (P : Program F) (size : ℕ) (sound : CallKind → F → Bool) (rank : F → ℕ) → IsRanked P size sound rank
    → (memory : List ℕ) (ls : List Label) (m : Machine F) → Run P (first_machine P memory) ls m → length ls ≤ step_limit P rank P.calls
