-- Positions that a search has marked.
use Rattle.std.specs.Prelude.{◌≡◌, ◌⊎◌, ℕ, ◌<◌, Bool, true, false, not, List, length, Option, Some, slice_index_or}
use Rattle.std.specs.List.{count_by}
use Rattle.tso_line.specs.declared.instruction.Instruction.{Instruction}
use Rattle.tso_flow.specs.declared.location.Location.{Location}
use Rattle.tso_flow.specs.Paths.{goes_on_from, is_edge, Reaches}

abbrev pub is_marked : List Bool → ℕ → Bool
is_marked marks k = slice_index_or marks k false

-- how many positions are not marked
abbrev pub unmarked : List Bool → ℕ
unmarked marks = count_by not marks

-- what is marked stays marked
abbrev pub Keeps : List Bool → List Bool → Type 0
Keeps before after = (k : ℕ) → is_marked before k ≡ true → is_marked after k ≡ true

-- control can come to each marked position
abbrev pub AllReached : Option Location → List (Instruction ℕ ℕ) → List Bool → Type 0
AllReached tracked steps marks = (k : ℕ) → is_marked marks k ≡ true → Reaches tracked steps k

-- where control goes on from a marked position below upto is marked too
abbrev pub IsClosed : Option Location → List (Instruction ℕ ℕ) → List Bool → ℕ → Type 0
IsClosed tracked steps marks upto = (i j : ℕ) → i < upto → is_marked marks i ≡ true → is_edge tracked steps i j ≡ true → j < length marks → is_marked marks j ≡ true

-- what is marked anew are successors of this instruction, if it was marked and leaves unwritten what is looked for
abbrev pub MarksSuccessors : Option Location → Instruction ℕ ℕ → ℕ → List Bool → List Bool → Type 0
MarksSuccessors tracked step i before after =
    (k : ℕ) → is_marked after k ≡ true → (is_marked before k ≡ true) ⊎ ((is_marked before i ≡ true) × (goes_on_from tracked (Some step) i k ≡ true))

-- these successors are all marked
abbrev pub HasSuccessors : Option Location → Instruction ℕ ℕ → ℕ → List Bool → Type 0
HasSuccessors tracked step i marks =
    (k : ℕ) → is_marked marks i ≡ true → goes_on_from tracked (Some step) i k ≡ true → k < length marks → is_marked marks k ≡ true
