-- The limits of a program that its values keep.
use Rattle.std.specs.Prelude.{ℕ, Bool, true, not, ◌&&◌, nat_lt, nat_le, List, [], ◌∷◌, length}
use Rattle.std.specs.List.{list_all, list_any}
use Rattle.std.specs.Str.{bytes_eq}
use Rattle.tso_line.specs.declared.instruction.CallKind.{CallKind}
use Rattle.tso_line.specs.declared.instruction.Instruction.{Instruction}
use Rattle.tso_line.specs.declared.instruction.Instruction.TheVariants.{Load, Store, Jump, Locked}
use Rattle.tso_line.specs.Proper.{has_small_bound as is_bound_small, is_in_range, is_name, is_word, is_call, are_calls}

-- a jump is taken at most 15 times in one call
abbrev pub has_small_bound : {A L : Type 0} → Instruction A L → Bool
has_small_bound i = is_bound_small i

abbrev pub are_bounds_small : List (Instruction ℕ ℕ) → Bool
are_bounds_small instructions = list_all has_small_bound instructions

-- a label may stand last, behind all instructions
abbrev pub has_target_within : ℕ → Instruction ℕ ℕ → Bool
has_target_within len (Jump when target bound) = nat_le target len
has_target_within len _ = true

abbrev pub are_targets_within : ℕ → List (Instruction ℕ ℕ) → Bool
are_targets_within len instructions = list_all (has_target_within len) instructions

-- ---- what lets a program be written as a text again

-- a letter or `_`, then letters, digits and `_`, at most 32 bytes
abbrev pub is_short_name : List ℕ → Bool
is_short_name name = is_name name && nat_le (length name) 32

-- at least one word, of 64 bits each
abbrev pub are_words : List ℕ → Bool
are_words words = nat_le 1 (length words) && list_all is_word words

-- no name stands twice
abbrev pub are_distinct : List (List ℕ) → Bool
are_distinct [] = true
are_distinct (name ∷ names) = not (list_any (λ other. bytes_eq other name) names) && are_distinct names

-- the number of its array is below this count
abbrev pub has_array_below : {L : Type 0} → ℕ → Instruction ℕ L → Bool
has_array_below count (Load to from) = nat_lt from.array count
has_array_below count (Store to from) = nat_lt to.array count
has_array_below count (Locked operation cell register) = nat_lt cell.array count
has_array_below count _ = true

abbrev pub are_arrays_below : ℕ → List (Instruction ℕ ℕ) → Bool
are_arrays_below count instructions = list_all (has_array_below count) instructions

-- immediates, displacements and bounds are in their ranges
abbrev pub are_in_range : List (Instruction ℕ ℕ) → Bool
are_in_range instructions = list_all is_in_range instructions

-- at most 4 calls, with arguments of 64 bits
abbrev pub is_prologue : List CallKind → Bool
is_prologue calls = nat_le (length calls) 4 && list_all is_call calls

-- from 1 to 4 calls, with arguments of 64 bits
abbrev pub is_thread : List CallKind → Bool
is_thread calls = are_calls calls && nat_le (length calls) 4
