-- What each line that was read by itself keeps: names are names, and numbers are in their ranges.
use Rattle.std.specs.Prelude.{ℕ, ◌-◌, ◌^◌, Bool, true, false, ◌&&◌, ◌||◌, ◌==◌, nat_lt, nat_le, List, [], ◌∷◌, length, Option, Some, None, ℤ, pos, negsuc}
use Rattle.std.specs.List.{list_all}
use Rattle.std.specs.Char.{is_ascii_digit, is_ascii_alphabetic}
use Rattle.tso_text.specs.Bytes.{underscore}
use Rattle.tso_line.specs.declared.instruction.CallKind.{CallKind}
use Rattle.tso_line.specs.declared.instruction.CallKind.TheVariants as calls
use Rattle.tso_line.specs.declared.instruction.Source.{Source}
use Rattle.tso_line.specs.declared.instruction.Source.TheVariants as sources
use Rattle.tso_line.specs.declared.instruction.Instruction.{Instruction}
use Rattle.tso_line.specs.declared.instruction.Instruction.TheVariants.{Move, Load, Store, Compute, Compare, Jump, Locked}
use Rattle.tso_line.specs.Lines.{Line, capacity, array, instruction, before, thread}

-- ---- names

abbrev pub is_letter : ℕ → Bool
is_letter b = is_ascii_alphabetic b || b == underscore

abbrev pub goes_on : ℕ → Bool
goes_on b = is_letter b || is_ascii_digit b

-- a letter or `_`, then letters, digits and `_`
unfoldable pub is_name : List ℕ → Bool
is_name [] = false
is_name (b ∷ bs) = is_letter b && list_all goes_on bs

-- ---- numbers

-- a word of 64 bits
abbrev pub is_word : ℕ → Bool
is_word n = nat_lt n (2 ^ 64)

-- the word of a number from -2^31 to 2^31-1
abbrev pub is_narrow : ℕ → Bool
is_narrow n = nat_lt n (2 ^ 31) || nat_le (2 ^ 64 - 2 ^ 31) n && nat_lt n (2 ^ 64)

-- as many cells of 8 bytes as are from -2^31 to 2^31-1 bytes
abbrev pub is_near : ℤ → Bool
is_near (pos n) = nat_lt n (2 ^ 28)
is_near (negsuc n) = nat_lt n (2 ^ 28)

abbrev pub is_small : Option ℕ → Bool
is_small None = true
is_small (Some n) = nat_le n 15

abbrev pub is_word_source : Source → Bool
is_word_source (sources.Register r) = true
is_word_source (sources.Word w) = is_word w

abbrev pub is_narrow_source : Source → Bool
is_narrow_source (sources.Register r) = true
is_narrow_source (sources.Word w) = is_narrow w

-- the bound of a jump is at most 15
abbrev pub has_small_bound : {A L : Type 0} → Instruction A L → Bool
has_small_bound (Jump when target bound) = is_small bound
has_small_bound _ = true

-- an immediate has 32 bits, or 64 where it is moved to a register; a displacement has 32 bits, and a bound is at most 15
abbrev pub is_in_range : {A L : Type 0} → Instruction A L → Bool
is_in_range (Move to from) = is_word_source from
is_in_range (Load to from) = is_near from.offset
is_in_range (Store to from) = is_near to.offset && is_narrow_source from
is_in_range (Compute operation to from) = is_narrow_source from
is_in_range (Compare comparison left right) = is_narrow_source right
is_in_range (Jump when target bound) = is_small bound
is_in_range (Locked operation cell register) = is_near cell.offset
is_in_range _ = true

-- an argument has 64 bits
abbrev pub is_call : CallKind → Bool
is_call (calls.Push w) = is_word w
is_call calls.Pop = true

-- at least one call, with their arguments in range
abbrev pub are_calls : List CallKind → Bool
are_calls calls = nat_le 1 (length calls) && list_all is_call calls

-- ---- lines

-- a capacity is from 1 to 16, an array has a name and words, and a line of calls has a call
abbrev pub is_proper : Line → Bool
is_proper (capacity n) = nat_le 1 n && nat_le n 16
is_proper (array name words) = is_name name && (nat_le 1 (length words) && list_all is_word words)
is_proper (instruction i lacks) = is_in_range i
is_proper (before calls) = are_calls calls
is_proper (thread calls) = are_calls calls
is_proper _ = true
