-- What is wrong with a line that stands after others.
use Rattle.std.specs.Prelude.{ℕ, ◌+◌, Bool, true, false, not, ◌&&◌, ◌||◌, nat_lt, nat_le, List, [], ◌∷◌, length, Option, Some, None, is_none, is_some, position, find}
use Rattle.std.specs.List.{list_any}
use Rattle.std.specs.Str.{bytes_eq}
use Rattle.tso_line.specs.declared.instruction.Address.{Address}
use Rattle.tso_prog.specs.declared.draft.Part.{Part}
use Rattle.tso_prog.specs.declared.draft.Part.TheVariants as parts
use Rattle.tso_line.specs.declared.line.Kind.{Kind}
use Rattle.tso_line.specs.declared.line.Kind.TheVariants as kinds
use Rattle.tso_line.specs.declared.line.Slip.{Slip}
use Rattle.tso_line.specs.declared.line.Slip.TheVariants as slips
use Rattle.tso_prog.specs.declared.fault.Code.{Code}
use Rattle.tso_prog.specs.declared.fault.Code.TheVariants.{E03, E04, E05, E06, E07, E09, E10}
use Rattle.tso_line.specs.Instructions.{address_of, label_of}
use Rattle.tso_line.specs.Lines.{Name, Line, array, label, instruction, before, thread, kind_of, slip_of, lacks_lock}
use Rattle.tso_prog.specs.Contents.{Content, opened}

-- ---- E03: out of its part

-- the parts in order, and the lines of each
abbrev pub may_stand : Part → Kind → Bool
may_stand parts.Capacity kinds.Capacity = true
may_stand parts.Mode kinds.Mode = true
may_stand parts.Arrays kinds.Array = true
may_stand parts.Arrays kinds.Push = true
may_stand parts.Push kinds.Target = true
may_stand parts.Push kinds.Instruction = true
may_stand parts.Push kinds.End = true
may_stand parts.Between kinds.Pop = true
may_stand parts.Pop kinds.Target = true
may_stand parts.Pop kinds.Instruction = true
may_stand parts.Pop kinds.End = true
may_stand parts.Prologue kinds.Before = true
may_stand parts.Prologue kinds.Thread = true
may_stand parts.Threads kinds.Thread = true
may_stand _ _ = false

-- a procedure ends only after an instruction
abbrev pub admits : Content → Option Kind → Bool
admits c None = false
admits c (Some kinds.End) = may_stand c.part kinds.End && nat_lt 0 (length (opened c).steps)
admits c (Some kind) = may_stand c.part kind

-- whether the line may stand here
abbrev pub is_in_part : Content → Line → Bool
is_in_part c line = admits c (kind_of line)

-- ---- E06: a name given twice

-- the number of the array of this name
abbrev pub array_number : Content → Name → Option ℕ
array_number c name = position (λ a. bytes_eq a.name name) c.arrays

-- an array, or a label of one procedure, named twice
unfoldable pub repeats : Content → Line → Bool
repeats c (array name words) = is_some (array_number c name)
repeats c (label name) = list_any (λ l. bytes_eq l.name name) (opened c).labels
repeats c _ = false

-- ---- E07: an array that is not there

-- a cell of an array not declared before
abbrev pub lacks_at : Content → Option (Address Name) → Bool
lacks_at c None = false
lacks_at c (Some address) = is_none (array_number c address.array)

-- an instruction that names such a cell
unfoldable pub lacks_array : Content → Line → Bool
lacks_array c (instruction i lacks) = lacks_at c (address_of i)
lacks_array c _ = false

-- ---- E09: a limit passed

-- a label of more than 32 bytes
abbrev pub long_label : Option Name → Bool
long_label None = false
long_label (Some name) = nat_lt 32 (length name)

-- a line has at most 4 calls, and all lines at most 12
abbrev pub passes_calls : Content → ℕ → Bool
passes_calls c count = nat_lt 4 count || nat_lt 12 (c.calls + count)

-- 16 arrays, 256 words in them, 256 instructions in both procedures, 4 threads, 12 calls, names of 32 bytes
unfoldable pub passes_limit : Content → Line → Bool
passes_limit c (array name words) = nat_le 16 (length c.arrays) || nat_lt 256 (c.words + length words) || nat_lt 32 (length name)
passes_limit c (label name) = nat_lt 32 (length name)
passes_limit c (instruction i lacks) = nat_le 256 (length c.push.steps + length c.pop.steps) || long_label (label_of i)
passes_limit c (before calls) = passes_calls c (length calls)
passes_limit c (thread calls) = nat_le 4 (length c.threads) || passes_calls c (length calls)
passes_limit c _ = false

-- ---- the faults of a line

-- whether this is what is wrong with the line by itself
abbrev pub is_slip : Slip → Option Slip → Bool
is_slip slips.Count (Some slips.Count) = true
is_slip slips.Word (Some slips.Word) = true
is_slip slips.Number (Some slips.Number) = true
is_slip _ _ = false

-- whether a line that stands here has this fault
abbrev pub has : Content → Line → Code → Bool
has c line E03 = not (is_in_part c line) || is_slip slips.Count (slip_of line)
has c line E04 = is_slip slips.Word (slip_of line)
has c line E05 = is_slip slips.Number (slip_of line)
has c line E06 = repeats c line
has c line E07 = lacks_array c line
has c line E09 = passes_limit c line
has c line E10 = lacks_lock line
has c line _ = false

-- the faults that a line can have, by their numbers
abbrev pub codes : List Code
codes = E03 ∷ E04 ∷ E05 ∷ E06 ∷ E07 ∷ E09 ∷ E10 ∷ []

-- the lowest of its faults
unfoldable pub fault_at : Content → Line → Option Code
fault_at c line = find (has c line) codes
