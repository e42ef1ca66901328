-- The forms of instructions, and the ranges of their numbers.
use Rattle.std.specs.Prelude.{ℕ, ◌-◌, ◌/◌, ◌%◌, ◌^◌, Bool, true, false, not, ◌&&◌, ◌==◌, nat_le, if◌then◌else◌, List, [], length, slice_range, Option, Some, None, option_and_then, ℤ, pos, neg_ℤ}
use Rattle.std.specs.Option.{option_map}
use Rattle.tso_word.specs.declared.Condition.{Condition}
use Rattle.tso_line.specs.declared.instruction.Register.{Register}
use Rattle.tso_line.specs.declared.instruction.Source.{Source}
use Rattle.tso_line.specs.declared.instruction.Source.TheVariants as sources
use Rattle.tso_line.specs.declared.instruction.Address.{Address}
use Rattle.tso_line.specs.declared.instruction.Instruction.{Instruction}
use Rattle.tso_line.specs.declared.instruction.Instruction.TheVariants as instructions
use Rattle.tso_line.specs.declared.instruction.LockedOperation.{LockedOperation}
use Rattle.tso_line.specs.declared.instruction.LockedOperation.TheVariants as locked
use Rattle.tso_line.specs.declared.lexeme.Span.{Span}
use Rattle.tso_line.specs.declared.lexeme.Meaning.{Meaning}
use Rattle.tso_line.specs.declared.lexeme.Meaning.TheVariants as meanings
use Rattle.tso_line.specs.declared.lexeme.Mnemonic.{Mnemonic}
use Rattle.tso_line.specs.declared.lexeme.Mnemonic.TheVariants as mnemonics
use Rattle.tso_line.specs.declared.lexeme.Ranged.{Ranged}
use Rattle.tso_line.specs.declared.lexeme.Ranged.TheVariants.{Within, OutOfRange}
use Rattle.tso_line.specs.Ranges.{within}
use Rattle.tso_line.specs.declared.shape.Offset.{Offset}
use Rattle.tso_line.specs.declared.shape.Offset.TheVariants.{Absent, By}
use Rattle.tso_line.specs.declared.shape.Signed.{Signed}
use Rattle.tso_line.specs.declared.shape.Scaled.{Scaled}
use Rattle.tso_line.specs.declared.shape.Cell.{Cell}
use Rattle.tso_line.specs.declared.shape.Operand.{Operand}
use Rattle.tso_line.specs.declared.shape.Operand.TheVariants as operands
use Rattle.tso_line.specs.declared.shape.Operands.{Operands}
use Rattle.tso_line.specs.declared.shape.Operands.TheVariants as lists
use Rattle.tso_line.specs.declared.shape.Statement.{Statement}
use Rattle.tso_line.specs.declared.form.RawSource.{RawSource}
use Rattle.tso_line.specs.declared.form.RawSource.TheVariants as raws
use Rattle.tso_line.specs.declared.form.RawCell.{RawCell}
use Rattle.tso_line.specs.declared.form.Form.{Form}
use Rattle.tso_line.specs.declared.form.Form.TheVariants as forms

-- ---- forms

abbrev pub register_of : Operand → Option Register
register_of (operands.Word s (meanings.Register r)) = Some r
register_of _ = None

abbrev pub source_of : Operand → Option RawSource
source_of (operands.Word s (meanings.Register r)) = Some (raws.Register r)
source_of (operands.Number n) = Some (raws.Number n)
source_of _ = None

-- a known register, times 8
abbrev pub register_times_8 : Meaning → Ranged ℕ → Option Register
register_times_8 (meanings.Register r) (Within n) = if n == 8 then Some r else None
register_times_8 _ _ = None

abbrev pub raw_cell : Span → Offset → Option Register → RawCell
raw_cell array offset index = record { array = array; index = index; offset = offset }

abbrev pub indexed : Span → Offset → Option Scaled → Option RawCell
indexed array offset None = Some (raw_cell array offset None)
indexed array offset (Some i) = option_map (λ r. raw_cell array offset (Some r)) (register_times_8 i.register i.scale)

abbrev pub raw_cell_of : Cell → Option RawCell
raw_cell_of c = indexed c.array c.offset c.index

-- mov M, R or I; mov R, M; mov R, R or I
abbrev pub move_form : Operand → Operand → Option Form
move_form (operands.Memory cell) from = option_and_then (λ c. option_map (forms.Store c) (source_of from)) (raw_cell_of cell)
move_form to (operands.Memory cell) = option_and_then (λ r. option_map (forms.Load r) (raw_cell_of cell)) (register_of to)
move_form to from = option_and_then (λ r. option_map (forms.Move r) (source_of from)) (register_of to)

-- R, R and R, I
abbrev pub register_and_source : (Register → RawSource → Form) → Operand → Operand → Option Form
register_and_source make left right = option_and_then (λ r. option_map (make r) (source_of right)) (register_of left)

-- the forms of the instructions that are neither jumps nor locked
abbrev pub plain_form : Mnemonic → Operands → Option Form
plain_form mnemonics.Mov (lists.Two to from) = move_form to from
plain_form (mnemonics.Compute operation) (lists.Two to from) = register_and_source (forms.Compute operation) to from
plain_form (mnemonics.Compare comparison) (lists.Two left right) = register_and_source (forms.Compare comparison) left right
plain_form mnemonics.Increment (lists.One to) = option_map forms.Increment (register_of to)
plain_form mnemonics.Decrement (lists.One to) = option_map forms.Decrement (register_of to)
plain_form mnemonics.Assert (lists.One (operands.Word s (meanings.Condition c))) = Some (forms.Assert c)
plain_form mnemonics.Fence lists.Zero = Some forms.Fence
plain_form mnemonics.Nop lists.Zero = Some forms.Nop
plain_form mnemonics.Pause lists.Zero = Some forms.Pause
plain_form mnemonics.Return lists.Zero = Some forms.Return
plain_form _ _ = None

-- cmpxchg and xadd are written with lock before them, xchg is not
abbrev pub takes_lock : LockedOperation → Bool
takes_lock locked.Exchange = false
takes_lock locked.CompareExchange = true
takes_lock locked.ExchangeAdd = true

-- M, R
abbrev pub locked_form : LockedOperation → Operands → Option Form
locked_form operation (lists.Two (operands.Memory cell) register) = option_and_then (λ c. option_map (forms.Locked operation c) (register_of register)) (raw_cell_of cell)
locked_form operation _ = None

-- a label, perhaps with a bound
abbrev pub jump_form : Option Condition → Operands → Option (Ranged ℕ) → Option Form
jump_form when (lists.One (operands.Word target m)) bound = Some (forms.Jump when target bound)
jump_form when _ bound = None

-- no instruction but a jump has a bound, and lock stands before cmpxchg and xadd alone
abbrev pub form_by : Bool → Meaning → Option (Ranged ℕ) → Operands → Option Form
form_by false (meanings.Mnemonic (mnemonics.Jump when)) bound operands = jump_form when operands bound
form_by lock (meanings.Mnemonic (mnemonics.Locked operation)) None operands = if lock && not (takes_lock operation) then None else locked_form operation operands
form_by false (meanings.Mnemonic mnemonic) None operands = plain_form mnemonic operands
form_by _ _ _ _ = None

abbrev pub form_of : Statement → Option Form
form_of s = form_by s.lock s.mnemonic s.bound s.operands

-- cmpxchg or xadd without lock
abbrev pub lacks_lock_at : Bool → Meaning → Bool
lacks_lock_at false (meanings.Mnemonic (mnemonics.Locked operation)) = takes_lock operation
lacks_lock_at _ _ = false

abbrev pub lacks_lock : Statement → Bool
lacks_lock s = lacks_lock_at s.lock s.mnemonic

-- ---- numbers

-- the word of a number from -least to greatest
abbrev pub in_range : Bool → ℕ → ℕ → ℕ → Option ℕ
in_range true least greatest m = if nat_le m least then Some ((2 ^ 64 - m) % 2 ^ 64) else None
in_range false least greatest m = if nat_le m greatest then Some m else None

abbrev pub word_of : ℕ → ℕ → Signed → Option ℕ
word_of least greatest n = option_and_then (in_range n.negative least greatest) (within n.magnitude)

-- from -2^31 to 2^31-1, sign-extended
abbrev pub narrow : Signed → Option ℕ
narrow n = word_of (2 ^ 31) (2 ^ 31 - 1) n

abbrev pub from_of : RawSource → Option Source
from_of (raws.Register r) = Some (sources.Register r)
from_of (raws.Number n) = option_map sources.Word (narrow n)

abbrev pub signed_number : Bool → ℕ → ℤ
signed_number true m = neg_ℤ (pos m)
signed_number false m = pos m

-- a multiple of 8 from -2^31 to 2^31-1, in cells
abbrev pub cells_at : Bool → ℕ → Option ℤ
cells_at negative m = if m % 8 == 0 && nat_le m (if negative then 2 ^ 31 else 2 ^ 31 - 1) then Some (signed_number negative (m / 8)) else None

abbrev pub cells_of : Offset → Option ℤ
cells_of Absent = Some (pos 0)
cells_of (By n) = option_and_then (cells_at n.negative) (within n.magnitude)

abbrev pub address_of_cell : RawCell → Option (Address Span)
address_of_cell c = option_map (λ offset. record { array = c.array; index = c.index; offset = offset }) (cells_of c.offset)

-- from 0 to 15
abbrev pub bound_at : Ranged ℕ → Ranged (Option ℕ)
bound_at OutOfRange = OutOfRange
bound_at (Within n) = if nat_le n 15 then Within (Some n) else OutOfRange

abbrev pub bound_value : Option (Ranged ℕ) → Ranged (Option ℕ)
bound_value None = Within None
bound_value (Some n) = bound_at n

-- the instruction of a form, if its numbers are in range; a word moved to a register has 64 bits
abbrev pub instruction_of : Form → Option (Instruction Span Span)
instruction_of (forms.Move to (raws.Number n)) = option_map (λ w. instructions.Move to (sources.Word w)) (word_of (2 ^ 63) (2 ^ 64 - 1) n)
instruction_of (forms.Move to (raws.Register r)) = Some (instructions.Move to (sources.Register r))
instruction_of (forms.Load to from) = option_map (instructions.Load to) (address_of_cell from)
instruction_of (forms.Store to from) = option_and_then (λ a. option_map (instructions.Store a) (from_of from)) (address_of_cell to)
instruction_of (forms.Compute operation to from) = option_map (instructions.Compute operation to) (from_of from)
instruction_of (forms.Compare comparison left right) = option_map (instructions.Compare comparison left) (from_of right)
instruction_of (forms.Increment to) = Some (instructions.Increment to)
instruction_of (forms.Decrement to) = Some (instructions.Decrement to)
instruction_of (forms.Jump when target bound) = option_map (instructions.Jump when target) (within (bound_value bound))
instruction_of (forms.Assert c) = Some (instructions.Assert c)
instruction_of (forms.Locked operation cell register) = option_map (λ a. instructions.Locked operation a register) (address_of_cell cell)
instruction_of forms.Fence = Some instructions.Fence
instruction_of forms.Nop = Some instructions.Nop
instruction_of forms.Pause = Some instructions.Pause
instruction_of forms.Return = Some instructions.Return

-- the bytes at a span, none where it is not within the source
abbrev pub text_at : List ℕ → Span → List ℕ
text_at source s = if nat_le s.start s.end && nat_le s.end (length source) then slice_range source s.start s.end else []
