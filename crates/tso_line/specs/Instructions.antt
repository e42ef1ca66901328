-- Instructions whose arrays and labels are named in one way or another.
use Rattle.std.specs.Prelude.{Option, Some, None}
use Rattle.tso_line.specs.declared.instruction.Address.{Address}
use Rattle.tso_line.specs.declared.instruction.Instruction.{Instruction}
use Rattle.tso_line.specs.declared.instruction.Instruction.TheVariants as instructions

-- the cell that an instruction reads or writes
abbrev pub address_of : {A L : Type 0} → Instruction A L → Option (Address A)
address_of (instructions.Load to from) = Some from
address_of (instructions.Store to from) = Some to
address_of (instructions.Locked operation cell register) = Some cell
address_of _ = None

-- the label that a jump names
abbrev pub label_of : {A L : Type 0} → Instruction A L → Option L
label_of (instructions.Jump when target bound) = Some target
label_of _ = None

-- the same cell with its array named otherwise
abbrev pub renamed_cell : {A B : Type 0} → (A → B) → Address A → Address B
renamed_cell f cell = record { array = f cell.array; index = cell.index; offset = cell.offset }

-- the same instruction with arrays and labels named otherwise
abbrev pub renamed : {A B L M : Type 0} → (A → B) → (L → M) → Instruction A L → Instruction B M
renamed f g (instructions.Move to from) = instructions.Move to from
renamed f g (instructions.Load to from) = instructions.Load to (renamed_cell f from)
renamed f g (instructions.Store to from) = instructions.Store (renamed_cell f to) from
renamed f g (instructions.Compute operation to from) = instructions.Compute operation to from
renamed f g (instructions.Compare comparison left right) = instructions.Compare comparison left right
renamed f g (instructions.Increment to) = instructions.Increment to
renamed f g (instructions.Decrement to) = instructions.Decrement to
renamed f g (instructions.Jump when target bound) = instructions.Jump when (g target) bound
renamed f g (instructions.Assert condition) = instructions.Assert condition
renamed f g (instructions.Locked operation cell register) = instructions.Locked operation (renamed_cell f cell) register
renamed f g instructions.Fence = instructions.Fence
renamed f g instructions.Nop = instructions.Nop
renamed f g instructions.Pause = instructions.Pause
renamed f g instructions.Return = instructions.Return
