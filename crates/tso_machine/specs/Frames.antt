-- Frames of running procedures: their words, and their changes.
use Rattle.std.specs.Prelude.{ℕ, slice_index}
use Rattle.tso_line.specs.declared.instruction.Register.{Register}
use Rattle.tso_line.specs.declared.instruction.Source.{Source}
use Rattle.tso_line.specs.declared.instruction.Source.TheVariants as sources
use Rattle.tso_machine.specs.declared.frame.Frame.{Frame}
use Rattle.tso_machine.specs.declared.frame.Patch.{Patch}
use Rattle.tso_flow.specs.Accesses.{register_number}
use Rattle.tso_machine.specs.Registers.{registers_after, taken_after, IsCountOf}

-- the word of a register
abbrev pub register_of : Frame → Register → ℕ
register_of f r = slice_index f.registers (register_number r)

-- the word of a register or an immediate
abbrev pub value_of : Frame → Source → ℕ
value_of f (sources.Register r) = register_of f r
value_of f (sources.Word w) = w

-- the frame with the position and flags of the patch, and perhaps another word in a register and another count
abbrev pub patched : Frame → Patch → Frame
patched f p = record { pc = p.pc; registers = registers_after f.registers p.register; flags = p.flags; taken = taken_after f.taken p.taken }

-- the patch speaks of a count that the frame has
pub record FitsFrame (f : Frame) (p : Patch) : Type 0 where
  pub count : IsCountOf f.taken p.taken
