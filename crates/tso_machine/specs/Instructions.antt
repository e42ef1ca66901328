-- What each instruction does (Intel 64, operands of 64 bits): the one place where instructions have a meaning.
use Rattle.std.specs.Prelude.{ℕ, ◌+◌, ◌==◌, nat_le, nat_lt, if◌then◌else◌, Bool, true, false, List, [], ◌∷◌, take, slice_get, slice_set, Option, Some, None, unwrap_or}
use Rattle.tso_word.specs.declared.Flags.{Flags}
use Rattle.tso_word.specs.declared.BitOperation.TheVariants.{And}
use Rattle.tso_word.specs.declared.Condition.{Condition}
use Rattle.tso_word.specs.Word.{sum, difference, bitwise, sum_flags, difference_flags, bitwise_flags, with_carry, holds}
use Rattle.tso_line.specs.declared.instruction.Register.{Register}
use Rattle.tso_line.specs.declared.instruction.Register.TheVariants.{Rax, Rdx}
use Rattle.tso_line.specs.declared.instruction.Operation.{Operation}
use Rattle.tso_line.specs.declared.instruction.Operation.TheVariants.{Add, Sub, Logic}
use Rattle.tso_line.specs.declared.instruction.Comparison.{Comparison}
use Rattle.tso_line.specs.declared.instruction.Comparison.TheVariants.{Cmp, Test}
use Rattle.tso_line.specs.declared.instruction.LockedOperation.{LockedOperation}
use Rattle.tso_line.specs.declared.instruction.LockedOperation.TheVariants.{Exchange, CompareExchange, ExchangeAdd}
use Rattle.tso_line.specs.declared.instruction.Instruction.{Instruction}
use Rattle.tso_line.specs.declared.instruction.Instruction.TheVariants as the
use Rattle.tso_prog.specs.declared.client.Client.{Client}
use Rattle.tso_machine.specs.declared.frame.Frame.{Frame}
use Rattle.tso_flow.specs.Accesses.{register_number}
use Rattle.tso_flow.specs.Calls.{procedure_of_kind}
use Rattle.tso_flow.specs.declared.location.ProcedureKind.{ProcedureKind}
use Rattle.tso_flow.specs.declared.location.ProcedureKind.TheVariants as procedures
use Rattle.tso_machine.specs.Activations.{Activation, activation}
use Rattle.tso_machine.specs.Frames.{register_of, value_of}
use Rattle.tso_machine.specs.Places.{operand_place}
use Rattle.tso_model.specs.Programs.{Action, Answer, Silent, Load, Store, Barrier, Locked, Ret, Fail, Cut, Refused, Done, Value, OutOfRange, FalseAssertion, BadAnswer}

-- ---- frames after an instruction

abbrev pub at_position : ℕ → Frame → Frame
at_position pc f = record f { pc = pc }

-- at the next instruction
abbrev pub at_next : Frame → Frame
at_next f = at_position (f.pc + 1) f

abbrev pub with_register : Register → ℕ → Frame → Frame
with_register r w f = record f { registers = slice_set f.registers (register_number r) w }

abbrev pub with_flags : Flags → Frame → Frame
with_flags flags f = record f { flags = flags }

-- ---- arithmetic and logic

abbrev pub operation_result : Operation → ℕ → ℕ → ℕ
operation_result Add a b = sum a b
operation_result Sub a b = difference a b
operation_result (Logic operation) a b = bitwise operation a b

abbrev pub operation_flags : Operation → ℕ → ℕ → Flags
operation_flags Add a b = sum_flags a b
operation_flags Sub a b = difference_flags a b
operation_flags (Logic operation) a b = bitwise_flags operation a b

-- cmp as sub, test as and
abbrev pub comparison_flags : Comparison → ℕ → ℕ → Flags
comparison_flags Cmp a b = difference_flags a b
comparison_flags Test a b = bitwise_flags And a b

-- the frame after an operation on a register and a word
abbrev pub after_operation : Operation → Register → ℕ → Frame → Frame
after_operation operation to word f =
    at_next (with_flags (operation_flags operation (register_of f to) word) (with_register to (operation_result operation (register_of f to) word) f))

-- the frame after inc, which keeps CF
abbrev pub after_increment : Register → Frame → Frame
after_increment r f = at_next (with_flags (with_carry f.flags.cf (sum_flags (register_of f r) 1)) (with_register r (sum (register_of f r) 1) f))

-- the frame after dec, which keeps CF
abbrev pub after_decrement : Register → Frame → Frame
after_decrement r f = at_next (with_flags (with_carry f.flags.cf (difference_flags (register_of f r) 1)) (with_register r (difference (register_of f r) 1) f))

-- ---- locked instructions

-- the word that they write, where memory has the old one; a compare that fails writes the old word back
abbrev pub new_word : LockedOperation → Register → Frame → ℕ → ℕ
new_word Exchange r f old = register_of f r
new_word CompareExchange r f old = if register_of f Rax == old then register_of f r else old
new_word ExchangeAdd r f old = sum old (register_of f r)

-- the frame after them: xchg and xadd put the old word into the register, a compare that fails puts it into RAX
abbrev pub exchanged : LockedOperation → Register → Frame → ℕ → Frame
exchanged Exchange r f old = with_register r old f
exchanged CompareExchange r f old = with_flags (difference_flags (register_of f Rax) old) (if register_of f Rax == old then f else with_register Rax old f)
exchanged ExchangeAdd r f old = with_flags (sum_flags old (register_of f r)) (with_register r old f)

-- ---- jumps

-- its target is at or before itself
abbrev pub is_back_jump : ℕ → Instruction ℕ ℕ → Bool
is_back_jump at (the.Jump when target bound) = nat_le target at
is_back_jump at _ = false

-- how many back jumps there are, where the first of these instructions stands at this position
abbrev pub back_jumps : ℕ → List (Instruction ℕ ℕ) → ℕ
back_jumps at [] = 0
back_jumps at (i ∷ rest) = (if is_back_jump at i then 1 else 0) + back_jumps (at + 1) rest

abbrev pub is_taken : Option Condition → Flags → Bool
is_taken None flags = true
is_taken (Some condition) flags = holds condition flags

-- a back jump whose count is this is taken while that is below its bound
abbrev pub counted_jump : ProcedureKind → Frame → ℕ → ℕ → ℕ → Option ℕ → Action Activation
counted_jump name f target bound number None = Cut
counted_jump name f target bound number (Some count) =
    if nat_lt count bound then Silent (activation name (record f { pc = target; taken = slice_set f.taken number (count + 1) })) else Cut

abbrev pub jump : ProcedureKind → Frame → ℕ → ℕ → Option ℕ → Action Activation
jump name f number target bound =
    if nat_le target f.pc then counted_jump name f target (unwrap_or bound 0) number (slice_get f.taken number)
    else Silent (activation name (record f { pc = target }))

-- ---- returns

-- a pop that is done has its value in RDX
abbrev pub done_answer : ProcedureKind → Frame → Answer
done_answer procedures.Push f = Done
done_answer procedures.Pop f = Value (register_of f Rdx)

-- RAX says refused or done, and nothing else
abbrev pub returned : ProcedureKind → Frame → Action Activation
returned name f =
    if register_of f Rax == 0 then Ret Refused
    else (if register_of f Rax == 1 then Ret (done_answer name f) else Fail BadAnswer)

-- ---- instructions

-- an access, or the fault of an operand outside its array
abbrev pub at_place : Option ℕ → (ℕ → Action Activation) → Action Activation
at_place None access = Fail OutOfRange
at_place (Some place) access = access place

abbrev pub instructions_of : Client → ProcedureKind → List (Instruction ℕ ℕ)
instructions_of c name = (procedure_of_kind c name).instructions

abbrev pub instruction_action : Client → ProcedureKind → Frame → Instruction ℕ ℕ → Action Activation
instruction_action c name f (the.Move to from) = Silent (activation name (at_next (with_register to (value_of f from) f)))
instruction_action c name f (the.Load to from) = at_place (operand_place c.arrays f from) (λ place. Load place (λ w. activation name (at_next (with_register to w f))))
instruction_action c name f (the.Store to from) = at_place (operand_place c.arrays f to) (λ place. Store place (value_of f from) (activation name (at_next f)))
instruction_action c name f (the.Compute operation to from) = Silent (activation name (after_operation operation to (value_of f from) f))
instruction_action c name f (the.Compare comparison left right) = Silent (activation name (at_next (with_flags (comparison_flags comparison (register_of f left) (value_of f right)) f)))
instruction_action c name f (the.Increment r) = Silent (activation name (after_increment r f))
instruction_action c name f (the.Decrement r) = Silent (activation name (after_decrement r f))
instruction_action c name f (the.Jump when target bound) =
    if is_taken when f.flags then jump name f (back_jumps 0 (take f.pc (instructions_of c name))) target bound
    else Silent (activation name (at_next f))
instruction_action c name f (the.Assert condition) = if holds condition f.flags then Silent (activation name (at_next f)) else Fail FalseAssertion
instruction_action c name f (the.Locked operation cell r) =
    at_place (operand_place c.arrays f cell) (λ place. Locked place (new_word operation r f) (λ old. activation name (at_next (exchanged operation r f old))))
instruction_action c name f the.Fence = Barrier (activation name (at_next f))
instruction_action c name f the.Nop = Silent (activation name (at_next f))
instruction_action c name f the.Pause = Silent (activation name (at_next f))
instruction_action c name f the.Return = returned name f

-- behind the last instruction nothing follows
abbrev pub action_at : Client → ProcedureKind → Frame → Option (Instruction ℕ ℕ) → Action Activation
action_at c name f None = Cut
action_at c name f (Some i) = instruction_action c name f i

-- what the next instruction of a running call does
unfoldable pub next_action : Client → Activation → Action Activation
next_action c a = action_at c a.procedure a.frame (slice_get (instructions_of c a.procedure) a.frame.pc)
