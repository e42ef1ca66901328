-- What running calls have in their registers lies in intervals.
use Rattle.std.specs.Prelude.{◌≡◌, ℕ, List, length, Some, slice_get, IsTrue}
use Rattle.tso_flow.specs.Accesses.{register_number}
use Rattle.tso_cells.specs.Intervals.{has, lie_in}
use Rattle.tso_cells.specs.Moved.{moved}
use Rattle.tso_cells.specs.declared.interval.Interval.{Interval}
use Rattle.tso_line.specs.declared.instruction.Instruction.{Instruction}
use Rattle.tso_line.specs.declared.instruction.Register.TheVariants.{Rdi}
use Rattle.tso_machine.specs.Activations.{Activation}
use Rattle.tso_machine.specs.Control.{GoesOnWith}
use Rattle.tso_machine.specs.Instructions.{instructions_of, next_action}
use Rattle.tso_machine.specs.Programs.{start_of}
use Rattle.tso_model.specs.Programs.{CallKind, Pop, Push}
use Rattle.tso_prog.specs.declared.client.Client.{Client}

-- the registers of the running call lie in the intervals
abbrev pub RegistersLie : List Interval → Activation → Type 0
RegistersLie xs a = IsTrue (lie_in xs a.frame.registers)

-- a running call whose registers lie in intervals goes on to one whose registers lie in those that its instruction makes of them, whatever
-- word it reads
abbrev pub RegistersStayWithin : Type 0
RegistersStayWithin = (c : Client) (a : Activation) (i : Instruction ℕ ℕ) (xs : List Interval) → slice_get (instructions_of c a.procedure) a.frame.pc ≡ Some i
    → RegistersLie xs a → GoesOnWith (RegistersLie (moved xs i)) (next_action c a)

-- there are fifteen: that of RDI has this word, and each other one 0
pub record AreFirst (xs : List Interval) (word : ℕ) : Type 0 where
  pub count : length xs ≡ 15
  pub argument : (i : Interval) → slice_get xs (register_number Rdi) ≡ Some i → IsTrue (has i word)
  pub zeros : (n : ℕ) (i : Interval) → slice_get xs n ≡ Some i → (n ≡ register_number Rdi → ⊥) → IsTrue (has i 0)

-- the argument of a push, and 0 of a pop
abbrev pub argument_of : CallKind → ℕ
argument_of (Push v) = v
argument_of Pop = 0

-- a call begins with registers that lie in such intervals
abbrev pub FirstRegistersLie : Type 0
FirstRegistersLie = (c : Client) (kind : CallKind) (xs : List Interval) → AreFirst xs (argument_of kind) → RegistersLie xs (start_of c kind)
