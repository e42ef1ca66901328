-- Where control goes in a running call: along the paths of its procedure.
use Rattle.std.specs.Prelude.{◌≡◌, ℕ, ◌<◌, ◌≤◌, length, take, Option, None, Some, slice_get, IsTrue}
use Rattle.tso_word.specs.declared.Condition.{Condition}
use Rattle.tso_line.specs.declared.instruction.Instruction.{Instruction}
use Rattle.tso_line.specs.declared.instruction.Instruction.TheVariants.{Jump}
use Rattle.tso_prog.specs.declared.client.Client.{Client}
use Rattle.tso_flow.specs.Paths.{is_edge, Reaches}
use Rattle.tso_machine.specs.Activations.{Activation}
use Rattle.tso_machine.specs.Instructions.{back_jumps, instructions_of, is_taken}
use Rattle.tso_model.specs.Labels.{Machine, Running, Stage, Thread}
use Rattle.tso_model.specs.Programs.{Action, Silent, Load, Store, Barrier, Locked, Ret, Fail, Cut}

-- whatever word is read, the call goes on in an activation of which this holds; nothing is said of a call that ends
abbrev pub GoesOnWith : (Activation → Type 0) → Action Activation → Type 0
GoesOnWith P (Silent b) = P b
GoesOnWith P (Load place k) = (word : ℕ) → P (k word)
GoesOnWith P (Store place word b) = P b
GoesOnWith P (Barrier b) = P b
GoesOnWith P (Locked place new k) = (word : ℕ) → P (k word)
GoesOnWith P (Ret answer) = Unit {0}
GoesOnWith P (Fail kind) = Unit {0}
GoesOnWith P Cut = Unit {0}

-- the next instruction of a call, if one stands at its position
abbrev pub instruction_at : Client → Activation → Option (Instruction ℕ ℕ)
instruction_at c a = slice_get (instructions_of c a.procedure) a.frame.pc

-- control goes on from the one position to the other, in one procedure
pub record IsNext (c : Client) (a b : Activation) : Type 0 where
  pub procedure : b.procedure ≡ a.procedure
  pub edge : IsTrue (is_edge None (instructions_of c a.procedure) a.frame.pc b.frame.pc)

-- a path leads from the first instruction of the procedure to the call's position, and an instruction stands there
pub record IsOnPath (c : Client) (a : Activation) : Type 0 where
  pub reached : Reaches None (instructions_of c a.procedure) a.frame.pc
  pub inside : a.frame.pc < length (instructions_of c a.procedure)

-- the next instruction is a jump back that is to be taken, and it was taken as often as its bound allows
pub record IsAtBound (c : Client) (a : Activation) : Type 0 where
  pub condition : Option Condition
  pub target : ℕ
  pub bound : ℕ
  pub jump : instruction_at c a ≡ Some (Jump condition target (Some bound))
  pub back : target ≤ a.frame.pc
  pub taken : IsTrue (is_taken condition a.frame.flags)
  pub count : slice_get a.frame.taken (back_jumps 0 (take a.frame.pc (instructions_of c a.procedure))) ≡ Some bound

-- each running call is on a path
abbrev pub AllOnPaths : Client → Machine Activation → Type 0
AllOnPaths c m = (i : ℕ) (t : Thread Activation) (a : Activation) (st : Stage) → slice_get m.threads i ≡ Some t → t.core ≡ Running a st → IsOnPath c a
