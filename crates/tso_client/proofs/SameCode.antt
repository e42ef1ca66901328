-- Clients with the same arrays and instructions do the same at each position.
use Rattle.std.proofs.Common.{◌≡◌, ℕ, List, Option, Some, None, refl, ◌∙◌, ap, slice_get}
use Rattle.tso_flow.specs.declared.location.ProcedureKind.{ProcedureKind}
use Rattle.tso_flow.specs.declared.location.ProcedureKind.TheVariants as procedures
use Rattle.tso_line.specs.declared.instruction.Instruction.{Instruction}
use Rattle.tso_line.specs.declared.instruction.Instruction.TheVariants as the
use Rattle.tso_machine.specs.Activations.{Activation}
use Rattle.tso_machine.specs.Instructions.{action_at, instruction_action, instructions_of, next_action}
use Rattle.tso_machine.specs.Programs.{start_of}
use Rattle.tso_machine.specs.declared.frame.Frame.{Frame}
use Rattle.tso_model.specs.Programs as model
use Rattle.tso_prog.specs.declared.client.Client.{Client}
use Rattle.tso_client.specs.Clients.{AreAlike}

module _ (small large : Client) (s : AreAlike small large) where
  same_code : (name : ProcedureKind) → instructions_of large name ≡ instructions_of small name
  same_code procedures.Push = s.push
  same_code procedures.Pop = s.pop

  same_instruction : (name : ProcedureKind) (f : Frame) (i : Instruction ℕ ℕ) → instruction_action large name f i ≡ instruction_action small name f i
  same_instruction name f (the.Move to from) = refl
  same_instruction name f (the.Load to from) = let e = s.arrays in rw e refl
  same_instruction name f (the.Store to from) = let e = s.arrays in rw e refl
  same_instruction name f (the.Compute operation to from) = refl
  same_instruction name f (the.Compare comparison left right) = refl
  same_instruction name f (the.Increment r) = refl
  same_instruction name f (the.Decrement r) = refl
  same_instruction name f (the.Jump when target bound) = let e = same_code name in rw e refl
  same_instruction name f (the.Assert condition) = refl
  same_instruction name f (the.Locked operation cell r) = let e = s.arrays in rw e refl
  same_instruction name f the.Fence = refl
  same_instruction name f the.Nop = refl
  same_instruction name f the.Pause = refl
  same_instruction name f the.Return = refl

  same_at : (name : ProcedureKind) (f : Frame) (o : Option (Instruction ℕ ℕ)) → action_at large name f o ≡ action_at small name f o
  same_at name f None = refl
  same_at name f (Some i) = same_instruction name f i

  pub same_next : (a : Activation) → next_action large a ≡ next_action small a
  unfolding next_action
  same_next a =
      same_at a.procedure a.frame (slice_get (instructions_of large a.procedure) a.frame.pc)
      ∙ ap (λ (is : List (Instruction ℕ ℕ)). action_at small a.procedure a.frame (slice_get is a.frame.pc)) (same_code a.procedure)

  pub same_start : (k : model.CallKind) → start_of large k ≡ start_of small k
  same_start (model.Push v) = let e = s.push in rw e refl
  same_start model.Pop = let e = s.pop in rw e refl
