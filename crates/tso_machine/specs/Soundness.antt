-- Which frames can occur in a call of a client, and how many instructions a call may still execute from a frame on.
use Rattle.std.specs.Prelude.{ℕ, ◌+◌, ◌-◌, ◌*◌, nat_le, nat_lt, ◌&&◌, if◌then◌else◌, Bool, true, false, List, [], ◌∷◌, length, sum}
use Rattle.tso_line.specs.declared.instruction.Instruction.{Instruction}
use Rattle.tso_prog.specs.declared.client.Client.{Client}
use Rattle.tso_flow.specs.Calls.{bound_of}
use Rattle.tso_flow.specs.declared.location.ProcedureKind.{ProcedureKind}
use Rattle.tso_flow.specs.declared.location.ProcedureKind.TheVariants as procedures
use Rattle.tso_machine.specs.Activations.{Activation}
use Rattle.tso_machine.specs.Instructions.{instructions_of, is_back_jump}
use Rattle.tso_model.specs.Programs as model

-- the bounds of the back jumps in their order, where the first of these instructions stands at this position
abbrev pub back_bounds : ℕ → List (Instruction ℕ ℕ) → List ℕ
back_bounds at [] = []
back_bounds at (i ∷ rest) = if is_back_jump at i then bound_of i ∷ back_bounds (at + 1) rest else back_bounds (at + 1) rest

-- the bounds of the back jumps of a procedure
abbrev pub bounds_in : Client → ProcedureKind → List ℕ
bounds_in c name = back_bounds 0 (instructions_of c name)

-- there are as many counts as bounds, and each count is at most its bound
abbrev pub are_within : List ℕ → List ℕ → Bool
are_within [] [] = true
are_within [] (bound ∷ bounds) = false
are_within (count ∷ counts) [] = false
are_within (count ∷ counts) (bound ∷ bounds) = nat_le count bound && are_within counts bounds

-- a push runs the procedure push, a pop the procedure pop
abbrev pub runs_procedure : model.CallKind → ProcedureKind → Bool
runs_procedure (model.Push v) procedures.Push = true
runs_procedure (model.Push v) procedures.Pop = false
runs_procedure model.Pop procedures.Push = false
runs_procedure model.Pop procedures.Pop = true

-- the frames that can occur in a call: it runs the call's procedure, its position is at an instruction, and no back jump was
-- taken more often than its bound says
abbrev pub is_sound : Client → model.CallKind → Activation → Bool
is_sound c call a =
    runs_procedure call a.procedure && (nat_lt a.frame.pc (length (instructions_of c a.procedure)) && are_within a.frame.taken (bounds_in c a.procedure))

-- those, and those just behind the last instruction, where an instruction leads that control never comes to: from each of them each
-- instruction leads to one of them again
abbrev pub is_sound_or_past_end : Client → model.CallKind → Activation → Bool
is_sound_or_past_end c call a =
    runs_procedure call a.procedure && (nat_le a.frame.pc (length (instructions_of c a.procedure)) && are_within a.frame.taken (bounds_in c a.procedure))

-- how many instructions may still execute, where this many back jumps may still be taken: between two of them the position grows
abbrev pub instructions_left : ℕ → ℕ → ℕ → ℕ
instructions_left len jumps pc = jumps * len + (len - pc)

-- how many instructions the call may still execute
abbrev pub rank : Client → Activation → ℕ
rank c a = instructions_left (length (instructions_of c a.procedure)) (sum (bounds_in c a.procedure) - sum a.frame.taken) a.frame.pc
