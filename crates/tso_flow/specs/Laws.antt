-- What a client without a fault of control flow promises of each of its procedures.
use Rattle.std.specs.Prelude.{◌≡◌, ℕ, ◌<◌, false, length, Some, None, slice_get, IsTrue}
use Rattle.tso_line.specs.declared.instruction.Instruction.{Instruction}
use Rattle.tso_prog.specs.declared.client.Procedure.{Procedure}
use Rattle.tso_flow.specs.declared.location.Location.{Location}
use Rattle.tso_flow.specs.declared.location.ProcedureKind.{ProcedureKind}
use Rattle.tso_flow.specs.Accesses.{reads, is_given}
use Rattle.tso_flow.specs.Paths.{goes_on, Reaches}
use Rattle.tso_flow.specs.Faults.{is_back_without_bound, is_forward_with_bound}

-- where control comes from the first instruction, there an instruction stands
abbrev pub StaysWithin : Procedure → Type 0
StaysWithin procedure = (i : ℕ) (j : ℕ) (step : Instruction ℕ ℕ) → Reaches None procedure.instructions i → slice_get procedure.instructions i ≡ Some step → IsTrue (goes_on step i j) → j < length procedure.instructions

-- exactly the jumps back have a bound
abbrev pub HasBounds : Procedure → Type 0
HasBounds procedure = (i : ℕ) (step : Instruction ℕ ℕ) → slice_get procedure.instructions i ≡ Some step → (is_back_without_bound i step ≡ false) × (is_forward_with_bound i step ≡ false)

-- each path that leads to an instruction has written what the instruction reads, but for what the call begins with
abbrev pub ReadsWritten : ProcedureKind → Procedure → Type 0
ReadsWritten kind procedure = (i : ℕ) (step : Instruction ℕ ℕ) (x : Location) → slice_get procedure.instructions i ≡ Some step → IsTrue (reads kind step x) → is_given kind x ≡ false → Reaches (Some x) procedure.instructions i → ⊥
