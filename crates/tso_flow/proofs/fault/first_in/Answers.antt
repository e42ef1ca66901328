use Rattle.std.proofs.Common.{◌≡◌, ℕ, List, length, sym, subst}
use Rattle.std.specs.Prelude.{Option}
use Rattle.tso_line.specs.declared.instruction.Instruction.{Instruction}
use Rattle.tso_prog.specs.declared.client.Procedure.{Procedure}
use Rattle.tso_prog.specs.declared.fault.Fault.{Fault}
use Rattle.tso_flow.specs.declared.location.TheConstants.{LOCATIONS}
use Rattle.tso_flow.specs.Faults.{FaultIn, IsFirst}
use Rattle.tso_flow.specs.First.{ShapeIn, ReadOf}
use Rattle.tso_flow.proofs.Locations.{first_of_procedure}
use Rattle.tso_flow.proofs.fault.first_in.Goals as goal

moved : (R : List (Instruction ℕ ℕ) → List ℕ → Type 0) (steps steps' : List (Instruction ℕ ℕ)) (lines lines' : List ℕ) → steps ≡ steps' → lines ≡ lines' → R steps lines → R steps' lines'
moved R steps steps' lines lines' e f r =
    let S : List (Instruction ℕ ℕ) → Type 0 = λ s. R s lines' in
    subst S e (subst (R steps) f r)

pub returns : goal.returns
returns c =
    let kind = c.args.kind in
    let procedure : Procedure = c.args.procedure.now in
    let a : Option Fault = c.first_shape-shape.result in
    let b : Option Fault = c.in_ok-first_unwritten.field-0 in
    let Shape : List (Instruction ℕ ℕ) → List ℕ → Type 0 = λ s l. IsFirst (ShapeIn s l (length s)) a in
    let Read : List (Instruction ℕ ℕ) → List ℕ → Type 0 = λ s l. IsFirst (ReadOf kind s l LOCATIONS 19) b in
    subst (λ (o : Option Fault). IsFirst (FaultIn kind procedure) o) (sym c.earlier.ensures)
    (first_of_procedure kind procedure a b
    (moved Shape _ procedure.instructions _ procedure.lines c.as_slice-steps.ensures c.as_slice-lines.ensures c.first_shape-shape.ensures)
    (moved Read _ procedure.instructions _ procedure.lines c.as_slice-steps.ensures c.as_slice-lines.ensures c.in_ok-first_unwritten.ensures))
