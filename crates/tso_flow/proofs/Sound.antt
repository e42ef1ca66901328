-- From no fault to the promises of each procedure.
use Rattle.std.proofs.Common.{◌≡◌, ℕ, ◌<◌, inl, inr, Bool, true, false, not, length, get_or, refl, arith}
use Rattle.std.specs.Prelude.{Some, slice_get}
use Rattle.std.proofs.lemmas.Bool.{cases_lt, false_from_ne_true, not_from_false}
use Rattle.std.proofs.lemmas.Option.{slice_get-get_or, slice_get_within}
use Rattle.tso_line.specs.declared.instruction.Instruction.{Instruction}
use Rattle.tso_prog.specs.declared.client.Client.{Client}
use Rattle.tso_prog.specs.declared.client.Procedure.{Procedure}
use Rattle.tso_prog.specs.declared.fault.Code.TheVariants.{E11, E12, E13, E14}
use Rattle.tso_prog.specs.declared.fault.Fault.{Fault}
use Rattle.tso_flow.specs.declared.location.ProcedureKind.{ProcedureKind}
use Rattle.tso_flow.specs.Accesses.{is_given}
use Rattle.tso_flow.specs.Faults.{is_back_without_bound, is_forward_with_bound, FaultIn, HasNoFault}
use Rattle.tso_flow.specs.Calls.{procedure_of_kind}
use Rattle.tso_flow.specs.Laws.{StaysWithin, HasBounds, ReadsWritten}

line_of : (procedure : Procedure) (i : ℕ) (step : Instruction ℕ ℕ) → slice_get procedure.instructions i ≡ Some step → slice_get procedure.lines i ≡ Some (get_or procedure.lines i 0)
line_of procedure i step e =
    let lt : i < length procedure.instructions = slice_get_within procedure.instructions i step e in
    let same : length procedure.lines ≡ length procedure.instructions = procedure.each_has_line in
    slice_get-get_or procedure.lines i 0 (omega arith)

module _ (client : Client) (kind : ProcedureKind) (sound : HasNoFault client) where
  none_in : (fault : Fault) → FaultIn kind (procedure_of_kind client kind) fault → ⊥
  none_in fault f = sound fault (kind, f)

  pub stays_within : StaysWithin (procedure_of_kind client kind)
  stays_within i j step r e g =
      let p : Procedure = procedure_of_kind client kind in
      elim (cases_lt j (length p.instructions)) [
        | inl h ↦ h
        | inr h ↦ absurd (none_in (record { code = E11; line = get_or p.lines i 0 }) (i, step, line_of p i step e, e, (r, (j, g, h))))
      ]

  pub has_bounds : HasBounds (procedure_of_kind client kind)
  has_bounds i step e =
      let p : Procedure = procedure_of_kind client kind in (
        false_from_ne_true (is_back_without_bound i step) (λ b. none_in (record { code = E12; line = get_or p.lines i 0 }) (i, step, line_of p i step e, e, b)),
        false_from_ne_true (is_forward_with_bound i step) (λ b. none_in (record { code = E13; line = get_or p.lines i 0 }) (i, step, line_of p i step e, e, b)),
      )

  pub reads_written : ReadsWritten kind (procedure_of_kind client kind)
  reads_written i step x e r g path =
      let p : Procedure = procedure_of_kind client kind in
      none_in (record { code = E14; line = get_or p.lines i 0 }) (i, step, line_of p i step e, e, (x, (r, not_from_false (is_given kind x) g, path)))
