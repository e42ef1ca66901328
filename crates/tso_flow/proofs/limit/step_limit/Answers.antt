use Rattle.std.proofs.Common.{◌≡◌, ℕ, refl, ap, ◌∙◌}
use Rattle.std.specs.Prelude.{sum_by}
use Rattle.tso_line.specs.declared.instruction.CallKind.{CallKind}
use Rattle.tso_line.specs.declared.instruction.CallKind.TheVariants.{Push, Pop}
use Rattle.tso_prog.specs.declared.client.Client.{Client}
use Rattle.tso_flow.specs.Calls.{by_kind, procedure_limit, call_limit, calls_of_client}
use Rattle.tso_flow.proofs.Limits.{sum_all}
use Rattle.tso_flow.proofs.limit.step_limit.Goals as goal

by_procedure : (client : Client) (call : CallKind) → by_kind (procedure_limit client.push) (procedure_limit client.pop) call ≡ call_limit client call
by_procedure client (Push argument) = refl
by_procedure client Pop = refl

pub returns : goal.returns
returns c =
    let client = c.args.client.now in
    let by : CallKind → ℕ = by_kind (procedure_limit client.push) (procedure_limit client.pop) in
    let total : (CallKind → ℕ) → ℕ = λ (f : CallKind → ℕ). sum_by (λ calls. sum_by f calls) (calls_of_client client) in
    let same : by ≡ call_limit client = λ i call. by_procedure client call i in
    rw (c.threads_limit-threads.ensures.exact, c.calls_limit.ensures.exact, c.procedure_limit-push.ensures.exact, c.procedure_limit-pop.ensures.exact, c.as_slice.ensures, c.as_slice-2.ensures)
    (sum_all by client.threads client.prologue ∙ ap total same)
