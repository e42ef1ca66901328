use Rattle.tso_keys.specs.declared.parts.Parts.{Parts}
use Rattle.tso_parts.proofs.Outcomes.{on_err}
use Rattle.tso_store.proofs.Performed.{can_run, ran}
use Rattle.tso_store.proofs.stepped.step_by_run.Goals as goal

pub returns-in_err-number-clause-err : goal.returns-in_err-number-clause-err
returns-in_err-number-clause-err c =
    on_err c.from_residual.result (can_run c.args.client.now c.args.parts.now c.args.key.now c.args.thread c.args.own c.requires.kept c.requires.small c.requires.own (rw c.procedure_at-procedure.ensures at c.in_err-number.ensures.err))

pub returns-in-Some-clause-step : goal.returns-in-Some-clause-step
returns-in-Some-clause-step c =
    let new : Parts = record { memories = c.args.parts.now.memories; histories = c.args.parts.now.histories; threads = c.run_thread.new.threads } in
    rw c.with_thread.ensures (ran c.args.client.now c.args.parts.now new c.args.key.now c.args.thread c.args.own c.in-Some.number c.requires.kept
    (record { memories = λ i x e. e; histories = λ i x e. e; threads = c.run_thread.ensures.extends; small = c.run_thread.ensures.small })
    c.requires.small c.requires.own (rw c.procedure_at-procedure.ensures at (rw c.in-Some.is at c.in_ok-number.ensures.run)))
