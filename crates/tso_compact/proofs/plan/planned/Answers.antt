use Rattle.tso_compact.proofs.PlanLemmas.{IsCoreMotion, IsDrainMotion, drain_plan, exec_plan, no_plan}
use Rattle.tso_compact.proofs.plan.planned.Goals as goal

pub returns-in_err-thread-clause-is : goal.returns-in_err-thread-clause-is
returns-in_err-thread-clause-is g c =
    no_plan c.args.client.now (g.S.Viewed.state c.args.state.now) c.args.actor c.thread-number.result c.from_residual.result c.thread-number.ensures c.in_err-thread.ensures c.from_residual.ensures

pub returns-in-Exec : goal.returns-in-Exec
returns-in-Exec g c =
    let s = g.S.Viewed.state c.args.state.now in
    let m : IsCoreMotion c.args.client.now c.procedure-procedure.result c.next_call.result c.in_ok-thread.thread.now c.core_motion.result =
    record { is = c.core_motion.ensures.is; fits = c.core_motion.ensures.fits; labels = c.core_motion.ensures.labels } in
    let plan = exec_plan c.args.client.now s c.args.actor c.in-Exec.field-0 c.thread-number.result c.in_ok-thread.thread.now c.procedure-procedure.result c.next_call.result c.core_motion.result
    c.in-Exec.is c.thread-number.ensures c.in_ok-thread.ensures c.procedure-procedure.ensures c.next_call.ensures m in
    record { is = plan.is; there = plan.there; fits = plan.fits; labels = plan.labels }

pub returns-in-Drain : goal.returns-in-Drain
returns-in-Drain g c =
    let s = g.S.Viewed.state c.args.state.now in
    let m : IsDrainMotion c.in_ok-thread.thread.now c.drain_motion.result = record { is = c.drain_motion.ensures.is; fits = c.drain_motion.ensures.fits; labels = c.drain_motion.ensures.labels } in
    let plan = drain_plan c.args.client.now s c.args.actor c.in-Drain.field-0 c.thread-number.result c.in_ok-thread.thread.now c.drain_motion.result
    c.in-Drain.is c.thread-number.ensures c.in_ok-thread.ensures m in
    record { is = plan.is; there = plan.there; fits = plan.fits; labels = plan.labels }
