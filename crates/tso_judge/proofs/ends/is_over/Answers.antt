use Rattle.std.proofs.Common.{arith, refl}
use Rattle.std.proofs.lemmas.Bool.{false≢true}
use Rattle.tso_judge.proofs.EndLemmas.{all_over, no_step_more}
use Rattle.tso_judge.proofs.ends.is_over.Goals as goal
use Rattle.tso_state.specs.declared.actor.Actor.TheVariants.{Exec, Drain}

pub loop-thread-init : goal.loop-thread-init
loop-thread-init g c = record { each = λ i lt. absurd (omega (arith, lt)) }

pub returns-then-not-has_no_step : goal.returns-then-not-has_no_step
returns-then-not-has_no_step g c = (λ e. absurd (false≢true e), λ over. c.if-not-has_no_step.ensures.1 (record { core = over (Exec c.loop-thread.thread); buffer = over (Drain c.loop-thread.thread) }))

pub loop-thread-preserved : goal.loop-thread-preserved
loop-thread-preserved g c = no_step_more c.args.checked.now.client (g.S.Viewed.state c.args.state.now) c.loop-thread.thread c.loop-thread.invariant (c.if-not-has_no_step.ensures.0 refl)

pub returns : goal.returns
returns g c = (λ e. all_over c.args.checked.now.client (g.S.Viewed.state c.args.state.now) c.loop-thread.thread (omega (arith, c.thread_count-thread-end.ensures)) c.loop-thread.invariant, λ o. refl)
