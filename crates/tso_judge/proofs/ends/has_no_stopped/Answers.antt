use Rattle.std.proofs.Common.{arith, refl}
use Rattle.std.proofs.lemmas.Bool.{false≢true}
use Rattle.tso_judge.proofs.EndLemmas.{none_stopped, not_stopped_more}
use Rattle.tso_judge.proofs.ends.has_no_stopped.Goals as goal

pub loop-number-init : goal.loop-number-init
loop-number-init g c = record { each = λ i lt. absurd (omega (arith, lt)) }

pub returns-then-is_stopped : goal.returns-then-is_stopped
returns-then-is_stopped g c = (λ e. absurd (false≢true e), λ none. absurd (none c.loop-number.number (c.if-is_stopped.ensures.0 refl)))

pub loop-number-preserved : goal.loop-number-preserved
loop-number-preserved g c = not_stopped_more (g.S.Viewed.state c.args.state.now) c.loop-number.number c.loop-number.invariant (λ h. absurd (false≢true (c.if-is_stopped.ensures.1 h)))

pub returns : goal.returns
returns g c = (λ e. none_stopped (g.S.Viewed.state c.args.state.now) c.loop-number.number (omega (arith, c.thread_count-number-end.ensures)) c.loop-number.invariant, λ o. refl)
