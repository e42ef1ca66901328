use Rattle.std.proofs.Common.{arith, below_more, refl}
use Rattle.std.proofs.lemmas.Bool.{false≢true}
use Rattle.std.proofs.lemmas.Option.{slice_get_within}
use Rattle.tso_foot.specs.Within.{ThreadLies}
use Rattle.tso_foot.proofs.within.is_within.Goals as goal

pub loop-number-init : goal.loop-number-init
loop-number-init g c = λ i lt. absurd (omega (arith, lt))

pub returns-then-not-thread_lies : goal.returns-then-not-thread_lies
returns-then-not-thread_lies g c = (λ e. absurd (false≢true e), λ within. c.if-not-thread_lies.ensures.1 (within c.loop-number.number))

pub loop-number-preserved : goal.loop-number-preserved
loop-number-preserved g c = below_more (ThreadLies c.args.table.now (g.S.Viewed.state c.args.state.now)) c.loop-number.number c.loop-number.invariant (c.if-not-thread_lies.ensures.0 refl)

pub returns : goal.returns
returns g c = (
  λ e i thread at.
      let within = slice_get_within (g.S.Viewed.state c.args.state.now).threads i thread at in
      c.loop-number.invariant i (omega (arith, within, c.loop-number-test.false, c.thread_count-number-end.ensures)) thread at,
  λ within. refl,
)
