use Rattle.std.proofs.Common.{◌∙◌, arith, below_more, sym}
use Rattle.tso_keys.specs.Keys.{state_at}
use Rattle.tso_store.proofs.Alone.{first_lone, no_lone}
use Rattle.tso_store.proofs.lone.lone_at.Goals as goal

pub returns-in-Some-clause-first : goal.returns-in-Some-clause-first
returns-in-Some-clause-first c =
    first_lone c.args.checked.now.client (state_at c.args.parts.now c.args.key.now) (record { thread = c.loop-thread.thread; kind = c.in-Some.kind }) (sym c.lone_core.ensures ∙ c.in-Some.is) c.loop-thread.invariant

pub loop-thread-preserved : goal.loop-thread-preserved
loop-thread-preserved c = below_more _ _ c.loop-thread.invariant (sym c.lone_core.ensures ∙ c.in_default.is)

pub returns-clause-first : goal.returns-clause-first
returns-clause-first c =
    no_lone c.args.checked.now.client c.args.parts.now c.args.key.now c.requires.kept
    (λ j lt. c.loop-thread.invariant j (omega (arith, lt, c.loop-thread-test.false)))
