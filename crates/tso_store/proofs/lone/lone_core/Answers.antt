use Rattle.std.proofs.Common.{sym, ◌∙◌}
use Rattle.tso_store.proofs.Alone.{does_alone, no_own, rests_at, runs_alone}
use Rattle.tso_store.proofs.lone.lone_core.Goals as goal

pub returns-in_err-own : goal.returns-in_err-own
returns-in_err-own c =
    c.from_residual.ensures
    ∙ sym (no_own c.args.checked.now.client c.args.parts.now c.args.key.now c.args.thread c.requires.kept c.requires.small (sym c.own_number.ensures ∙ c.in_err-own.was))

pub returns-then-is_resting : goal.returns-then-is_resting
returns-then-is_resting c =
    sym (rests_at c.args.checked.now.client c.args.parts.now c.args.key.now c.args.thread c.in_ok-own.own c.requires.kept c.requires.small (sym c.own_number.ensures ∙ c.in_ok-own.was) (c.is_resting.ensures c.if-is_resting.true))

pub returns-in-Leaves : goal.returns-in-Leaves
returns-in-Leaves c =
    runs_alone c.args.checked.now.client c.args.parts.now c.args.key.now c.args.thread c.in_ok-own.own c.in-Leaves.field-0 c.requires.kept c.requires.small (sym c.own_number.ensures ∙ c.in_ok-own.was) c.in-Leaves.ensures

pub returns-in-Does : goal.returns-in-Does
returns-in-Does c =
    does_alone c.args.checked.now.client c.args.parts.now c.args.key.now c.args.thread c.in_ok-own.own c.in-Does.motion c.lone_motion.result c.requires.kept c.requires.small (sym c.own_number.ensures ∙ c.in_ok-own.was) c.in-Does.ensures c.lone_motion.ensures
