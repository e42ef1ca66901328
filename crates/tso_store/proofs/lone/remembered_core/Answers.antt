use Rattle.std.proofs.Common.{Some, sym, ◌∙◌}
use Rattle.tso_compact.specs.declared.sort.StepKind.TheVariants as kinds
use Rattle.tso_keys.specs.Keys.{state_at}
use Rattle.tso_store.proofs.Alone.{core_if, does_alone, runs_alone}
use Rattle.tso_store.proofs.lone.remembered_core.Goals as goal

pub returns-in-Leaves : goal.returns-in-Leaves
returns-in-Leaves c =
    core_if c.args.client.now (state_at c.args.parts.now c.args.key.now) c.args.thread (Some kinds.Local)
    (runs_alone c.args.client.now c.args.parts.now c.args.key.now c.args.thread c.in_ok-own.own c.in-Leaves.field-0 c.requires.kept c.requires.small (sym c.own_number.ensures ∙ c.in_ok-own.was) c.in-Leaves.ensures)

pub returns-in-Does : goal.returns-in-Does
returns-in-Does c =
    core_if c.args.client.now (state_at c.args.parts.now c.args.key.now) c.args.thread c.lone_motion.result
    (does_alone c.args.client.now c.args.parts.now c.args.key.now c.args.thread c.in_ok-own.own c.in-Does.motion c.lone_motion.result c.requires.kept c.requires.small (sym c.own_number.ensures ∙ c.in_ok-own.was) c.in-Does.ensures c.lone_motion.ensures)
