use Rattle.std.proofs.Common.{sym}
use Rattle.tso_show.proofs.Runs.{on_more}
use Rattle.tso_show.proofs.walk.step_on.Goals as goal

pub returns-in-Ok-clause-moved : goal.returns-in-Ok-clause-moved
returns-in-Ok-clause-moved c =
    λ e. on_more c.args.checked.now.client c.args.labels.now c.args.position c.in-Some.label c.args.machine.now c.apply.new.machine (sym c.in-Some.ensures) c.requires c.in-Ok.ensures.step
