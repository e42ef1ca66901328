use Rattle.tso_check.proofs.Goodness.{each_run_is_good}
use Rattle.tso_check.proofs.laws.accepted_runs_are_good.Goals as goal

pub returns : goal.returns
returns c = λ bytes v. each_run_is_good c.args.checked.now.client v.basis v.tree v.valid
