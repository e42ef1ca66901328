use Rattle.tso_check.proofs.OneVerdict.{one_verdict}
use Rattle.tso_check.proofs.laws.verdicts_are_unique.Goals as goal

pub returns : goal.returns
returns c = one_verdict c.args.checked.now.client
