use Rattle.tso_check.proofs.OneVerdict.{one_verdict}
use Rattle.tso_check.proofs.deciding.check_client.Goals as goal

pub returns-clause-exact : goal.returns-clause-exact
returns-clause-exact c = λ v is. one_verdict c.args.checked.now.client c.args.bytes.now c.in_ok-found.found v c.in_ok-found.ensures is
