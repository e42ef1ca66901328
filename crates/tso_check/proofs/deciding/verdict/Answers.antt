use Rattle.tso_check.proofs.deciding.verdict.Goals as goal

pub returns-in-Some : goal.returns-in-Some
returns-in-Some c = (rw c.in-Some.is at c.in_ok-verdict.ensures) c.args.checked.now.client
