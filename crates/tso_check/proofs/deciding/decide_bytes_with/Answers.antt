use Rattle.tso_check.proofs.deciding.decide_bytes_with.Goals as goal

pub returns-in-Some : goal.returns-in-Some
returns-in-Some g c = (rw c.in-Some.is at c.in_ok-verdict.ensures) c.args.checked.now.client
