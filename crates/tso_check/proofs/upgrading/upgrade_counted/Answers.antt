use Rattle.tso_check.proofs.UpgradeLemmas.{accepted_error, exact_error}
use Rattle.tso_check.proofs.upgrading.upgrade_counted.Goals as goal

pub returns-clause-exact : goal.returns-clause-exact
returns-clause-exact c = λ answer is none. exact_error c.args.program.now c.args.cert.now (λ r. r.bytes.items) c.upgraded_for.result c.upgraded_for.ensures.refused c.upgraded_for.ensures.upgraded answer is none

pub returns-clause-accepted : goal.returns-clause-accepted
returns-clause-accepted c = λ is. accepted_error c.args.program.now c.args.cert.now c.upgraded_for.result c.upgraded_for.ensures.refused is
