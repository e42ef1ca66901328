use Rattle.std.proofs.Common.{Err, ap, inl, inr}
use Rattle.tso_check.proofs.UpgradeLemmas.{accepted_only, memory_alone, not_upgraded}
use Rattle.tso_check.proofs.upgrading.upgrade.Goals as goal

pub returns-in-Ok-clause-exact : goal.returns-in-Ok-clause-exact
returns-in-Ok-clause-exact c = λ answer is none. absurd (accepted_only c.args.program.now c.args.cert.now answer c.in-Ok.ensures.upgraded.before is none)

pub returns-in-Err-clause-exact : goal.returns-in-Err-clause-exact
returns-in-Err-clause-exact c = λ answer is none.
    elim (not_upgraded c.args.program.now c.args.cert.now c.in-Err.error c.in-Err.ensures.refused answer is none) [ inl same ↦ inl (ap Err same) | inr same ↦ inr (ap Err same) ]

pub returns-in-Err-clause-accepted : goal.returns-in-Err-clause-accepted
returns-in-Err-clause-accepted c = λ is. memory_alone c.args.program.now c.args.cert.now c.in-Err.error c.in-Err.ensures.refused is
