use Rattle.std.proofs.Common.{subst}
use Rattle.tso_cert.proofs.LimitPassed.{passed, beyond}
use Rattle.tso_cert.proofs.TreeCode.{is_found}
use Rattle.tso_cert.proofs.Uniqueness.{malformed, reads}
use Rattle.tso_cert.specs.Certificates.{Decodes}
use Rattle.tso_cert.proofs.decoding.decode.Goals as goal

pub returns-clause-found : goal.returns-clause-found
returns-clause-found c = is_found c.args.bytes.now c.whole.result c.whole.ensures

pub returns-clause-only : goal.returns-clause-only
returns-clause-only c = λ t tree spells within. subst (λ f. Decodes c.whole.result f) (reads c.args.bytes.now t tree spells within) c.whole.ensures

pub returns-clause-passed : goal.returns-clause-passed
returns-clause-passed c = λ e. passed c.args.bytes.now (rw e at c.whole.ensures)

pub returns-clause-beyond : goal.returns-clause-beyond
returns-clause-beyond c = λ h. subst (λ f. Decodes c.whole.result f) (beyond c.args.bytes.now h) c.whole.ensures

pub returns-clause-malformed : goal.returns-clause-malformed
returns-clause-malformed c = λ h. subst (λ f. Decodes c.whole.result f) (malformed c.args.bytes.now h) c.whole.ensures
