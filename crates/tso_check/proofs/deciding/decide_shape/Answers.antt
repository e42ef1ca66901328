use Rattle.tso_check.proofs.ShapeLemmas.{broken, too_large}
use Rattle.tso_check.proofs.deciding.decide_shape.Goals as goal

pub returns-in-Cut : goal.returns-in-Cut
returns-in-Cut c = λ client. rw c.rejected.ensures (broken c.args.bytes.now (rw c.in-Cut.is at c.in_ok-skimmed.ensures) client)

pub returns-in-Broken : goal.returns-in-Broken
returns-in-Broken c = λ client. rw c.rejected-in-Broken.ensures (broken c.args.bytes.now (rw c.in-Broken.is at c.in_ok-skimmed.ensures) client)

pub returns-in-Beyond : goal.returns-in-Beyond
returns-in-Beyond c = λ client. rw c.rejected-in-Beyond.ensures (too_large c.args.bytes.now (rw c.in-Beyond.is at c.in_ok-skimmed.ensures) client)
