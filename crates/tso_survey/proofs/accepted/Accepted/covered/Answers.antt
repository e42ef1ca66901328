use Rattle.tso_survey.proofs.AcceptedLemmas.{covered_good}
use Rattle.tso_survey.proofs.accepted.Accepted.covered.Goals as goal

pub invariant_of-result : goal.invariant_of-result
invariant_of-result c = record {
  verified = covered_good c.args.text.items c.args.self.now.text.items c.args.small.client c.args.self.now.checked.client c.requires.denoted (c.covers.ensures.0 c.if-covers.true) c.args.self.now.verified;
}
