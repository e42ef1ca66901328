use Rattle.std.proofs.lemmas.Grind.{merely}
use Rattle.tso_survey.proofs.AcceptedLemmas.{verified_good}
use Rattle.tso_survey.proofs.accepted.Accepted.verified.Goals as goal

pub invariant_of-result : goal.invariant_of-result
invariant_of-result c = record { verified = merely (verified_good c.args.text.items c.args.checked.client c.requires.denoted c.requires.verified) }
