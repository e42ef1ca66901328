use Rattle.std.proofs.Common.{◌∙◌, sym}
use Rattle.tso_survey.proofs.AcceptedLemmas.{good_verified}
use Rattle.tso_survey.proofs.accepted.Accepted.is_of.Goals as goal

pub returns : goal.returns
returns c = λ same. good_verified c.args.self.now.text.items c.args.text.now c.args.self.now.checked.client (sym c.deref.ensures.value ∙ c.is_same.ensures.0 same) c.args.self.now.verified
