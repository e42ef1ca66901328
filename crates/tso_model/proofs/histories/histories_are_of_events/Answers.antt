use Rattle.tso_model.proofs.Fits as lemmas
use Rattle.tso_model.proofs.histories.histories_are_of_events.Goals as goal

pub returns : goal.returns
returns c = lemmas.after_same
