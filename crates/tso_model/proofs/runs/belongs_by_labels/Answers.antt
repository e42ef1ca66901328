use Rattle.tso_model.proofs.Partway as lemmas
use Rattle.tso_model.proofs.runs.belongs_by_labels.Goals as goal

pub returns : goal.returns
returns g c = lemmas.belongs_by_labels
