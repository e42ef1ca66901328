use Rattle.tso_client.proofs.Theorems as lemmas
use Rattle.tso_client.proofs.programs.runs_are_covered.Goals as goal

pub returns : goal.returns
returns g c = lemmas.runs_are_covered
