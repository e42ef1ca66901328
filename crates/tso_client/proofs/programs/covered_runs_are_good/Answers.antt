use Rattle.tso_client.proofs.Theorems as lemmas
use Rattle.tso_client.proofs.programs.covered_runs_are_good.Goals as goal

pub returns : goal.returns
returns g c = lemmas.covered_runs_are_good
