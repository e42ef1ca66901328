use Rattle.tso_client.proofs.Theorems as lemmas
use Rattle.tso_client.proofs.programs.covers_is_transitive.Goals as goal

pub returns : goal.returns
returns g c = lemmas.covers_is_transitive
