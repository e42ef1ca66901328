use Rattle.tso_client.proofs.Theorems as lemmas
use Rattle.tso_client.proofs.programs.linearizations_are_renamed.Goals as goal

pub returns : goal.returns
returns g c = lemmas.linearizations_are_renamed
