use Rattle.tso_client.proofs.Theorems as lemmas
use Rattle.tso_client.proofs.programs.events_are_renamed.Goals as goal

pub returns : goal.returns
returns c = lemmas.events_are_renamed
