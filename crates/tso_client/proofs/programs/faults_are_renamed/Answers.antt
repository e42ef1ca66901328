use Rattle.tso_client.proofs.Theorems as lemmas
use Rattle.tso_client.proofs.programs.faults_are_renamed.Goals as goal

pub returns : goal.returns
returns c = lemmas.faults_are_renamed
