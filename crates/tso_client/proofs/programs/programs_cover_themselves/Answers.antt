use Rattle.tso_client.proofs.Theorems as lemmas
use Rattle.tso_client.proofs.programs.programs_cover_themselves.Goals as goal

pub returns : goal.returns
returns g c = lemmas.programs_cover_themselves
