use Rattle.tso_client.proofs.Looser as lemmas
use Rattle.tso_client.proofs.programs.looser_objects_serve.Goals as goal

pub returns : goal.returns
returns c = lemmas.looser_objects_serve
