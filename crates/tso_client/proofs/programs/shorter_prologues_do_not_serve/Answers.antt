use Rattle.tso_client.proofs.Prologues as lemmas
use Rattle.tso_client.proofs.programs.shorter_prologues_do_not_serve.Goals as goal

pub returns : goal.returns
returns c = lemmas.shorter_prologues_do_not_serve
