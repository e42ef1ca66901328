use Rattle.tso_model.proofs.First as lemmas
use Rattle.tso_model.proofs.reduction.prologue_comes_first.Goals as goal

pub returns : goal.returns
returns g c = lemmas.prologue_comes_first _
