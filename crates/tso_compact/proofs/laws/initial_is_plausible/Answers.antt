use Rattle.tso_compact.proofs.PathLemmas.{initial_is_plausible}
use Rattle.tso_compact.proofs.laws.initial_is_plausible.Goals as goal

pub returns : goal.returns
returns c = initial_is_plausible c.args.checked.now.client
