use Rattle.tso_compact.proofs.PathLemmas.{steps_stay_sound}
use Rattle.tso_compact.proofs.laws.steps_stay_sound.Goals as goal

pub returns : goal.returns
returns c = steps_stay_sound c.args.checked.now.client
