use Rattle.tso_compact.proofs.PathLemmas.{steps_stay_plausible}
use Rattle.tso_compact.proofs.laws.steps_stay_plausible.Goals as goal

pub returns : goal.returns
returns c = steps_stay_plausible c.args.checked.now.client c.args.checked.now.no_fault
