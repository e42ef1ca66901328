use Rattle.tso_state.proofs.ModelLemmas.{well_formed_alike}
use Rattle.tso_state.proofs.laws.well_formed_is_the_models.Goals as goal

pub returns : goal.returns
returns c = well_formed_alike c.args.checked.now.client
