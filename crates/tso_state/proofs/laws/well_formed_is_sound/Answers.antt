use Rattle.tso_state.proofs.ModelLemmas.{may_be_past_end}
use Rattle.tso_state.proofs.laws.well_formed_is_sound.Goals as goal

pub returns : goal.returns
returns c = may_be_past_end c.args.checked.now.client
