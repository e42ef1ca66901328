use Rattle.std.proofs.Common.{◌∙◌}
use Rattle.tso_state.proofs.ClientLemmas.{kinds-are}
use Rattle.tso_state.proofs.well_formed.kinds_of.Goals as goal

pub returns : goal.returns
returns c = c.calls_of.ensures ∙ kinds-are c.args.client.now c.args.number
