use Rattle.std.proofs.Common.{◌∙◌, sym}
use Rattle.tso_state.proofs.ViewLemmas.{running_procedure-last}
use Rattle.tso_state.proofs.viewed.running_procedure.Goals as goal

pub returns-in-len1-up : goal.returns-in-len1-up
returns-in-len1-up c = c.from.ensures ∙ sym (running_procedure-last c.args.calls.now c.last-item.result c.in-len1-up.len_at_least c.last-item.is)
