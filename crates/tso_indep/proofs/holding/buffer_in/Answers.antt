use Rattle.std.proofs.Common.{ap, sym}
use Rattle.tso_state.proofs.ViewLemmas.{none_there}
use Rattle.tso_state.specs.declared.state.Thread.{Thread}
use Rattle.tso_indep.proofs.holding.buffer_in.Goals as goal

pub returns-in-None : goal.returns-in-None
returns-in-None g c = ap (λ (t : Thread). t.buffer) (sym (none_there (g.S.Viewed.state c.args.state.now).threads c.args.number _ (sym c.in-None.ensures)))
