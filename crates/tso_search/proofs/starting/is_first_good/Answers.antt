use Rattle.std.proofs.Common.{◌∙◌, sym}
use Rattle.tso_search.proofs.StartLemmas.{first_judged}
use Rattle.tso_search.proofs.starting.is_first_good.Goals as goal

pub returns : goal.returns
returns c =
    first_judged c.args.checked.now.client c.args.ground.now c.args.store.now.states c.in-Some.state (sym c.in_ok-state.ensures.state ∙ c.in-Some.is) c.requires c.is_good.result c.is_good.ensures.good c.is_good.ensures.bad
