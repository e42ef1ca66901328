use Rattle.tso_search.proofs.StartLemmas.{hunting_plain}
use Rattle.tso_search.proofs.narrowing.step_on.Goals as goal

pub returns-clause-hunting : goal.returns-clause-hunting
returns-clause-hunting c =
    hunting_plain c.args.checked.now.client c.args.ground.now 4194304 c.args.store.now.states c.follow_all.new.store.states c.follow_all.new.origins.items c.follow_all.result c.follow_all.ensures.on c.follow_all.ensures.good
