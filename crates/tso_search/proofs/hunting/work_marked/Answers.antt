use Rattle.tso_search.proofs.SearchLemmas.{hunting_marked}
use Rattle.tso_search.proofs.hunting.work_marked.Goals as goal

pub returns-clause-hunting : goal.returns-clause-hunting
returns-clause-hunting c =
    hunting_marked c.args.checked.now.client c.args.ground.now c.args.limit c.args.store.now.states c.follow_all.new.store.states c.args.origins.now.items c.follow_all.new.origins.items c.args.marks.now c.mark.new.self
    c.args.number c.args.set c.requires.hunting c.requires.there c.requires.chosen c.in_ok-follow_all.ensures.on c.in_ok-follow_all.ensures.good c.in_ok-follow_all.ensures.followed c.in_ok-mark.ensures.marked
