use Rattle.tso_search.proofs.SearchLemmas.{on_both, on_ok, searched_moves}
use Rattle.tso_search.proofs.searching.work.Goals as goal

pub returns-clause-searched : goal.returns-clause-searched
returns-clause-searched c =
    on_both c.follow_all.result c.follow_all.ensures.on c.follow_all.ensures.followed
    (λ on followed. searched_moves c.args.checked.now.client c.args.ground.now c.args.limit c.args.store.now.states c.follow_all.new.store.states c.args.origins.now.items c.follow_all.new.origins.items c.args.number
    c.to_follow-set.result c.requires.searched c.requires.good on c.requires.from c.to_follow-set.ensures followed)

pub returns-clause-stays : goal.returns-clause-stays
returns-clause-stays c = on_ok c.follow_all.result c.follow_all.ensures.on (λ on. on.stays)
