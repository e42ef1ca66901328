use Rattle.std.proofs.Common.{rules}
use Rattle.tso_search.proofs.SearchLemmas.{done_stays, on_ok, searched_done, still_there}
use Rattle.tso_search.proofs.searching.work_once.Goals as goal

pub returns-then-has-clause-searched : goal.returns-then-has-clause-searched
returns-then-has-clause-searched c =
    searched_done c.args.checked.now.client c.args.ground.now c.args.store.now.states c.args.origins.now.items c.args.marks.now c.args.number c.requires.searched c.requires.done (search rules)

pub returns-clause-done : goal.returns-clause-done
returns-clause-done c = on_ok c.work.result c.work.ensures.stays (λ stays. done_stays c.args.checked.now.client c.args.ground.now c.args.store.now.states c.work.new.store.states c.args.marks.now stays c.requires.done)

pub returns-clause-more : goal.returns-clause-more
returns-clause-more c =
    on_ok c.work.result c.work.ensures.stays (λ stays. still_there c.args.store.now.states c.work.new.store.states c.args.number c.requires.searched.begun.initial stays c.requires.from)
