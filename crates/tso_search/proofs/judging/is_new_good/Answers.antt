use Rattle.std.proofs.Common.{sym}
use Rattle.std.proofs.lemmas.Option.{slice_get_within}
use Rattle.tso_search.proofs.GoodLemmas.{good_after, judged_by}
use Rattle.tso_search.proofs.judging.is_new_good.Goals as goal

pub returns-then-stays_explained : goal.returns-then-stays_explained
returns-then-stays_explained c =
    good_after c.args.checked.now.client c.args.store.now.states c.args.number c.args.new c.args.actor c.in-Some.after c.requires.next c.requires.earlier c.requires.below
    (sym c.in-Some.ensures.state) (c.stays_explained.ensures c.if-stays_explained.true c.args.checked.now.client) (c.has_no_stopped.ensures.0 c.if-not-has_no_stopped.false)

pub is_explained-requires-clause-there : goal.is_explained-requires-clause-there
is_explained-requires-clause-there c = slice_get_within c.args.store.now.states c.args.new c.in-Some.after (sym c.in-Some.ensures.state)

pub returns : goal.returns
returns c =
    judged_by c.args.checked.now.client c.args.store.now.states c.args.new c.in-Some.after (sym c.in-Some.ensures.state) (c.has_no_stopped.ensures.0 c.if-not-has_no_stopped.false)
    c.is_explained.result c.is_explained.ensures
