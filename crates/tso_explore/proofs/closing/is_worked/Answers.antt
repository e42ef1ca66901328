use Rattle.std.proofs.Common.{subst, sym}
use Rattle.tso_choose.specs.Choosing.{IsChoice}
use Rattle.tso_search.proofs.SearchLemmas.{closed_end, closed_moves, ok_as}
use Rattle.tso_search.specs.BySteps.{AreFollowed}
use Rattle.tso_explore.proofs.closing.is_worked.Goals as goal

pub chosen-set-requires : goal.chosen-set-requires
chosen-set-requires c = (c.requires.begun.met c.args.number c.in-Some.view (sym c.in-Some.ensures.state)).plausible.well_formed

pub returns-then-set-eq0 : goal.returns-then-set-eq0
returns-then-set-eq0 c =
    let client = c.args.checked.now.client in
    let none : IsChoice client c.args.table.now c.in-Some.view 0 = subst (λ set. IsChoice client c.args.table.now c.in-Some.view set) c.if-set-eq0.true c.chosen-set.ensures in
    ok_as c.is_good_end.result c.is_good_end.ensures (λ b good is. closed_end client c.args.table.now c.args.store.now.states c.args.number c.in-Some.view (sym c.in-Some.ensures.state) none (good is))

pub returns : goal.returns
returns c = λ is.
    let client = c.args.checked.now.client in
    closed_moves client c.args.table.now c.args.store.now.states c.args.number c.chosen-set.result c.in-Some.view c.requires.begun.met (sym c.in-Some.ensures.state) c.chosen-set.ensures c.if-set-eq0.false
    (subst (λ d. AreFollowed d c.args.store.now.states c.args.store.now.states c.args.number c.chosen-set.result 10) c.requires.client (c.are_followed.ensures is))
