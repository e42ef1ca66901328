use Rattle.std.proofs.Common.{◌≡◌, [], arith, rules}
use Rattle.std.proofs.lemmas.Option.{slice_get_within}
use Rattle.tso_search.proofs.WayLemmas.{come_earlier, goes_next, way_errs, way_first, way_on}
use Rattle.tso_search.proofs.way.labels_to.Goals as goal

pub way_to-requires-clause-earlier : goal.way_to-requires-clause-earlier
way_to-requires-clause-earlier c = come_earlier c.args.checked.now.client c.args.ground.now c.requires.states c.args.origins.now c.requires.begun.origins

pub way_to-requires-clause-there : goal.way_to-requires-clause-there
way_to-requires-clause-there c =
    let lt = slice_get_within c.requires.states c.args.number c.requires.bad.state c.requires.bad.at in
    let count = c.requires.begun.count in
    omega (arith, lt, count)

pub loop-origin-init : goal.loop-origin-init
loop-origin-init c =
    way_first c.args.checked.now.client c.args.ground.now c.args.origins.now c.args.number c.in_ok-way.way.items c.in_ok-trail.trail c.requires c.in_ok-way.ensures c.in_ok-trail.ensures.trail c.in_ok-trail.ensures.first

pub go_on-requires-clause-trail : goal.go_on-requires-clause-trail
go_on-requires-clause-trail c = c.loop-origin.invariant.trail

pub go_on-requires-clause-goes : goal.go_on-requires-clause-goes
go_on-requires-clause-goes c =
    goes_next c.args.checked.now.client c.args.ground.now c.args.origins.now c.args.number c.loop-origin.way.items c.pop.new.self.items c.in-Some.origin c.loop-origin.trail c.loop-origin.invariant c.in-Some.ensures.items

pub loop-origin-preserved : goal.loop-origin-preserved
loop-origin-preserved c =
    way_on c.args.checked.now.client c.args.ground.now c.args.origins.now c.args.number c.loop-origin.way.items c.pop.new.self.items c.in-Some.origin c.loop-origin.trail c.go_on.new.trail c.loop-origin.invariant c.in-Some.ensures.items
    c.in_ok-go_on.ensures.leads c.in_ok-go_on.ensures.trail

pub returns : goal.returns
returns c =
    let none : c.loop-origin.way.items ≡ [] = search rules in
    way_errs c.args.checked.now.client c.args.ground.now c.args.origins.now c.args.number c.loop-origin.way.items c.loop-origin.trail c.loop-origin.invariant none
