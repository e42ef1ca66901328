use Rattle.std.proofs.Common.{◌∙◌, arith, sym, subst}
use Rattle.tso_search.proofs.SearchLemmas.{IsNew, IsNewState, err_only, good_as, good_below, good_with, more_than, new_goes_on, new_is_later, new_is_next, new_is_within, new_state, one_stop_at, stepped_new, stepped_nowhere, stepped_old, stop_at}
use Rattle.tso_search.specs.Searched.{IsStop}
use Rattle.tso_search.proofs.following.follow.Goals as goal

pub next_of-requires-clause-one_stop : goal.next_of-requires-clause-one_stop
next_of-requires-clause-one_stop c = one_stop_at c.args.checked.now.client c.args.store.now.client c.args.ground.now c.args.store.now.states c.args.origins.now.items c.args.number c.requires.client c.requires.begun

pub returns-in_default-clause-good : goal.returns-in_default-clause-good
returns-in_default-clause-good c =
    let found = stepped_nowhere c.args.checked.now.client c.args.store.now.client c.args.ground.now c.requires.client c.args.store.now.states c.next_of.new.store.states c.args.number c.args.actor c.in_ok-next.field-0
    c.in_ok-next.ensures.next c.in_default.is in
    good_as c.args.checked.now.client c.args.store.now.states c.next_of.new.store.states c.requires.good found.0

pub returns-in_default-clause-followed : goal.returns-in_default-clause-followed
returns-in_default-clause-followed c =
    let found = stepped_nowhere c.args.checked.now.client c.args.store.now.client c.args.ground.now c.requires.client c.args.store.now.states c.next_of.new.store.states c.args.number c.args.actor c.in_ok-next.field-0
    c.in_ok-next.ensures.next c.in_default.is in
    found.1

pub returns-then-not-next-clause-good : goal.returns-then-not-next-clause-good
returns-then-not-next-clause-good c =
    let found = stepped_old c.args.checked.now.client c.args.store.now.client c.args.ground.now c.requires.client c.args.store.now.states c.next_of.new.store.states c.args.number c.args.actor c.in_ok-next.field-0
    c.in-Some.next c.in_ok-next.ensures.next c.in-Some.is c.if-not-next.true in
    good_as c.args.checked.now.client c.args.store.now.states c.next_of.new.store.states c.requires.good found.0

pub returns-then-not-next-clause-followed : goal.returns-then-not-next-clause-followed
returns-then-not-next-clause-followed c =
    let found = stepped_old c.args.checked.now.client c.args.store.now.client c.args.ground.now c.requires.client c.args.store.now.states c.next_of.new.store.states c.args.number c.args.actor c.in_ok-next.field-0
    c.in-Some.next c.in_ok-next.ensures.next c.in-Some.is c.if-not-next.true in
    found.1

pub returns-in_err-within-clause-stop : goal.returns-in_err-within-clause-stop
returns-in_err-within-clause-stop c =
    let client = c.args.checked.now.client in
    let next : IsNew client c.args.ground.now c.args.store.now.states c.next_of.new.store.states c.keep_origin.new.origins.items c.args.number c.args.actor =
    stepped_new client c.args.store.now.client c.args.ground.now c.args.checked.now.no_fault c.requires.client c.args.store.now.states c.next_of.new.store.states c.args.origins.now.items c.keep_origin.new.origins.items
    c.args.number c.args.actor c.in_ok-next.field-0 c.in-Some.next c.requires.begun c.in_ok-next.ensures.next c.in-Some.is c.if-not-next.false c.in_ok-keep_origin.ensures.ok in
    let (is, more) = c.in_err-within.ensures.err in
    err_only c.from_residual-in_err-within.result c.from_residual-in_err-within.ensures.1 (λ stop same.
    subst (IsStop client c.args.ground.now c.args.limit c.next_of.new.store.states c.keep_origin.new.origins.items) (sym (same ∙ is)) (more_than client c.args.ground.now c.args.limit c.next_of.new.store.states c.keep_origin.new.origins.items next.begun c.states_differ.ensures (omega (arith, more, c.len.ensures))))

pub judge-requires-clause-led : goal.judge-requires-clause-led
judge-requires-clause-led c =
    let client = c.args.checked.now.client in
    let s : IsNewState client c.args.ground.now c.args.store.now.states c.next_of.new.store.states c.args.number c.args.actor c.in-Some.next.0 =
    new_state client c.args.store.now.client c.args.ground.now c.requires.client c.args.store.now.states c.next_of.new.store.states c.args.number c.args.actor c.in_ok-next.field-0 c.in-Some.next
    c.in_ok-next.ensures.next c.in-Some.is c.if-not-next.false c.states_differ.ensures in
    new_is_next client c.args.ground.now _ _ _ _ _ s

pub judge-requires-clause-earlier : goal.judge-requires-clause-earlier
judge-requires-clause-earlier c =
    let client = c.args.checked.now.client in
    let s : IsNewState client c.args.ground.now c.args.store.now.states c.next_of.new.store.states c.args.number c.args.actor c.in-Some.next.0 =
    new_state client c.args.store.now.client c.args.ground.now c.requires.client c.args.store.now.states c.next_of.new.store.states c.args.number c.args.actor c.in_ok-next.field-0 c.in-Some.next
    c.in_ok-next.ensures.next c.in-Some.is c.if-not-next.false c.states_differ.ensures in
    new_is_later client c.args.ground.now _ _ _ _ _ s

pub judge-requires-clause-below : goal.judge-requires-clause-below
judge-requires-clause-below c =
    let client = c.args.checked.now.client in
    let s : IsNewState client c.args.ground.now c.args.store.now.states c.next_of.new.store.states c.args.number c.args.actor c.in-Some.next.0 =
    new_state client c.args.store.now.client c.args.ground.now c.requires.client c.args.store.now.states c.next_of.new.store.states c.args.number c.args.actor c.in_ok-next.field-0 c.in-Some.next
    c.in_ok-next.ensures.next c.in-Some.is c.if-not-next.false c.states_differ.ensures in
    good_below client c.args.ground.now _ _ _ _ _ s c.requires.good

pub returns-in_err-judge-clause-stop : goal.returns-in_err-judge-clause-stop
returns-in_err-judge-clause-stop c =
    let client = c.args.checked.now.client in
    let next : IsNew client c.args.ground.now c.args.store.now.states c.next_of.new.store.states c.keep_origin.new.origins.items c.args.number c.args.actor =
    stepped_new client c.args.store.now.client c.args.ground.now c.args.checked.now.no_fault c.requires.client c.args.store.now.states c.next_of.new.store.states c.args.origins.now.items c.keep_origin.new.origins.items
    c.args.number c.args.actor c.in_ok-next.field-0 c.in-Some.next c.requires.begun c.in_ok-next.ensures.next c.in-Some.is c.if-not-next.false c.in_ok-keep_origin.ensures.ok in
    err_only c.from_residual-in_err-judge.result c.from_residual-in_err-judge.ensures.1 (λ stop same.
    subst (IsStop client c.args.ground.now c.args.limit c.next_of.new.store.states c.keep_origin.new.origins.items) (sym same) (stop_at client c.args.ground.now c.args.limit _ _ c.in-Some.next.0 next.begun _ c.in_err-judge.ensures.stop))

pub returns-clause-on : goal.returns-clause-on
returns-clause-on c =
    let client = c.args.checked.now.client in
    let next : IsNew client c.args.ground.now c.args.store.now.states c.next_of.new.store.states c.keep_origin.new.origins.items c.args.number c.args.actor =
    stepped_new client c.args.store.now.client c.args.ground.now c.args.checked.now.no_fault c.requires.client c.args.store.now.states c.next_of.new.store.states c.args.origins.now.items c.keep_origin.new.origins.items
    c.args.number c.args.actor c.in_ok-next.field-0 c.in-Some.next c.requires.begun c.in_ok-next.ensures.next c.in-Some.is c.if-not-next.false c.in_ok-keep_origin.ensures.ok in
    new_goes_on client c.args.ground.now c.args.limit _ _ _ c.args.number c.args.actor next (let few = c.in_ok-within.ensures.ok in omega (arith, few, c.len.ensures))

pub returns-clause-good : goal.returns-clause-good
returns-clause-good c =
    let client = c.args.checked.now.client in
    let s : IsNewState client c.args.ground.now c.args.store.now.states c.next_of.new.store.states c.args.number c.args.actor c.in-Some.next.0 =
    new_state client c.args.store.now.client c.args.ground.now c.requires.client c.args.store.now.states c.next_of.new.store.states c.args.number c.args.actor c.in_ok-next.field-0 c.in-Some.next
    c.in_ok-next.ensures.next c.in-Some.is c.if-not-next.false c.states_differ.ensures in
    good_with client c.args.ground.now _ _ _ _ _ s c.requires.good c.in_ok-judge.ensures.good

pub returns-clause-followed : goal.returns-clause-followed
returns-clause-followed c =
    let client = c.args.checked.now.client in
    let next : IsNew client c.args.ground.now c.args.store.now.states c.next_of.new.store.states c.keep_origin.new.origins.items c.args.number c.args.actor =
    stepped_new client c.args.store.now.client c.args.ground.now c.args.checked.now.no_fault c.requires.client c.args.store.now.states c.next_of.new.store.states c.args.origins.now.items c.keep_origin.new.origins.items
    c.args.number c.args.actor c.in_ok-next.field-0 c.in-Some.next c.requires.begun c.in_ok-next.ensures.next c.in-Some.is c.if-not-next.false c.in_ok-keep_origin.ensures.ok in
    next.followed

pub returns-clause-new : goal.returns-clause-new
returns-clause-new c =
    let client = c.args.checked.now.client in
    let s : IsNewState client c.args.ground.now c.args.store.now.states c.next_of.new.store.states c.args.number c.args.actor c.in-Some.next.0 =
    new_state client c.args.store.now.client c.args.ground.now c.requires.client c.args.store.now.states c.next_of.new.store.states c.args.number c.args.actor c.in_ok-next.field-0 c.in-Some.next
    c.in_ok-next.ensures.next c.in-Some.is c.if-not-next.false c.states_differ.ensures in
    new_is_within client c.args.ground.now _ _ _ _ _ s
