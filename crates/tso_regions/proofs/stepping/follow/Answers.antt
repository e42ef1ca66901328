use Rattle.tso_regions.proofs.RegionLemmas.{followed_with, met_as, met_with, sound_with, stays_with}
use Rattle.tso_search.proofs.SearchLemmas.{IsNewState, good_below, led_by_steps, new_is_later, new_is_next, new_state, next_by_steps, stepped_nowhere, stepped_old}
use Rattle.tso_search.specs.BySteps.{any_steps}
use Rattle.tso_regions.proofs.stepping.follow.Goals as goal

pub returns-in_err-next-clause-met : goal.returns-in_err-next-clause-met
returns-in_err-next-clause-met c = met_as c.args.checked.now.client c.args.store.now.states c.successor.new.store.states c.requires.sound.met c.in_err-next.ensures.err

pub returns-in_default-clause-met : goal.returns-in_default-clause-met
returns-in_default-clause-met c =
    let found = stepped_nowhere c.args.checked.now.client c.args.store.now.client any_steps c.requires.client c.args.store.now.states c.successor.new.store.states c.args.number c.args.actor c.in_ok-next.field-0
    (next_by_steps _ _ _ _ _ _ _ c.in_ok-next.ensures.step) c.in_default.is in
    met_as c.args.checked.now.client c.args.store.now.states c.successor.new.store.states c.requires.sound.met found.0

pub returns-then-not-next-clause-met : goal.returns-then-not-next-clause-met
returns-then-not-next-clause-met c =
    let found = stepped_old c.args.checked.now.client c.args.store.now.client any_steps c.requires.client c.args.store.now.states c.successor.new.store.states c.args.number c.args.actor c.in_ok-next.field-0
    c.in-Some.next (next_by_steps _ _ _ _ _ _ _ c.in_ok-next.ensures.step) c.in-Some.is c.if-not-next.true in
    met_as c.args.checked.now.client c.args.store.now.states c.successor.new.store.states c.requires.sound.met found.0

pub returns-then-not-next-clause-followed : goal.returns-then-not-next-clause-followed
returns-then-not-next-clause-followed c =
    let found = stepped_old c.args.checked.now.client c.args.store.now.client any_steps c.requires.client c.args.store.now.states c.successor.new.store.states c.args.number c.args.actor c.in_ok-next.field-0
    c.in-Some.next (next_by_steps _ _ _ _ _ _ _ c.in_ok-next.ensures.step) c.in-Some.is c.if-not-next.true in
    found.1

pub judge-requires-clause-next : goal.judge-requires-clause-next
judge-requires-clause-next c =
    let client = c.args.checked.now.client in
    let s : IsNewState client any_steps c.args.store.now.states c.successor.new.store.states c.args.number c.args.actor c.in-Some.next.0 =
    new_state client c.args.store.now.client any_steps c.requires.client c.args.store.now.states c.successor.new.store.states c.args.number c.args.actor c.in_ok-next.field-0 c.in-Some.next
    (next_by_steps _ _ _ _ _ _ _ c.in_ok-next.ensures.step) c.in-Some.is c.if-not-next.false c.states_differ.ensures in
    led_by_steps client _ _ _ _ _ (new_is_next client any_steps _ _ _ _ _ s)

pub judge-requires-clause-earlier : goal.judge-requires-clause-earlier
judge-requires-clause-earlier c =
    let client = c.args.checked.now.client in
    let s : IsNewState client any_steps c.args.store.now.states c.successor.new.store.states c.args.number c.args.actor c.in-Some.next.0 =
    new_state client c.args.store.now.client any_steps c.requires.client c.args.store.now.states c.successor.new.store.states c.args.number c.args.actor c.in_ok-next.field-0 c.in-Some.next
    (next_by_steps _ _ _ _ _ _ _ c.in_ok-next.ensures.step) c.in-Some.is c.if-not-next.false c.states_differ.ensures in
    new_is_later client any_steps _ _ _ _ _ s

pub judge-requires-clause-below : goal.judge-requires-clause-below
judge-requires-clause-below c =
    let client = c.args.checked.now.client in
    let s : IsNewState client any_steps c.args.store.now.states c.successor.new.store.states c.args.number c.args.actor c.in-Some.next.0 =
    new_state client c.args.store.now.client any_steps c.requires.client c.args.store.now.states c.successor.new.store.states c.args.number c.args.actor c.in_ok-next.field-0 c.in-Some.next
    (next_by_steps _ _ _ _ _ _ _ c.in_ok-next.ensures.step) c.in-Some.is c.if-not-next.false c.states_differ.ensures in
    good_below client any_steps _ _ _ _ _ s c.requires.sound.good

pub returns-in_err-judge-clause-met : goal.returns-in_err-judge-clause-met
returns-in_err-judge-clause-met c =
    let client = c.args.checked.now.client in
    let s : IsNewState client any_steps c.args.store.now.states c.successor.new.store.states c.args.number c.args.actor c.in-Some.next.0 =
    new_state client c.args.store.now.client any_steps c.requires.client c.args.store.now.states c.successor.new.store.states c.args.number c.args.actor c.in_ok-next.field-0 c.in-Some.next
    (next_by_steps _ _ _ _ _ _ _ c.in_ok-next.ensures.step) c.in-Some.is c.if-not-next.false c.states_differ.ensures in
    met_with client c.args.checked.now.no_fault _ _ _ _ _ s c.requires.sound.met

pub returns-in_err-judge-clause-stays : goal.returns-in_err-judge-clause-stays
returns-in_err-judge-clause-stays c =
    let client = c.args.checked.now.client in
    let s : IsNewState client any_steps c.args.store.now.states c.successor.new.store.states c.args.number c.args.actor c.in-Some.next.0 =
    new_state client c.args.store.now.client any_steps c.requires.client c.args.store.now.states c.successor.new.store.states c.args.number c.args.actor c.in_ok-next.field-0 c.in-Some.next
    (next_by_steps _ _ _ _ _ _ _ c.in_ok-next.ensures.step) c.in-Some.is c.if-not-next.false c.states_differ.ensures in
    stays_with client _ _ _ _ _ s

pub returns-clause-met : goal.returns-clause-met
returns-clause-met c =
    let client = c.args.checked.now.client in
    let s : IsNewState client any_steps c.args.store.now.states c.successor.new.store.states c.args.number c.args.actor c.in-Some.next.0 =
    new_state client c.args.store.now.client any_steps c.requires.client c.args.store.now.states c.successor.new.store.states c.args.number c.args.actor c.in_ok-next.field-0 c.in-Some.next
    (next_by_steps _ _ _ _ _ _ _ c.in_ok-next.ensures.step) c.in-Some.is c.if-not-next.false c.states_differ.ensures in
    met_with client c.args.checked.now.no_fault _ _ _ _ _ s c.requires.sound.met

pub returns-clause-stays : goal.returns-clause-stays
returns-clause-stays c =
    let client = c.args.checked.now.client in
    let s : IsNewState client any_steps c.args.store.now.states c.successor.new.store.states c.args.number c.args.actor c.in-Some.next.0 =
    new_state client c.args.store.now.client any_steps c.requires.client c.args.store.now.states c.successor.new.store.states c.args.number c.args.actor c.in_ok-next.field-0 c.in-Some.next
    (next_by_steps _ _ _ _ _ _ _ c.in_ok-next.ensures.step) c.in-Some.is c.if-not-next.false c.states_differ.ensures in
    stays_with client _ _ _ _ _ s

pub returns-clause-sound : goal.returns-clause-sound
returns-clause-sound c =
    let client = c.args.checked.now.client in
    let s : IsNewState client any_steps c.args.store.now.states c.successor.new.store.states c.args.number c.args.actor c.in-Some.next.0 =
    new_state client c.args.store.now.client any_steps c.requires.client c.args.store.now.states c.successor.new.store.states c.args.number c.args.actor c.in_ok-next.field-0 c.in-Some.next
    (next_by_steps _ _ _ _ _ _ _ c.in_ok-next.ensures.step) c.in-Some.is c.if-not-next.false c.states_differ.ensures in
    sound_with client c.args.checked.now.no_fault _ _ _ _ _ s c.requires.sound c.in_ok-judge.ensures

pub returns-clause-followed : goal.returns-clause-followed
returns-clause-followed c =
    let client = c.args.checked.now.client in
    let s : IsNewState client any_steps c.args.store.now.states c.successor.new.store.states c.args.number c.args.actor c.in-Some.next.0 =
    new_state client c.args.store.now.client any_steps c.requires.client c.args.store.now.states c.successor.new.store.states c.args.number c.args.actor c.in_ok-next.field-0 c.in-Some.next
    (next_by_steps _ _ _ _ _ _ _ c.in_ok-next.ensures.step) c.in-Some.is c.if-not-next.false c.states_differ.ensures in
    followed_with client _ _ _ _ _ s
