use Rattle.std.proofs.Common.{◌∙◌, ◌++◌, ap, map, sym}
use Rattle.tso_store.specs.Gathering.{Gathering}
use Rattle.tso_keys.specs.Keys.{states_at}
use Rattle.tso_keys.specs.Moving.{moved_key}
use Rattle.tso_parts.proofs.Outcomes.{on_err}
use Rattle.tso_store.proofs.Gatherings.{appended_kept, appended_states, gathered_grows, gathered_stay}
use Rattle.tso_store.proofs.gathered.Gathered.append.Goals as goal

pub invariant_of-self : goal.invariant_of-self
invariant_of-self c = gathered_grows c.self.inside.checked.now.client c.self.inside.parts c.take_parts.new.parts c.self.inside.keys.items c.self.invariant c.take_parts.ensures.grows

pub returns-in_err-moved-clause-err : goal.returns-in_err-moved-clause-err
returns-in_err-moved-clause-err c = rw (← c.self.view_is) (on_err c.from_residual.result (gathered_stay c.self.inside.checked.now.client c.self.inside.parts c.take_parts.new.parts c.self.inside.keys.items c.self.invariant c.take_parts.ensures.grows))

pub invariant_of-self-in_err-push_all_moved : goal.invariant_of-self-in_err-push_all_moved
invariant_of-self-in_err-push_all_moved c = rw c.in_err-push_all_moved.ensures.err (gathered_grows c.self.inside.checked.now.client c.self.inside.parts c.take_parts.new.parts c.self.inside.keys.items c.self.invariant c.take_parts.ensures.grows)

pub returns-in_err-push_all_moved-clause-err : goal.returns-in_err-push_all_moved-clause-err
returns-in_err-push_all_moved-clause-err c =
    rw (← c.self.view_is) (on_err c.from_residual-in_err-push_all_moved.result (ap (states_at c.take_parts.new.parts) c.in_err-push_all_moved.ensures.err ∙ gathered_stay c.self.inside.checked.now.client c.self.inside.parts c.take_parts.new.parts c.self.inside.keys.items c.self.invariant c.take_parts.ensures.grows))

pub invariant_of-self-2 : goal.invariant_of-self-2
invariant_of-self-2 c =
    let same = ap (λ (g : Gathering). g.client) c.others.view_is ∙ c.requires ∙ sym (ap (λ (g : Gathering). g.client) c.self.view_is) in
    appended_kept c.self.inside.checked.now.client c.others.inside.checked.now.client c.self.inside.parts c.take_parts.new.parts c.others.inside.parts c.self.inside.keys.items c.others.inside.keys.items c.push_all_moved.new.keys.items c.in_ok-moved.moved
    c.self.invariant c.others.invariant same c.take_parts.ensures.grows c.in_ok-moved.ensures.numbers (c.in_ok-push_all_moved.ensures.ok ∙ ap (λ l. c.self.inside.keys.items ++ map (moved_key c.in_ok-moved.moved) l) c.as_slice.ensures.value)

pub returns-clause-ok : goal.returns-clause-ok
returns-clause-ok c =
    let same = ap (λ (g : Gathering). g.client) c.others.view_is ∙ c.requires ∙ sym (ap (λ (g : Gathering). g.client) c.self.view_is) in
    rw (← c.self.view_is, ← c.others.view_is) (appended_states c.self.inside.checked.now.client c.others.inside.checked.now.client c.self.inside.parts c.take_parts.new.parts c.others.inside.parts c.self.inside.keys.items c.others.inside.keys.items c.push_all_moved.new.keys.items c.in_ok-moved.moved
    c.self.invariant c.others.invariant same c.take_parts.ensures.grows c.in_ok-moved.ensures.numbers (c.in_ok-push_all_moved.ensures.ok ∙ ap (λ l. c.self.inside.keys.items ++ map (moved_key c.in_ok-moved.moved) l) c.as_slice.ensures.value))
