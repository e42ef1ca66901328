use Rattle.std.proofs.Common.{◌∙◌, ap, sym, subst, List}
use Rattle.tso_state.specs.declared.state.State.{State}
use Rattle.tso_store.specs.Gathering.{AreThere, Gathering}
use Rattle.tso_keys.specs.Keys.{states_at}
use Rattle.tso_parts.proofs.Outcomes.{on_err}
use Rattle.tso_store.proofs.Gatherings.{gathered_grows, gathered_kept, gathered_states, gathered_stay, gathering_move}
use Rattle.tso_store.proofs.gathered.Gathered.take.Goals as goal

pub invariant_of-self : goal.invariant_of-self
invariant_of-self c = gathered_grows c.self.inside.checked.now.client c.self.inside.parts c.take_parts.new.parts c.self.inside.keys.items c.self.invariant c.take_parts.ensures.grows

pub returns-in_err-moved-clause-err : goal.returns-in_err-moved-clause-err
returns-in_err-moved-clause-err c = rw (← c.self.view_is) (on_err c.from_residual.result (gathered_stay c.self.inside.checked.now.client c.self.inside.parts c.take_parts.new.parts c.self.inside.keys.items c.self.invariant c.take_parts.ensures.grows))

pub invariant_of-self-in_err-push_moved : goal.invariant_of-self-in_err-push_moved
invariant_of-self-in_err-push_moved c = rw c.in_err-push_moved.ensures.err (gathered_grows c.self.inside.checked.now.client c.self.inside.parts c.take_parts.new.parts c.self.inside.keys.items c.self.invariant c.take_parts.ensures.grows)

pub returns-in_err-push_moved-clause-err : goal.returns-in_err-push_moved-clause-err
returns-in_err-push_moved-clause-err c = rw (← c.self.view_is) (on_err c.from_residual-in_err-push_moved.result (ap (states_at c.take_parts.new.parts) c.in_err-push_moved.ensures.err ∙ gathered_stay c.self.inside.checked.now.client c.self.inside.parts c.take_parts.new.parts c.self.inside.keys.items c.self.invariant c.take_parts.ensures.grows))

pub invariant_of-self-2 : goal.invariant_of-self-2
invariant_of-self-2 c =
    let same = c.requires.client ∙ sym (ap (λ (g : Gathering). g.client) c.self.view_is) in
    let move = gathering_move c.self.inside.checked.now.client c.args.store.client c.self.inside.parts c.take_parts.new.parts c.into_parts-others.result.0 c.self.inside.keys.items c.into_parts-others.result.1 c.in_ok-moved.moved c.self.invariant c.into_parts-others.ensures.kept same c.take_parts.ensures.grows c.in_ok-moved.ensures.numbers c.is_numbered.ensures.small in
    let there = subst (λ (ss : List State). AreThere ss c.args.numbers.now) (sym c.into_parts-others.ensures.states) c.requires.there in
    gathered_kept c.self.inside.checked.now.client c.self.inside.parts c.take_parts.new.parts c.into_parts-others.result.0 c.self.inside.keys.items c.into_parts-others.result.1 c.in_ok-moved.moved move c.push_moved.new.keys.items c.args.numbers.now there c.in_ok-push_moved.ensures.ok

pub returns-clause-taken : goal.returns-clause-taken
returns-clause-taken c =
    let same = c.requires.client ∙ sym (ap (λ (g : Gathering). g.client) c.self.view_is) in
    let move = gathering_move c.self.inside.checked.now.client c.args.store.client c.self.inside.parts c.take_parts.new.parts c.into_parts-others.result.0 c.self.inside.keys.items c.into_parts-others.result.1 c.in_ok-moved.moved c.self.invariant c.into_parts-others.ensures.kept same c.take_parts.ensures.grows c.in_ok-moved.ensures.numbers c.is_numbered.ensures.small in
    let there = subst (λ (ss : List State). AreThere ss c.args.numbers.now) (sym c.into_parts-others.ensures.states) c.requires.there in
    rw (← c.self.view_is, ← c.into_parts-others.ensures.states) (gathered_states c.self.inside.checked.now.client c.self.inside.parts c.take_parts.new.parts c.into_parts-others.result.0 c.self.inside.keys.items c.into_parts-others.result.1 c.in_ok-moved.moved move c.push_moved.new.keys.items c.args.numbers.now there c.in_ok-push_moved.ensures.ok)
