use Rattle.std.proofs.Common.{sym, ◌∙◌}
use Rattle.tso_keys.proofs.StateLemmas.{kept_at, no_first, no_second, ordered}
use Rattle.tso_store.proofs.rising.Rising.compare.Goals as goal

pub compare_with-order-requires-clause-first : goal.compare_with-order-requires-clause-first
compare_with-order-requires-clause-first c = (c.self.inside.checked.now.client, kept_at c.self.inside.checked.now.client c.self.inside.parts.now c.self.inside.keys.now c.args.a c.in-Some.first c.self.invariant.are.kept (sym c.in-Some.ensures))

pub compare_with-order-requires-clause-second : goal.compare_with-order-requires-clause-second
compare_with-order-requires-clause-second c = (c.self.inside.checked.now.client, kept_at c.self.inside.checked.now.client c.self.inside.parts.now c.self.inside.keys.now c.args.b c.in-Some-kept_at.second c.self.invariant.are.kept (sym c.in-Some-kept_at.ensures))

pub compare_with-order-requires-clause-alike : goal.compare_with-order-requires-clause-alike
compare_with-order-requires-clause-alike c =
    (kept_at c.self.inside.checked.now.client c.self.inside.parts.now c.self.inside.keys.now c.args.a c.in-Some.first c.self.invariant.are.kept (sym c.in-Some.ensures)).fits.threads
    ∙ sym (kept_at c.self.inside.checked.now.client c.self.inside.parts.now c.self.inside.keys.now c.args.b c.in-Some-kept_at.second c.self.invariant.are.kept (sym c.in-Some-kept_at.ensures)).fits.threads

pub returns-in-Some-kept_at-clause-order : goal.returns-in-Some-kept_at-clause-order
returns-in-Some-kept_at-clause-order c =
    rw (← c.self.view_is) (ordered c.self.inside.parts.now c.self.inside.keys.now c.args.a c.args.b c.in-Some.first c.in-Some-kept_at.second c.compare_with-order.result (sym c.in-Some.ensures) (sym c.in-Some-kept_at.ensures) c.compare_with-order.ensures.order)

pub returns-in-None-kept_at-clause-order : goal.returns-in-None-kept_at-clause-order
returns-in-None-kept_at-clause-order c = rw (← c.self.view_is) (no_second c.self.inside.parts.now c.self.inside.keys.now c.args.a c.args.b (sym c.in-None-kept_at.ensures))

pub returns-in-None-clause-order : goal.returns-in-None-clause-order
returns-in-None-clause-order c = rw (← c.self.view_is) (no_first c.self.inside.parts.now c.self.inside.keys.now c.args.a c.args.b (sym c.in-None.ensures))
