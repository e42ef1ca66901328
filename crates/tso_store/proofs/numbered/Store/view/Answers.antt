use Rattle.std.proofs.Common.{sym, ◌∙◌}
use Rattle.tso_keys.proofs.StateLemmas.{kept_at, state_got, state_none}
use Rattle.tso_store.proofs.numbered.Store.view.Goals as goal

pub of_key-requires-clause-kept : goal.of_key-requires-clause-kept
of_key-requires-clause-kept c = kept_at c.self.inside.checked.now.client c.self.inside.parts c.self.inside.keys c.args.number c.in-Some.key.now c.self.invariant.kept (sym c.in-Some.ensures)

pub returns-in-Some-clause-state : goal.returns-in-Some-clause-state
returns-in-Some-clause-state c = rw (← c.self.view_is) (c.of_key.ensures ∙ sym (state_got c.self.inside.parts c.self.inside.keys c.args.number c.in-Some.key.now (sym c.in-Some.ensures)))

pub returns-in-Some-clause-fits : goal.returns-in-Some-clause-fits
returns-in-Some-clause-fits c = rw (← c.self.view_is, c.of_key.ensures) (kept_at c.self.inside.checked.now.client c.self.inside.parts c.self.inside.keys c.args.number c.in-Some.key.now c.self.invariant.kept (sym c.in-Some.ensures)).fits

pub returns-in-None-clause-state : goal.returns-in-None-clause-state
returns-in-None-clause-state c = rw (← c.self.view_is) (sym (state_none c.self.inside.parts c.self.inside.keys c.args.number (sym c.in-None.ensures)))
