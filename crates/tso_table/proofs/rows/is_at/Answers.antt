use Rattle.std.proofs.Common.{◌∙◌, sym, ap, slice_get}
use Rattle.std.proofs.lemmas.Bool.{false≢true}
use Rattle.std.proofs.lemmas.Bool.Decides.{Decides-eqb}
use Rattle.tso_table.proofs.StateLemmas.{this_test}
use Rattle.tso_table.proofs.rows.is_at.Goals as goal

pub returns-in-Some : goal.returns-in-Some
returns-in-Some c =
    let same = Decides-eqb c.in-Some.found c.args.place in
    this_test _ c.args.state.now _ (λ e. ap (slice_get c.args.store.now.states) (sym (same.0 e)) ∙ c.in-Some.ensures)
    (λ at. same.1 (c.states_differ.ensures c.in-Some.found c.args.place c.args.state.now c.in-Some.ensures at))

pub returns-in-None : goal.returns-in-None
returns-in-None c = this_test _ c.args.state.now _ (λ e. absurd (false≢true e)) (λ at. absurd (c.in-None.ensures c.args.place at))
