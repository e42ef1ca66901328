use Rattle.std.proofs.Common.{◌≤◌, length, sym, ap, ◌∙◌, slice_get, arith}
use Rattle.std.proofs.lemmas.Option.{slice_get_past}
use Rattle.tso_state.specs.declared.state.State.{State}
use Rattle.tso_keys.specs.Numbers.{values_at}
use Rattle.tso_keys.proofs.Rows.{none_at}
use Rattle.tso_keys.proofs.view.ViewViewed.thread.Goals as goal

pub returns-in-None : goal.returns-in-None
returns-in-None c =
    let le : length c.self.inside.numbers ≤ c.args.number = omega (arith, c.in-None.ensures.lookup, ap length c.as_slice.ensures) in
    let e = none_at c.self.inside.threads.now c.self.inside.numbers (values_at c.self.inside.threads.now c.self.inside.numbers) c.args.number c.self.invariant.0.small c.self.invariant.0.threads (slice_get_past c.self.inside.numbers c.args.number le) in
    sym (ap (λ (s : State). slice_get s.threads c.args.number) (sym c.self.view_is) ∙ e)
