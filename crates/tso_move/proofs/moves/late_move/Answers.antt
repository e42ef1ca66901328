use Rattle.std.proofs.Common.{◌≡◌, ◌∙◌, None, ap, sym}
use Rattle.std.specs.Option.{option_map}
use Rattle.tso_move.proofs.MoveLemmas.{ok_same, steps_late}
use Rattle.tso_move.specs.Parts.{begun_in}
use Rattle.tso_prog.specs.Views.{call_view}
use Rattle.tso_move.proofs.moves.late_move.Goals as goal

pub returns-in-None-clause-ok : goal.returns-in-None-clause-ok
returns-in-None-clause-ok c =
    let client = c.args.checked.now.client in
    let s = c.args.state.now in
    let none : begun_in client s c.args.actor ≡ None = sym c.begun_call.ensures ∙ ap (option_map call_view) c.in-None.is in
    ok_same client c.args.own.now s s c.args.actor (steps_late client c.args.own.now s c.args.actor none) c.step.result c.step.ensures.ok
