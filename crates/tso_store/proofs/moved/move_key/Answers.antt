use Rattle.std.proofs.Common.{◌≡◌, ◌∙◌, None, ap, sym}
use Rattle.std.specs.Option.{option_map}
use Rattle.tso_keys.specs.Keys.{state_at}
use Rattle.tso_move.specs.Parts.{begun_in}
use Rattle.tso_prog.specs.Views.{call_view}
use Rattle.tso_store.proofs.Movements.{moved_by_step, ok_on}
use Rattle.tso_store.proofs.moved.move_key.Goals as goal

pub returns-in-None-clause-moves : goal.returns-in-None-clause-moves
returns-in-None-clause-moves c =
    let client = c.args.checked.now.client in
    let none : begun_in client (state_at c.args.parts.now c.args.key.now) c.args.actor ≡ None = sym c.begun_at.ensures ∙ ap (option_map call_view) c.in-None.is in
    ok_on c.step_key.result (λ r is. moved_by_step client c.args.own.now c.args.parts.now c.step_key.new.parts c.args.key.now c.args.actor r none is) c.step_key.ensures.step

pub begin_move-requires-clause-begins : goal.begin_move-requires-clause-begins
begin_move-requires-clause-begins c = sym c.begun_at.ensures ∙ ap (option_map call_view) c.in-Some.is
