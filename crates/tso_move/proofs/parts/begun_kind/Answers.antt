use Rattle.std.proofs.Common.{◌∙◌, ap, map}
use Rattle.tso_machine.specs.Activations.{Activation, activation}
use Rattle.tso_machine.specs.Instructions.{next_action}
use Rattle.tso_machine.specs.Kinds.{kind_of_action}
use Rattle.tso_machine.specs.Machines.{entry_view}
use Rattle.tso_move.specs.Parts.{opened_in, opened_kinds}
use Rattle.tso_prog.specs.Views.{call_view}
use Rattle.tso_move.proofs.parts.begun_kind.Goals as goal

pub returns : goal.returns
returns g c =
    let client = c.args.checked.now.client in
    let s = g.S.Viewed.state c.args.state.now in
    let buffer = c.buffer_in-buffer.result.now in
    c.opened_kind-found.ensures ∙ ap (λ name. opened_kinds (map entry_view buffer) (kind_of_action (next_action client (activation name c.in_ok-frame.frame)))) c.from-procedure.ensures
    ∙ ap (λ (a : Activation). opened_kinds (map entry_view buffer) (kind_of_action (next_action client a))) c.in_ok-frame.ensures
    ∙ ap (λ b. opened_kinds (map entry_view b) (kind_of_action (next_action client (opened_in client c.args.own.now s c.args.thread (call_view c.args.call))))) c.buffer_in-buffer.ensures
