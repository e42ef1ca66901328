use Rattle.std.proofs.Common.{◌∙◌, ◌++◌, List, ap, string_bytes}
use Rattle.tso_prog.specs.declared.client.Array.{Array}
use Rattle.tso_show.proofs.Joins.{two}
use Rattle.tso_show.specs.States.{buffers_shown, registers_shown}
use Rattle.tso_show.proofs.state.push_shown.Goals as goal

pub returns : goal.returns
returns c =
    let machine = c.args.machine.now in
    let label = c.args.label in
    two _ _ _ _ _ c.in_ok-push_registers_if.ensures c.in_ok-push_buffers_if.ensures
    ∙ ap (λ (arrays : List Array). string_bytes c.args.text.now ++ (registers_shown c.args.show c.args.client.now machine label.thread ++ buffers_shown c.args.show arrays machine label)) c.as_slice.ensures
