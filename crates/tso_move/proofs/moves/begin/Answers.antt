use Rattle.std.proofs.Common.{◌≡◌, ◌∙◌, ap, sym}
use Rattle.tso_flow.specs.Calls.{kind_of}
use Rattle.tso_machine.specs.Activations.{activation}
use Rattle.tso_move.proofs.MoveLemmas.{cut_moves, disabled_same, ok_same, steps_on}
use Rattle.tso_move.specs.Parts.{opened_in}
use Rattle.tso_prog.specs.Views.{call_view}
use Rattle.tso_move.proofs.moves.begin.Goals as goal

pub returns-then-is_cut-clause-ok : goal.returns-then-is_cut-clause-ok
returns-then-is_cut-clause-ok c =
    let client = c.args.checked.now.client in
    let s = c.args.state.now in
    let kind = c.args.kind in
    let there : activation (kind_of kind) c.in_ok-frame.frame ≡ opened_in client c.args.own.now s c.thread-2.result (call_view kind) =
    c.in_ok-frame.ensures ∙ ap (λ n. opened_in client c.args.own.now s n (call_view kind)) (c.thread.ensures ∙ sym c.thread-2.ensures) in
    cut_moves client c.args.own.now s c.args.actor kind c.in_ok-frame.frame c.in_ok-opened.opened c.thread-2.result c.requires.begins c.thread-2.ensures there c.in_ok-opened.ensures.is c.if-is_cut.ensures

pub returns-else-is_cut-clause-ok : goal.returns-else-is_cut-clause-ok
returns-else-is_cut-clause-ok c =
    let client = c.args.checked.now.client in
    let s = c.args.state.now in
    let kind = c.args.kind in
    let there : activation (kind_of kind) c.in_ok-frame.frame ≡ opened_in client c.args.own.now s c.thread-2.result (call_view kind) =
    c.in_ok-frame.ensures ∙ ap (λ n. opened_in client c.args.own.now s n (call_view kind)) (c.thread.ensures ∙ sym c.thread-2.ensures) in
    let same = steps_on client c.args.own.now s c.args.actor kind c.in_ok-frame.frame c.in_ok-opened.opened c.thread-2.result c.requires.begins c.thread-2.ensures there c.in_ok-opened.ensures.is c.if-is_cut.ensures in
    ok_same client c.args.own.now s c.in_ok-opened.opened c.args.actor same c.step.result c.step.ensures.ok

pub returns-else-is_cut-clause-disabled : goal.returns-else-is_cut-clause-disabled
returns-else-is_cut-clause-disabled c =
    let client = c.args.checked.now.client in
    let s = c.args.state.now in
    let kind = c.args.kind in
    let there : activation (kind_of kind) c.in_ok-frame.frame ≡ opened_in client c.args.own.now s c.thread-2.result (call_view kind) =
    c.in_ok-frame.ensures ∙ ap (λ n. opened_in client c.args.own.now s n (call_view kind)) (c.thread.ensures ∙ sym c.thread-2.ensures) in
    let same = steps_on client c.args.own.now s c.args.actor kind c.in_ok-frame.frame c.in_ok-opened.opened c.thread-2.result c.requires.begins c.thread-2.ensures there c.in_ok-opened.ensures.is c.if-is_cut.ensures in
    λ e. disabled_same client c.args.own.now s c.in_ok-opened.opened c.args.actor same (c.step.ensures.disabled.0 e)
