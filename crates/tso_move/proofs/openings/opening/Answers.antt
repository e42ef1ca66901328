use Rattle.std.proofs.Common.{◌≡◌, ◌∙◌, ap, sym, Some, arith}
use Rattle.std.specs.Option.{option_map}
use Rattle.tso_crossing.specs.Moves.{goes_on}
use Rattle.tso_flow.specs.Calls.{kind_of, step_limit}
use Rattle.tso_machine.specs.Actions.{meaning}
use Rattle.tso_machine.specs.Activations.{activation}
use Rattle.tso_machine.specs.Frames.{patched}
use Rattle.tso_machine.specs.Instructions.{next_action}
use Rattle.tso_machine.specs.Programs.{program_of}
use Rattle.tso_move.proofs.OpeningLemmas.{further}
use Rattle.tso_move.specs.Openings.{buffer_of, read_by}
use Rattle.tso_move.proofs.openings.opening.Goals as goal

pub loop-preserved : goal.loop-preserved
loop-preserved c =
    let client = c.args.checked.now.client in
    let sight = c.args.sight.now in
    let name = kind_of c.args.kind in
    let frame = c.loop.frame in
    let next : meaning name frame c.next_action-action.result ≡ next_action client (activation name frame) = rw c.from-procedure.ensures at c.next_action-action.ensures.is in
    let on : goes_on (read_by sight) (buffer_of sight) (next_action client (activation name frame)) ≡ Some (activation name c.patch-back.new.self) =
    sym (ap (goes_on (read_by sight) (buffer_of sight)) next) ∙ sym (c.patch_of.ensures.is name)
    ∙ ap (option_map (λ p. activation name (patched frame p))) c.in-Some.is ∙ ap (λ f. Some (activation name f)) (sym c.patch-back.ensures.after) in
    further (program_of client) (read_by sight) (step_limit client) c.loop.counter (buffer_of sight) (activation name frame) (activation name c.patch-back.new.self) _
    (let a = c.loop-test.true in let b = c.step_limit-end.ensures in omega (arith, a, b)) on c.loop.invariant
