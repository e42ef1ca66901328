use Rattle.std.proofs.Common.{◌≡◌, ◌-◌}
use Rattle.tso_crossing.specs.Moves.{opened}
use Rattle.tso_flow.specs.Calls.{kind_of, step_limit}
use Rattle.tso_machine.specs.Activations.{activation}
use Rattle.tso_machine.specs.Programs.{program_of}
use Rattle.tso_move.specs.Openings.{buffer_of, read_by}
use Rattle.tso_prog.specs.Views.{call_view}
use Rattle.tso_move.proofs.openings.opening.Given as goal

abbrev pub invariant-loop : goal.invariant-loop
invariant-loop l =
    let c = l.fn.checked.client in
    let p = program_of c in
    let s = l.fn.sight in
    opened p (read_by s) (step_limit c - l.counter) (buffer_of s) (activation (kind_of l.fn.kind) l.frame) ≡ opened p (read_by s) (step_limit c) (buffer_of s) (p.start (call_view l.fn.kind))
