-- Where the opening of a call leads in the code.
use Rattle.std.specs.Prelude.{◌≡◌, ℕ, map, Option}
use Rattle.tso_crossing.specs.Moves.{opened, readable}
use Rattle.tso_flow.specs.Calls.{kind_of, step_limit}
use Rattle.tso_line.specs.declared.instruction.CallKind.{CallKind}
use Rattle.tso_machine.specs.Activations.{activation}
use Rattle.tso_machine.specs.Machines.{entry_view}
use Rattle.tso_machine.specs.Programs.{program_of}
use Rattle.tso_machine.specs.declared.frame.Frame.{Frame}
use Rattle.tso_model.specs.States.{Buffer}
use Rattle.tso_move.specs.Own.{is_own}
use Rattle.tso_move.specs.declared.openings.Sight.{Sight}
use Rattle.tso_prog.specs.Views.{call_view}
use Rattle.tso_prog.specs.declared.client.Client.{Client}

-- the own buffer
abbrev pub buffer_of : Sight → Buffer
buffer_of sight = map entry_view sight.buffer.now

-- what an opening may read
abbrev pub read_by : Sight → ℕ → Option ℕ
read_by sight = readable (λ place. is_own sight.own.arrays.now sight.own.written place) (buffer_of sight) sight.memory.now

-- this is the frame to which the opening of a call of this kind leads
abbrev pub IsOpening : Client → Sight → CallKind → Frame → Type 0
IsOpening c sight kind f = activation (kind_of kind) f ≡ opened (program_of c) (read_by sight) (step_limit c) (buffer_of sight) ((program_of c).start (call_view kind))
