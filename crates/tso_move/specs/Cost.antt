-- How many labels are left from a state.
use Rattle.std.specs.Prelude.{ℕ, ◌<◌}
use Rattle.tso_foot.specs.declared.table.ArrayTable.{ArrayTable}
use Rattle.tso_machine.specs.Programs.{program_of}
use Rattle.tso_machine.specs.Soundness.{rank}
use Rattle.tso_model.specs.Labels.{machine_of}
use Rattle.tso_model.specs.Measure.{labels_left}
use Rattle.tso_move.specs.Runs.{IsMove}
use Rattle.tso_prog.specs.declared.client.Client.{Client}
use Rattle.tso_state.specs.Views.{state_of}
use Rattle.tso_state.specs.WellFormed.{IsWellFormed}
use Rattle.tso_state.specs.declared.actor.Actor.{Actor}
use Rattle.tso_state.specs.declared.state.State.{State}

-- no run of labels from the state is longer
abbrev pub cost : Client → State → ℕ
cost c s = labels_left (program_of c) (rank c) (machine_of (state_of s))

-- each move leaves fewer
abbrev pub MovesCost : Client → Type 0
MovesCost c = (own : ArrayTable) (s s' : State) (a : Actor) → IsWellFormed c s → IsMove c own s a s' → cost c s' < cost c s
