-- The threads of a state before any step.
use Rattle.std.specs.Prelude.{[]}
use Rattle.tso_state.specs.declared.state.Core.TheVariants.{Idle}
use Rattle.tso_state.specs.declared.state.Thread.{Thread}

abbrev pub idle_thread : Thread
idle_thread = record { core = Idle; buffer = [] }
