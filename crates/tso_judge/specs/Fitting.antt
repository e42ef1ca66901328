-- States whose numbers are in the ranges of their spelling.
use Rattle.tso_code.specs.States.{StateFits}
use Rattle.tso_compact.specs.Laws.{initial_of}
use Rattle.tso_machine.specs.Programs.{program_of}
use Rattle.tso_model.specs.Reduce.{Steps}
use Rattle.tso_model.specs.Steps.{Actor, step}
use Rattle.tso_prog.specs.declared.client.Client.{Client}
use Rattle.tso_state.specs.Views.{state_of}
use Rattle.tso_state.specs.WellFormed.{IsWellFormed}
use Rattle.tso_state.specs.declared.state.State.{State}
use Rattle.std.specs.Prelude.{List}

-- each well-formed state that steps reach is so
abbrev pub StatesFit : Client → Type 0
StatesFit c = (actors : List Actor) (s : State) → Steps (step (program_of c)) (initial_of c) actors (state_of s) → IsWellFormed c s → StateFits s
