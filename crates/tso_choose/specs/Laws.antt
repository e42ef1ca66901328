-- What choices are good for.
use Rattle.std.specs.Prelude.{◌≡◌, List, map}
use Rattle.tso_choose.specs.Choices.{AreChosen, AreValid, actors_of}
use Rattle.tso_choose.specs.declared.choice.Choice.{Choice}
use Rattle.tso_foot.specs.Closed.{IsClosed}
use Rattle.tso_foot.specs.Within.{IsWithin}
use Rattle.tso_foot.specs.declared.table.Table.{Table}
use Rattle.tso_machine.specs.Programs.{program_of}
use Rattle.tso_model.specs.Reduce.{Persistent}
use Rattle.tso_model.specs.Steps.{step}
use Rattle.tso_model.specs.Strictness.{AtLeast}
use Rattle.tso_prog.specs.declared.client.Client.{Client}
use Rattle.tso_state.specs.Actors.{actor_of}
use Rattle.tso_state.specs.Views.{state_of}
use Rattle.tso_state.specs.WellFormed.{IsWellFormed}
use Rattle.tso_state.specs.declared.state.State.{State}

-- what is chosen at a well-formed state is valid
abbrev pub ChosenAreValid : Client → Type 0
ChosenAreValid c = (t : Table) (s : State) (choices : List Choice) → IsWellFormed c s → AreChosen c t s choices → AreValid c t s choices

-- there is one choice at a state
abbrev pub ChoicesAreDetermined : Client → Type 0
ChoicesAreDetermined c = (t : Table) (s : State) (choices others : List Choice) → AreChosen c t s choices → AreChosen c t s others → choices ≡ others

-- over a closed table, valid choices at a well-formed state whose running registers lie where the table says are persistent
abbrev pub ValidChoicesArePersistent : Client → Type 0
ValidChoicesArePersistent c = (t : Table) (s : State) (choices : List Choice) → IsClosed c t → IsWellFormed c s → IsWithin t s → AreValid c t s choices
    → Persistent (step (program_of c)) AtLeast (state_of s) (map actor_of (actors_of choices))
