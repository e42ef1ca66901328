-- States from which free actors may move in any order: their runs stop in one state.
use Rattle.std.specs.Prelude.{List}
use Rattle.tso_compact.specs.Laws.{IsPlausible, initial_of}
use Rattle.tso_foot.specs.Closed.{IsClosed}
use Rattle.tso_foot.specs.declared.table.ArrayTable.{ArrayTable}
use Rattle.tso_foot.specs.declared.table.Table.{Table}
use Rattle.tso_foot.specs.declared.table.Table.TheVariants.{Arrays}
use Rattle.tso_machine.specs.Programs.{program_of}
use Rattle.tso_model.specs.Reduce.{Steps}
use Rattle.tso_model.specs.Steps.{Actor, step}
use Rattle.tso_prog.specs.declared.client.Client.{Client}
use Rattle.tso_state.specs.Views.{state_of}
use Rattle.tso_state.specs.declared.state.State.{State}

-- steps lead to the state from the initial one, and both tables are closed, so that they hold what threads may still do there
pub record HasOneStop (c : Client) (own : ArrayTable) (t : Table) (s : State) : Type 0 where
  pub closed_own : IsClosed c (Arrays own)
  pub closed : IsClosed c t
  pub reached : (actors : List Actor) × Steps (step (program_of c)) (initial_of c) actors (state_of s)
  pub plausible : IsPlausible c s
