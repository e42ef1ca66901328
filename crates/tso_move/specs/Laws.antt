-- What moves and crossings are good for.
use Rattle.std.specs.Prelude.{List}
use Rattle.tso_client.specs.Headline.{EachRunIsGood}
use Rattle.tso_crossing.specs.Free as model
use Rattle.tso_crossing.specs.Own.{IsApart}
use Rattle.tso_compact.specs.Laws.{initial_of}
use Rattle.tso_foot.specs.Laws.{arrays_view, table_view}
use Rattle.tso_foot.specs.declared.table.ArrayTable.{ArrayTable}
use Rattle.tso_foot.specs.declared.table.Table.{Table}
use Rattle.tso_machine.specs.Programs.{program_of}
use Rattle.tso_model.specs.Table.{table_future}
use Rattle.tso_move.specs.Crossed.{AreCrossings}
use Rattle.tso_move.specs.Free.{IsFree}
use Rattle.tso_move.specs.Own.{extent_of}
use Rattle.tso_prog.specs.declared.client.Client.{Client}
use Rattle.tso_state.specs.Actors.{actor_of}
use Rattle.tso_state.specs.Views.{state_of}
use Rattle.tso_state.specs.WellFormed.{IsWellFormed}
use Rattle.tso_state.specs.declared.actor.Actor.{Actor}
use Rattle.tso_state.specs.declared.state.State.{State}

-- a free actor is the model's, over what the table says of other threads' futures
abbrev pub FreeIsTheModels : Client → Type 0
FreeIsTheModels c = (own : ArrayTable) (t : Table) (s : State) (a : Actor) → IsWellFormed c s → IsFree c own t s a
    → model.IsFree (program_of c) (extent_of c own) (table_future (program_of c) (table_view c t)) (state_of s) (actor_of a)

-- at first no thread but one, or the prologue's, may still write what that one's openings may read
abbrev pub InitialIsApart : Client → Type 0
InitialIsApart c = (own : ArrayTable) → IsApart (program_of c) (extent_of c own) (table_future (program_of c) (arrays_view c own)) (initial_of c)

-- where states are those of a certificate of crossings, each run of the client is good
abbrev pub CrossedRunsAreGood : Client → Type 0
CrossedRunsAreGood c = (own : ArrayTable) (t : Table) (states : List State) → AreCrossings c own t states → EachRunIsGood c
