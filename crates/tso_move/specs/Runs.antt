-- Moves, and runs of free actors' moves.
use Rattle.std.specs.Prelude.{◌≡◌, IsSome, Some}
use Rattle.tso_crossing.specs.Moves.{late_move}
use Rattle.tso_foot.specs.declared.table.ArrayTable.{ArrayTable}
use Rattle.tso_foot.specs.declared.table.Table.{Table}
use Rattle.tso_machine.specs.Programs.{program_of}
use Rattle.tso_move.specs.Free.{HasNoFree, IsLowestFree}
use Rattle.tso_move.specs.Own.{extent_of}
use Rattle.tso_prog.specs.declared.client.Client.{Client}
use Rattle.tso_state.specs.Actors.{actor_of}
use Rattle.tso_state.specs.Views.{state_of}
use Rattle.tso_state.specs.WellFormed.{IsWellFormed}
use Rattle.tso_state.specs.declared.actor.Actor.{Actor}
use Rattle.tso_state.specs.declared.state.State.{State}

-- the actor's move leads from s to s'
abbrev pub IsMove : Client → ArrayTable → State → Actor → State → Type 0
IsMove c own s a s' = late_move (program_of c) (extent_of c own) (state_of s) (actor_of a) ≡ Some (state_of s')

-- the actor has a move
abbrev pub HasMove : Client → ArrayTable → State → Actor → Type 0
HasMove c own s a = IsSome (late_move (program_of c) (extent_of c own) (state_of s) (actor_of a))

-- a run stops in a state that is not well-formed, and where no actor is free
abbrev pub StopsAt : Client → ArrayTable → Table → State → Type 0
StopsAt c own t s = IsWellFormed c s → HasNoFree c own t s

-- The run from a state: while it is well-formed and an actor is free, the lowest free one moves. It stops in the second state.
pub data IsRun (c : Client) (own : ArrayTable) (t : Table) : State → State → Type 0 where
  Stops : (s : State) → StopsAt c own t s → IsRun c own t s s
  Goes : (s s' r : State) (a : Actor) → IsWellFormed c s → IsLowestFree c own t s a → IsMove c own s a s' → IsRun c own t s' r → IsRun c own t s r

-- the state is well-formed, and the lowest free actor's move leads to the next one
pub record IsNext (c : Client) (own : ArrayTable) (t : Table) (s s' : State) : Type 0 where
  pub actor : Actor
  pub well_formed : IsWellFormed c s
  pub free : IsLowestFree c own t s actor
  pub move : IsMove c own s actor s'

-- a run from the second state is the end of one from the first
abbrev pub LeadsTo : Client → ArrayTable → Table → State → State → Type 0
LeadsTo c own t s s' = (r : State) → IsRun c own t s' r → IsRun c own t s r
