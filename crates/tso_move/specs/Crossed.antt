-- When the states of a client are those of a certificate of crossings: at a state where some actor has a move, all moves are followed up to
-- where free actors lead.
use Rattle.std.specs.Prelude.{◌≡◌, ℕ, Contains, List}
use Rattle.tso_compact.specs.Laws.{initial_of}
use Rattle.tso_fifo.specs.Orders.{HasOrder}
use Rattle.tso_foot.specs.Closed.{IsClosed}
use Rattle.tso_foot.specs.declared.table.ArrayTable.{ArrayTable}
use Rattle.tso_foot.specs.declared.table.Table.{Table}
use Rattle.tso_foot.specs.declared.table.Table.TheVariants.{Arrays}
use Rattle.tso_move.specs.Runs.{HasMove, IsMove, IsRun}
use Rattle.tso_prog.specs.declared.client.Client.{Client}
use Rattle.tso_state.specs.Views.{state_of}
use Rattle.tso_state.specs.WellFormed.{IsThreadAt, IsWellFormed}
use Rattle.tso_state.specs.declared.actor.Actor.{Actor}
use Rattle.tso_state.specs.declared.state.Core.TheVariants.{Stopped}
use Rattle.tso_state.specs.declared.state.State.{State}
use Rattle.tso_state.specs.declared.state.Thread.{Thread}

-- the run from a state stops in one of these
pub record IsMetFrom (c : Client) (own : ArrayTable) (t : Table) (states : List State) (s : State) : Type 0 where
  pub stop : State
  pub run : IsRun c own t s stop
  pub there : Contains states stop

-- the actor's move leads to a state from which a run stops in one of these
pub record IsMetAfter (c : Client) (own : ArrayTable) (t : Table) (states : List State) (s : State) (a : Actor) : Type 0 where
  pub after : State
  pub move : IsMove c own s a after
  pub met : IsMetFrom c own t states after

-- no actor has a move
abbrev pub HasNoMove : Client → ArrayTable → State → Type 0
HasNoMove c own s = (a : Actor) → HasMove c own s a → ⊥

-- no thread is stopped, and an order explains the calls
pub record IsGoodEnd (c : Client) (s : State) : Type 0 where
  pub unstopped : (i : ℕ) (thread : Thread) → IsThreadAt s i thread → thread.core ≡ Stopped → ⊥
  pub explained : HasOrder c.mode c.capacity s.history

-- the states are those of a certificate of crossings, by the least table of arrays and a table that is closed
pub record AreCrossings (c : Client) (own : ArrayTable) (t : Table) (states : List State) : Type 0 where
  pub closed_own : IsClosed c (Arrays own)
  pub closed : IsClosed c t
  pub first : State
  pub is_first : state_of first ≡ initial_of c
  pub met : IsMetFrom c own t states first
  pub well_formed : (s : State) → Contains states s → IsWellFormed c s
  pub moves : (s : State) (a : Actor) → Contains states s → HasMove c own s a → IsMetAfter c own t states s a
  pub ends : (s : State) → Contains states s → HasNoMove c own s → IsGoodEnd c s
