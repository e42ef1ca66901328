-- Whether the runs behind moves are met, actor by actor and thread by thread. Nothing here need be believed: it serves the code.
use Rattle.std.specs.Prelude.{ℕ, List}
use Rattle.tso_foot.specs.declared.table.ArrayTable.{ArrayTable}
use Rattle.tso_foot.specs.declared.table.Table.{Table}
use Rattle.tso_move.specs.Crossed.{IsMetAfter}
use Rattle.tso_move.specs.Runs.{HasMove}
use Rattle.tso_prog.specs.declared.client.Client.{Client}
use Rattle.tso_state.specs.declared.actor.Actor.{Actor}
use Rattle.tso_state.specs.declared.actor.Actor.TheVariants.{Exec, Drain}
use Rattle.tso_state.specs.declared.state.State.{State}

-- where the actor has a move, the run behind it stops in one of the states
abbrev pub IsMetIfMoved : Client → ArrayTable → Table → List State → State → Actor → Type 0
IsMetIfMoved c own t states s a = HasMove c own s a → IsMetAfter c own t states s a

-- so it is of both actors of thread i
pub record IsThreadMet (c : Client) (own : ArrayTable) (t : Table) (states : List State) (s : State) (i : ℕ) : Type 0 where
  pub core : IsMetIfMoved c own t states s (Exec i)
  pub buffer : IsMetIfMoved c own t states s (Drain i)
