-- Free actors' moves commute, so a run of them stops in one state, in whatever order they move.
use Rattle.std.specs.Prelude.{◌≢◌, ℕ, IsTrue}
use Rattle.tso_confluence.specs.Stops.{HasOneStop}
use Rattle.tso_foot.specs.Ahead.{future_reads, future_writes}
use Rattle.tso_foot.specs.declared.table.ArrayTable.{ArrayTable}
use Rattle.tso_foot.specs.declared.table.Table.{Table}
use Rattle.tso_move.specs.Free.{IsFree}
use Rattle.tso_move.specs.Runs.{IsMove, LeadsTo}
use Rattle.tso_prog.specs.declared.client.Client.{Client}
use Rattle.tso_state.specs.declared.actor.Actor.{Actor}
use Rattle.tso_state.specs.declared.state.State.{State}

-- what a thread may still read and write after a move it may read and write before it
pub record HasShrunk (c : Client) (t : Table) (s s' : State) (j place : ℕ) : Type 0 where
  pub reads : IsTrue (future_reads c t s' j place) → IsTrue (future_reads c t s j place)
  pub writes : IsTrue (future_writes c t s' j place) → IsTrue (future_writes c t s j place)

abbrev pub FuturesShrink : Client → Type 0
FuturesShrink c = (own : ArrayTable) (t : Table) (s s' : State) (a : Actor) (j place : ℕ) → HasOneStop c own t s → IsMove c own s a s' → HasShrunk c t s s' j place

-- a free actor stays free while another moves
abbrev pub FreeStaysFree : Client → Type 0
FreeStaysFree c = (own : ArrayTable) (t : Table) (s s' : State) (a b : Actor) → HasOneStop c own t s → a ≢ b → IsFree c own t s a → IsMove c own s b s' → IsFree c own t s' a

-- the moves of two free actors lead to one state in either order
pub record AreMet (c : Client) (own : ArrayTable) (x y : State) (a b : Actor) : Type 0 where
  pub both : State
  pub first : IsMove c own x b both
  pub second : IsMove c own y a both

abbrev pub FreeMovesMeet : Client → Type 0
FreeMovesMeet c =
    (own : ArrayTable) (t : Table) (s x y : State) (a b : Actor) → HasOneStop c own t s → a ≢ b → IsFree c own t s a → IsFree c own t s b → IsMove c own s a x → IsMove c own s b y
    → AreMet c own x y a b

-- so do runs that begin with any free actor's move: they stop where the one does in which the lowest moves
abbrev pub FreeMovesLead : Client → Type 0
FreeMovesLead c = (own : ArrayTable) (t : Table) (s s' : State) (a : Actor) → HasOneStop c own t s → IsFree c own t s a → IsMove c own s a s' → LeadsTo c own t s s'

-- each move leads to such a state again
abbrev pub StopsStay : Client → Type 0
StopsStay c = (own : ArrayTable) (t : Table) (s s' : State) (a : Actor) → HasOneStop c own t s → IsMove c own s a s' → HasOneStop c own t s'
