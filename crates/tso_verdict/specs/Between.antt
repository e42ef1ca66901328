-- The states that lie between the records of a certificate of crossings, in the order in which they are passed.
use Rattle.std.specs.Prelude.{◌≡◌, ◌++◌, ◌∷◌, ◌+◌, [], ℕ, List, None, length}
use Rattle.tso_compact.specs.Laws.{initial_of}
use Rattle.tso_compact.specs.Plans.{IsStep}
use Rattle.tso_foot.specs.declared.table.ArrayTable.{ArrayTable}
use Rattle.tso_foot.specs.declared.table.Table.{Table}
use Rattle.tso_move.specs.Free.{IsLowestFree}
use Rattle.tso_move.specs.Parts.{begun_in}
use Rattle.tso_move.specs.Runs.{HasMove, IsMove, StopsAt}
use Rattle.tso_prog.specs.declared.client.Client.{Client}
use Rattle.tso_state.specs.Views.{state_of}
use Rattle.tso_state.specs.WellFormed.{IsWellFormed}
use Rattle.tso_state.specs.declared.actor.Actor.{Actor}
use Rattle.tso_state.specs.declared.actor.Actor.TheVariants.{Exec, Drain}
use Rattle.tso_state.specs.declared.state.State.{State}
use Rattle.tso_verdict.specs.declared.between.Next.{Next}

-- From a state in which a call has begun: the states of its opening, one step after the other, up to the one where the move leads.
pub data IsOpened (c : Client) (own : ArrayTable) (a : Actor) (after : State) : State → List State → Type 0 where
  Leads : (s : State) → s ≡ after → IsOpened c own a after s (s ∷ [])
  Ends : (s : State) → (IsWellFormed c s → HasMove c own s a → ⊥) → IsOpened c own a after s (s ∷ [])
  Opens : (s s' : State) (passed : List State) → IsWellFormed c s → IsMove c own s a s' → IsOpened c own a after s' passed → IsOpened c own a after s (s ∷ passed)

-- The actor's move leads from s to `after`: what it passes, with where it leads. A move that begins no call is one step.
pub data IsMovedPast (c : Client) (own : ArrayTable) (s : State) (a : Actor) (after : State) : List State → Type 0 where
  ByStep : begun_in c s a ≡ None → IsMovedPast c own s a after (after ∷ [])
  ByCall : (begun : State) (passed : List State) → (begun_in c s a ≡ None → ⊥) → IsStep c s a begun → IsOpened c own a after begun passed → IsMovedPast c own s a after passed

-- what the run of free actors' moves from a state passes behind it, with where it stops
pub data IsRunPast (c : Client) (own : ArrayTable) (t : Table) : State → List State → Type 0 where
  Stays : (s : State) → StopsAt c own t s → IsRunPast c own t s []
  Runs : (s s' : State) (a : Actor) (walked passed : List State) → IsWellFormed c s → IsLowestFree c own t s a → IsMove c own s a s' → IsMovedPast c own s a s' walked → IsRunPast c own t s' passed
      → IsRunPast c own t s (walked ++ passed)

-- what the actor's move and the run behind it pass, if it has a move
pub data IsBehind (c : Client) (own : ArrayTable) (t : Table) (s : State) (a : Actor) : List State → Type 0 where
  Rests : (HasMove c own s a → ⊥) → IsBehind c own t s a []
  Moves : (after : State) (walked passed : List State) → IsMove c own s a after → IsMovedPast c own s a after walked → IsRunPast c own t after passed → IsBehind c own t s a (walked ++ passed)

-- what those of both actors of a thread do
pub data IsBehindThread (c : Client) (own : ArrayTable) (t : Table) (s : State) (i : ℕ) : List State → Type 0 where
  Both : (core buffer : List State) → IsBehind c own t s (Exec i) core → IsBehind c own t s (Drain i) buffer → IsBehindThread c own t s i (core ++ buffer)

-- what those of all actors of the first n threads do
pub data AreBehind (c : Client) (own : ArrayTable) (t : Table) (s : State) : ℕ → List State → Type 0 where
  NoThread : AreBehind c own t s 0 []
  OneMore : (n : ℕ) (before own_passed : List State) → AreBehind c own t s n before → IsBehindThread c own t s n own_passed → AreBehind c own t s (n + 1) (before ++ own_passed)

-- what those of all actors of a record do; none are followed from a state that is not well-formed, which no accepted certificate has
pub data IsBeyond (c : Client) (own : ArrayTable) (t : Table) (s : State) : List State → Type 0 where
  Unfit : (IsWellFormed c s → ⊥) → IsBeyond c own t s []
  Fit : (passed : List State) → IsWellFormed c s → AreBehind c own t s (length s.threads) passed → IsBeyond c own t s passed

-- what those of records do
pub data AreBeyond (c : Client) (own : ArrayTable) (t : Table) : List State → List State → Type 0 where
  NoRecord : AreBeyond c own t [] []
  Another : (states passed own_passed : List State) (s : State) → AreBeyond c own t states passed → IsBeyond c own t s own_passed → AreBeyond c own t (states ++ s ∷ []) (passed ++ own_passed)

-- the initial state, and what the run from it passes
pub data IsFromFirst (c : Client) (own : ArrayTable) (t : Table) : List State → Type 0 where
  Starts : (first : State) (passed : List State) → state_of first ≡ initial_of c → IsRunPast c own t first passed → IsFromFirst c own t (first ∷ passed)

-- what lies between records of these states: from the initial state on, and behind the records
pub data AreBetween (c : Client) (own : ArrayTable) (t : Table) (states : List State) : List State → Type 0 where
  Between : (start beyond : List State) → IsFromFirst c own t start → AreBeyond c own t states beyond → AreBetween c own t states (start ++ beyond)

-- ---- how it is followed

-- the state is well-formed, and the actor's move leads to this one
pub record IsGoneOn (c : Client) (own : ArrayTable) (s : State) (a : Actor) (s' : State) : Type 0 where
  pub well_formed : IsWellFormed c s
  pub move : IsMove c own s a s'

-- the same of its lowest free actor
pub record IsWayOn (c : Client) (own : ArrayTable) (t : Table) (s : State) (next : Next) : Type 0 where
  pub well_formed : IsWellFormed c s
  pub free : IsLowestFree c own t s next.actor
  pub move : IsMove c own s next.actor next.state
