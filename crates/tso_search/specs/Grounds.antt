-- By what a search goes on from a state: by steps to the states after them, by crossings to the states in which the runs behind moves
-- stop.
use Rattle.std.specs.Prelude.{◌≡◌, ◌<◌, ◌≤◌, ℕ, All, Bool, IsTrue, List, Option, None, Some, slice_get}
use Rattle.tso_choose.specs.Choices.{AreChosen}
use Rattle.tso_choose.specs.Choosing.{IsChoice}
use Rattle.tso_choose.specs.Closures.{has_bit}
use Rattle.tso_choose.specs.declared.choice.Choice.{Choice}
use Rattle.tso_compact.specs.Laws.{initial_of}
use Rattle.tso_compact.specs.Plans.{HasStep, IsStep}
use Rattle.tso_foot.specs.Closed.{IsClosed, IsLeastClosed}
use Rattle.tso_foot.specs.declared.table.ArrayTable.{ArrayTable}
use Rattle.tso_foot.specs.declared.table.Table.{Table}
use Rattle.tso_foot.specs.declared.table.Table.TheVariants.{Arrays}
use Rattle.tso_judge.specs.Certified.{HasTable}
use Rattle.tso_move.specs.Crossed.{IsMetAfter}
use Rattle.tso_move.specs.Runs.{HasMove, IsMove, IsRun}
use Rattle.tso_prog.specs.declared.client.Client.{Client}
use Rattle.tso_rec.specs.Bases.{basis}
use Rattle.tso_rec.specs.Conditions.{IsKeptAfter, IsLeast}
use Rattle.tso_rec.specs.declared.basis.Basis.{Basis}
use Rattle.tso_rec.specs.declared.basis.Grain.{Grain}
use Rattle.tso_rec.specs.declared.basis.Grain.TheVariants as grains
use Rattle.tso_search.specs.declared.ground.Ground.{Ground}
use Rattle.tso_search.specs.declared.ground.Ground.TheVariants.{Steps, Crossings}
use Rattle.tso_state.specs.Views.{state_of}
use Rattle.tso_state.specs.declared.actor.Actor.{Actor}
use Rattle.tso_state.specs.declared.state.State.{State}
use Rattle.tso_store.specs.Arriving.{HasOneStopAt}
use Rattle.tso_store.specs.Sheets.{IsAdded}

-- ---- its table and its grain

abbrev pub table_of : Ground → Table
table_of (Steps t) = t
table_of (Crossings own t) = t

abbrev pub grain_of : Ground → Grain
grain_of (Steps t) = grains.Steps
grain_of (Crossings own t) = grains.Crossings

-- what a certificate of such a search stands on
abbrev pub basis_of : Ground → Basis
basis_of g = basis (grain_of g) (table_of g)

-- the table of arrays that tells what is a thread's own is the least
abbrev pub OwnIsLeast : Client → Ground → Type 0
OwnIsLeast c (Steps t) = Unit {0}
OwnIsLeast c (Crossings own t) = IsLeast c own

-- the table of arrays that tells what is a thread's own is closed, and so is the table of footprints
pub record AreClosed (c : Client) (own : ArrayTable) (t : Table) : Type 0 where
  pub closed_own : IsClosed c (Arrays own)
  pub closed : IsClosed c t

-- the tables that tell which actors are free are closed
abbrev pub HasClosed : Client → Ground → Type 0
HasClosed c (Steps t) = Unit {0}
HasClosed c (Crossings own t) = AreClosed c own t

-- by crossings, state number n, if there is one, has one stop, whichever free actors go first
abbrev pub AreOneStop : Client → Ground → List State → ℕ → Type 0
AreOneStop c (Steps t) states n = Unit {0}
AreOneStop c (Crossings own t) states n = HasOneStopAt c own t states n

-- ---- where actors lead

-- the actor's move leads to a state from which the run stops in the second one
pub record IsArrived (c : Client) (own : ArrayTable) (t : Table) (s : State) (a : Actor) (stop : State) : Type 0 where
  pub after : State
  pub move : IsMove c own s a after
  pub run : IsRun c own t after stop

-- the actor leads from the first state to the second
abbrev pub Leads : Client → Ground → State → Actor → State → Type 0
Leads c (Steps t) s a s' = IsStep c s a s'
Leads c (Crossings own t) s a s' = IsArrived c own t s a s'

-- the actor leads somewhere
abbrev pub Goes : Client → Ground → State → Actor → Type 0
Goes c (Steps t) s a = HasStep c s a
Goes c (Crossings own t) s a = HasMove c own s a

-- it is the initial state, or the run from there stops in it
pub record IsFirstStop (c : Client) (own : ArrayTable) (t : Table) (stop : State) : Type 0 where
  pub initial : State
  pub initial_is : state_of initial ≡ initial_of c
  pub run : IsRun c own t initial stop

abbrev pub IsFirst : Client → Ground → State → Type 0
IsFirst c (Steps t) s = state_of s ≡ initial_of c
IsFirst c (Crossings own t) s = IsFirstStop c own t s

-- ---- what is followed

-- where the actor leads from the state is kept
abbrev pub IsMetBehind : Client → Ground → List State → State → Actor → Type 0
IsMetBehind c (Steps t) states s a = HasStep c s a → IsKeptAfter c states s a
IsMetBehind c (Crossings own t) states s a = HasMove c own s a → IsMetAfter c own t states s a

-- the actors of this set are to be followed: the chosen ones, or all
abbrev pub AreToFollow : Client → Ground → State → ℕ → Type 0
AreToFollow c (Steps t) s set = IsChoice c t s set
AreToFollow c (Crossings own t) s set = (k : ℕ) → k < 10 → IsTrue (has_bit set k)

-- a set is chosen, and the states after the steps of all chosen actors are kept
pub record AreChosenKept (c : Client) (t : Table) (states : List State) (s : State) : Type 0 where
  pub set : ℕ
  pub chosen : IsChoice c t s set
  pub moves : (choices : List Choice) → AreChosen c t s choices → All (λ (x : Choice). IsKeptAfter c states s x.actor) choices

-- the states to which the actors lead that are to be followed are kept
abbrev pub AllAreKept : Client → Ground → List State → State → Type 0
AllAreKept c (Steps t) states s = AreChosenKept c t states s
AllAreKept c (Crossings own t) states s = (a : Actor) → HasMove c own s a → IsMetAfter c own t states s a

-- ---- numbered states

-- the actor leads somewhere from state number n
pub record CanGo (c : Client) (g : Ground) (states : List State) (n : ℕ) (a : Actor) : Type 0 where
  pub from : State
  pub at : slice_get states n ≡ Some from
  pub goes : Goes c g from a

-- the state to which the actor leads from state number n has this number
pub record IsNext (c : Client) (g : Ground) (old new : List State) (n : ℕ) (a : Actor) (r : ℕ × Bool) : Type 0 where
  pub from : State
  pub to : State
  pub at : slice_get old n ≡ Some from
  pub leads : Leads c g from a to
  pub added : IsAdded old new to r

-- the number of that state, or that the actor leads nowhere
abbrev pub IsNextOrNone : Client → Ground → List State → List State → ℕ → Actor → Option (ℕ × Bool) → Type 0
IsNextOrNone c g old new n a None = (CanGo c g old n a → ⊥) × (new ≡ old)
IsNextOrNone c g old new n a (Some r) = IsNext c g old new n a r

-- the actor leads from state number n to state number m
pub record IsLed (c : Client) (g : Ground) (states : List State) (n : ℕ) (a : Actor) (m : ℕ) : Type 0 where
  pub from : State
  pub to : State
  pub at : slice_get states n ≡ Some from
  pub leads : Leads c g from a to
  pub number : slice_get states m ≡ Some to

-- ---- room

-- A search by steps keeps no more parts of states than this; how many parts runs make is not known beforehand.
abbrev pub HasRoom : Ground → ℕ → ℕ → Type 0
HasRoom (Steps t) kept most = kept ≤ most
HasRoom (Crossings own t) kept most = Unit {0}

-- ---- certificates

-- the table is closed and may stand in a certificate, and the table of arrays that tells what is a thread's own is the least
pub record IsGround (c : Client) (g : Ground) : Type 0 where
  pub closed : IsClosed c (table_of g)
  pub fits : HasTable (grain_of g) (table_of g)
  pub own : OwnIsLeast c g

-- a search by steps has the least closed table
abbrev pub HasLeastTable : Client → Ground → Type 0
HasLeastTable c (Steps t) = IsLeastClosed c t
HasLeastTable c (Crossings own t) = Unit {0}
