-- What a search keeps, and why it stops.
use Rattle.std.specs.Prelude.{◌≡◌, ◌+◌, ◌<◌, ◌≤◌, ℕ, Bool, IsTrue, List, [], ◌∷◌, length, Some, slice_get}
use Rattle.tso_choose.specs.Closures.{has_bit}
use Rattle.tso_choose.specs.Sets.{actor_at}
use Rattle.tso_search.specs.Goodness.{AllGood, IsGood}
use Rattle.tso_search.specs.Grounds.{AllAreKept, HasClosed, IsFirst, IsMetBehind}
use Rattle.tso_search.specs.Marking.{is_marked}
use Rattle.tso_search.specs.Reached.{AllMet, AreOrigins, IsBadAt, IsReached}
use Rattle.tso_search.specs.declared.ground.Ground.{Ground}
use Rattle.tso_search.specs.declared.origin.Origin.{Origin}
use Rattle.tso_search.specs.declared.stop.Stop.{Stop}
use Rattle.tso_search.specs.declared.stop.Stop.TheVariants as stops
use Rattle.tso_fifo.specs.Orders.{HasOrder}
use Rattle.tso_rec.specs.Conditions.{HasNoStopped, IsOver}
use Rattle.tso_parts.specs.Numbers.{Extends, IsNumbered}
use Rattle.tso_prog.specs.declared.client.Client.{Client}
use Rattle.tso_state.specs.declared.actor.Actor.{Actor}
use Rattle.tso_state.specs.declared.state.State.{State}

-- the states to which the actors lead that are to be followed are kept; where no actor has a step, no thread is stopped and an order
-- explains the calls
pub record IsWorked (c : Client) (g : Ground) (states : List State) (s : State) : Type 0 where
  pub kept : AllAreKept c g states s
  pub unstopped : IsOver c s → HasNoStopped s
  pub explained : IsOver c s → HasOrder c.mode c.capacity s.history

-- the first of so many states is where a search begins, and all are met, each but the first from an earlier one
pub record IsBegun (c : Client) (g : Ground) (states : List State) (sources : List Origin) : Type 0 where
  pub closed : HasClosed c g
  pub initial : State
  pub initial_at : slice_get states 0 ≡ Some initial
  pub initial_is : IsFirst c g initial
  pub met : AllMet c states
  pub count : length sources + 1 ≡ length states
  pub origins : AreOrigins c g states sources

-- and those with numbers below this one are worked
pub record IsSearched (c : Client) (g : Ground) (states : List State) (origins : List Origin) (number : ℕ) : Type 0 where
  pub begun : IsBegun c g states origins
  pub worked : (n : ℕ) (s : State) → n < number → slice_get states n ≡ Some s → IsWorked c g states s

-- of no more states than the limit, each that was there keeps its number
pub record GoesOn (c : Client) (g : Ground) (limit : ℕ) (old new : List State) (origins : List Origin) : Type 0 where
  pub begun : IsBegun c g new origins
  pub stays : Extends old new
  pub few : length new ≤ limit

-- where the actor leads from state number n is kept
abbrev pub IsFollowed : Client → Ground → List State → List State → ℕ → Actor → Type 0
IsFollowed c g old new n a = (s : State) → slice_get old n ≡ Some s → IsMetBehind c g new s a

-- for each actor of a set of those with numbers below this one
abbrev pub AreFollowed : Client → Ground → List State → List State → ℕ → ℕ → ℕ → Type 0
AreFollowed c g old new n set upto = (k : ℕ) → k < upto → IsTrue (has_bit set k) → IsFollowed c g old new n (actor_at k)

-- more states can be reached than this
pub record HasMore (c : Client) (limit : ℕ) : Type 0 where
  pub states : List State
  pub more : limit < length states
  pub differ : IsNumbered states
  pub reached : (n : ℕ) (s : State) → slice_get states n ≡ Some s → IsReached c s

-- why a search with these states stops
abbrev pub IsStop : Client → Ground → ℕ → List State → List Origin → Stop → Type 0
IsStop c g limit states origins (stops.Violation n) = IsBegun c g states origins × IsBadAt c states n
IsStop c g limit states origins stops.Limit = HasMore c limit
IsStop c g limit states origins stops.Memory = Unit {0}

-- state number n is a good one
pub record IsGoodAt (c : Client) (states : List State) (n : ℕ) : Type 0 where
  pub state : State
  pub at : slice_get states n ≡ Some state
  pub good : IsGood c state

-- a search stops at state number n, which is bad, or for want of memory
abbrev pub IsStopAt : Client → List State → ℕ → Stop → Type 0
IsStopAt c states n (stops.Violation m) = (m ≡ n) × IsBadAt c states n
IsStopAt c states n stops.Limit = ⊥
IsStopAt c states n stops.Memory = Unit {0}

-- the state with which a search begins alone
pub record IsStarted (c : Client) (g : Ground) (states : List State) : Type 0 where
  pub closed : HasClosed c g
  pub initial : State
  pub only : states ≡ initial ∷ []
  pub initial_is : IsFirst c g initial

-- the first of the states is that with which a search begins, and all are met
pub record HasBegun (c : Client) (g : Ground) (states : List State) : Type 0 where
  pub initial : State
  pub initial_at : slice_get states 0 ≡ Some initial
  pub initial_is : IsFirst c g initial
  pub met : AllMet c states

-- where there is a state with this number, it is worked
abbrev pub IsWorkedAt : Client → Ground → List State → ℕ → Type 0
IsWorkedAt c g states n = (s : State) → slice_get states n ≡ Some s → IsWorked c g states s

-- for each number from one up to another
abbrev pub AreWorkedBetween : Client → Ground → List State → ℕ → ℕ → Type 0
AreWorkedBetween c g states from to = (n : ℕ) → from ≤ n → n < to → IsWorkedAt c g states n

-- the first is that with which a search begins, all are met, and all of them are worked
pub record AreSearched (c : Client) (g : Ground) (states : List State) : Type 0 where
  pub begun : HasBegun c g states
  pub worked : (n : ℕ) → IsWorkedAt c g states n

-- the state with this number is there, and worked
pub record IsDone (c : Client) (g : Ground) (states : List State) (n : ℕ) : Type 0 where
  pub state : State
  pub at : slice_get states n ≡ Some state
  pub worked : IsWorked c g states state

-- all that are marked are worked
abbrev pub AreDone : Client → Ground → List State → List Bool → Type 0
AreDone c g states marks = (n : ℕ) → IsTrue (is_marked marks n) → IsDone c g states n

-- what a hunt keeps: states that are met, all good, no more of them than the limit, and those that are marked are worked
pub record IsHunting (c : Client) (g : Ground) (limit : ℕ) (states : List State) (origins : List Origin) (marks : List Bool) : Type 0 where
  pub begun : IsBegun c g states origins
  pub good : AllGood c states
  pub few : length states ≤ limit
  pub done : AreDone c g states marks
