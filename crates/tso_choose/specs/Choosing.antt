-- Which enabled actors of a state are chosen.
use Rattle.std.specs.Prelude.{◌≡◌, ℕ, ◌<◌, ◌||◌, Bool, false, IsTrue, List, Option, Some, None, slice_index_or}
use Rattle.tso_choose.specs.Closures.{GoesBefore, IsIn, needs_at}
use Rattle.tso_choose.specs.Needs.{is_enabled, needs}
use Rattle.tso_choose.specs.Sets.{IsOnly, actor_at, has}
use Rattle.tso_compact.specs.declared.sort.StepKind.{StepKind}
use Rattle.tso_foot.specs.declared.table.Table.{Table}
use Rattle.tso_indep.specs.Reasons.{is_local, is_return, kind_in}
use Rattle.tso_prog.specs.declared.client.Client.{Client}
use Rattle.tso_state.specs.Actors.{number_of}
use Rattle.tso_state.specs.declared.actor.Actor.{Actor}
use Rattle.tso_state.specs.declared.state.State.{State}

-- a step that may go first alone: a local one, or a return
abbrev pub is_lone_if : Option StepKind → Bool
is_lone_if None = false
is_lone_if (Some kind) = is_local kind || is_return kind

abbrev pub is_lone : Client → State → Actor → Bool
is_lone c s a = is_lone_if (kind_in c s a)

-- the lowest actor with such a step
pub record IsFirstLone (c : Client) (s : State) (a : Actor) : Type 0 where
  pub lone : IsTrue (is_lone c s a)
  pub first : (b : Actor) → number_of b < number_of a → is_lone c s b ≡ false

-- no actor has such a step
abbrev pub HasNoLone : Client → State → Type 0
HasNoLone c s = (a : Actor) → is_lone c s a ≡ false

-- the actor with this number is the lowest with such a step
pub record IsLoneAt (c : Client) (s : State) (number : ℕ) : Type 0 where
  pub small : number < 16
  pub is : IsFirstLone c s (actor_at number)

-- these are the kinds of the actors' steps, by their numbers
abbrev pub AreKinds : Client → State → List (Option StepKind) → Type 0
AreKinds c s kinds = (n : ℕ) → slice_index_or kinds n None ≡ kind_in c s (actor_at n)

-- these are what the actors' steps need, by their numbers
abbrev pub AreNeeds : Client → Table → State → List ℕ → Type 0
AreNeeds c t s sets = (n : ℕ) (b : Actor) → has (needs_at sets n) b ≡ needs c t s (actor_at n) b

-- the set has all that its members' steps need
abbrev pub HasNeeds : Client → Table → State → ℕ → Type 0
HasNeeds c t s set = (a b : Actor) → IsTrue (has set a) → IsTrue (needs c t s a b) → IsTrue (has set b)

-- the least such set with this actor
pub record IsLeast (c : Client) (t : Table) (s : State) (a : Actor) (set : ℕ) : Type 0 where
  pub own : IsTrue (has set a)
  pub needed : HasNeeds c t s set
  pub least : (other : ℕ) → IsTrue (has other a) → HasNeeds c t s other → IsIn set other

-- of the least sets of the enabled actors the smallest, at a tie that of the lowest actor
pub record IsSmallestOf (c : Client) (t : Table) (s : State) (a : Actor) (set : ℕ) : Type 0 where
  pub enabled : IsTrue (is_enabled c s a)
  pub least : IsLeast c t s a set
  pub first : (b : Actor) (other : ℕ) → IsTrue (is_enabled c s b) → IsLeast c t s b other → GoesBefore set (number_of a) other (number_of b)

-- the set is chosen: the lowest actor alone whose step is local or a return; where there is none, the smallest of the least sets that have
-- all that their members need; none where nothing is enabled
pub data IsChoice (c : Client) (t : Table) (s : State) (set : ℕ) : Type 0 where
  Alone : (a : Actor) → IsFirstLone c s a → IsOnly set a → IsChoice c t s set
  Together : (a : Actor) → HasNoLone c s → IsSmallestOf c t s a set → IsChoice c t s set
  Nobody : ((b : Actor) → is_enabled c s b ≡ false) → set ≡ 0 → IsChoice c t s set
