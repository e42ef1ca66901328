-- What several regions have among them, and the states of all of them together.
use Rattle.std.specs.Prelude.{◌≡◌, ◌<◌, ◌≤◌, ◌==◌, ◌++◌, ◌∷◌, ℕ, zero, suc, IsTrue, List, [], if◌then◌else◌, length, Option, Some, slice_get, slice_index_or, take}
use Rattle.tso_compact.specs.Laws.{initial_of}
use Rattle.tso_foot.specs.declared.table.Table.{Table}
use Rattle.tso_parts.specs.Numbers.{IsNumbered}
use Rattle.tso_prog.specs.declared.client.Client.{Client}
use Rattle.tso_regions.specs.Owners.{owner_in}
use Rattle.tso_regions.specs.Regions.{Domain}
use Rattle.tso_search.specs.Marking.{is_marked}
use Rattle.tso_search.specs.Reached.{AllMet}
use Rattle.tso_search.specs.BySteps.{AreDone}
use Rattle.tso_state.specs.Views.{state_of}
use Rattle.tso_state.specs.declared.state.State.{State}
use Rattle.tso_store.specs.Gathering.{Gathering, no_state}
use Rattle.tso_keys.specs.declared.key.Key.{Key}

-- state number n; one of nothing where there are not so many
abbrev pub state_at : List State → ℕ → State
state_at states n = slice_index_or states n no_state

-- the numbers below n of the states that belong to owner i of so many, in their order
abbrev pub owned_below : (count i : ℕ) → List State → ℕ → List ℕ
owned_below count i states zero = []
owned_below count i states (suc n) = if owner_in count (state_at states n) == i then owned_below count i states n ++ n ∷ [] else owned_below count i states n

-- state number n belongs to this owner, of so many
pub record IsOwnedAt (count : ℕ) (states : List State) (n owner : ℕ) : Type 0 where
  pub state : State
  pub at : slice_get states n ≡ Some state
  pub is : owner_in count state ≡ owner

-- whose the states with these keys are stands at the numbers of their histories
abbrev pub AreOwners : (count : ℕ) → List ℕ → List Key → List State → Type 0
AreOwners count owners keys states = (n owner : ℕ) (k : Key) → slice_get keys n ≡ Some k → slice_get owners k.history ≡ Some owner → IsOwnedAt count states n owner

-- the state's owner keeps it
pub record IsHeld (count : ℕ) (domains : List Domain) (s : State) : Type 0 where
  pub keeper : Domain
  pub keeper_at : slice_get domains (owner_in count s) ≡ Some keeper
  pub number : ℕ
  pub at : slice_get keeper.states number ≡ Some s

-- region i of so many lists just its own states, all of which are worked, and each other state that it has is kept by its owner
pub record IsSettled (count : ℕ) (domains : List Domain) (i : ℕ) (d : Domain) : Type 0 where
  pub own : d.own ≡ owned_below count i d.states (length d.states)
  pub worked : (n : ℕ) (s : State) → slice_get d.states n ≡ Some s → owner_in count s ≡ i → IsTrue (is_marked d.marks n)
  pub held : (n : ℕ) (s : State) → slice_get d.states n ≡ Some s → (owner_in count s ≡ i → ⊥) → IsHeld count domains s

-- state number n of region i is its own, stands in its list behind so many, and is worked
pub record IsNextOwn (count i : ℕ) (d : Domain) (n before : ℕ) : Type 0 where
  pub state : State
  pub at : slice_get d.states n ≡ Some state
  pub is : owner_in count state ≡ i
  pub next : slice_get d.own before ≡ Some n
  pub worked : IsTrue (is_marked d.marks n)

-- each region lists just its own states
abbrev pub AreOwnListed : ℕ → List Domain → Type 0
AreOwnListed count domains = (i : ℕ) (d : Domain) → slice_get domains i ≡ Some d → d.own ≡ owned_below count i d.states (length d.states)

-- it belongs to another region, which has it
pub record IsHeldAbroad (count : ℕ) (domains : List Domain) (i : ℕ) (d : Domain) (n : ℕ) : Type 0 where
  pub state : State
  pub at : slice_get d.states n ≡ Some state
  pub other : owner_in count state ≡ i → ⊥
  pub held : IsHeld count domains state

-- its states with numbers below n stand so, of which so many are its own
pub record IsSettledBelow (count : ℕ) (domains : List Domain) (i : ℕ) (d : Domain) (n before : ℕ) : Type 0 where
  pub own : take before d.own ≡ owned_below count i d.states n
  pub worked : (m : ℕ) (s : State) → m < n → slice_get d.states m ≡ Some s → owner_in count s ≡ i → IsTrue (is_marked d.marks m)
  pub held : (m : ℕ) (s : State) → m < n → slice_get d.states m ≡ Some s → (owner_in count s ≡ i → ⊥) → IsHeld count domains s

-- its states are met, each has one number, and those that are marked are worked
pub record IsKnownRegion (c : Client) (t : Table) (d : Domain) : Type 0 where
  pub met : AllMet c d.states
  pub differ : IsNumbered d.states
  pub done : AreDone c t d.states d.marks

-- the regions with numbers from one up to another are so, whoever searches
abbrev pub AreSettledBetween : Option Client → Option Table → ℕ → List Domain → ℕ → ℕ → Type 0
AreSettledBetween client table count domains from to = (c : Client) (t : Table) (i : ℕ) (d : Domain) → client ≡ Some c → table ≡ Some t → from ≤ i → i < to → slice_get domains i ≡ Some d
    → IsSettled count domains i d × IsKnownRegion c t d

-- regions that can be asked about
pub record CanBeAsked (count : ℕ) (domains : List Domain) (from to : ℕ) : Type 0 where
  pub some : 0 < count
  pub ordered : from ≤ to
  pub there : to ≤ length domains

-- two lots of regions, one behind the other
pub record AreHalvesOf (count : ℕ) (domains : List Domain) (from to : ℕ) (lcount : ℕ) (left : List Domain) (lfrom lto : ℕ) (rcount : ℕ) (right : List Domain) (rfrom rto : ℕ) : Type 0 where
  pub left_is : (lcount ≡ count) × (left ≡ domains) × (lfrom ≡ from)
  pub right_is : (rcount ≡ count) × (right ≡ domains) × (rto ≡ to)
  pub middle : lto ≡ rfrom

-- all regions are so
abbrev pub AreSettled : Client → Table → ℕ → List Domain → Type 0
AreSettled c t count domains = (i : ℕ) (d : Domain) → slice_get domains i ≡ Some d → IsSettled count domains i d × IsKnownRegion c t d

-- state number n of region i is one of its own
pub record IsOwned (count : ℕ) (domains : List Domain) (k : ℕ) (s : State) : Type 0 where
  pub owner : ℕ
  pub domain : Domain
  pub number : ℕ
  pub below : owner < k
  pub domain_at : slice_get domains owner ≡ Some domain
  pub at : slice_get domain.states number ≡ Some s
  pub is : owner_in count s ≡ owner

-- the states that the first k regions list as their own, one behind another
pub record AreGathered (c : Client) (count : ℕ) (domains : List Domain) (k : ℕ) (states : List State) : Type 0 where
  pub from : (m : ℕ) (s : State) → slice_get states m ≡ Some s → IsOwned count domains k s
  pub has : (i n : ℕ) (d : Domain) (s : State) → i < k → slice_get domains i ≡ Some d → slice_get d.states n ≡ Some s → owner_in count s ≡ i → (m : ℕ) × (slice_get states m ≡ Some s)
  pub differ : IsNumbered states
  pub met : AllMet c states

-- the first region begins with the initial state, which is listed as its own
pub record IsBegunAt (c : Client) (domains : List Domain) : Type 0 where
  pub domain : Domain
  pub domain_at : slice_get domains 0 ≡ Some domain
  pub initial : State
  pub own : slice_get domain.own 0 ≡ Some 0
  pub at : slice_get domain.states 0 ≡ Some initial
  pub initial_is : state_of initial ≡ initial_of c

-- where the first region lists its first state first, that comes first
abbrev pub IsFirstTaken : List Domain → List State → Type 0
IsFirstTaken domains states = (d : Domain) (s : State) → slice_get domains 0 ≡ Some d → slice_get d.own 0 ≡ Some 0 → slice_get d.states 0 ≡ Some s → slice_get states 0 ≡ Some s

-- states of this client that all regions list, gathered before it is known of each region that it lists just its own
pub record AreAllTaken (c : Client) (count : ℕ) (domains : List Domain) (g : Gathering) : Type 0 where
  pub client : g.client ≡ c
  pub gathered : AreOwnListed count domains → AreGathered c count domains (length domains) g.states
  pub first : IsFirstTaken domains g.states
