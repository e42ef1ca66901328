-- The states of one owner, and how far they are worked.
use Rattle.std.specs.Prelude.{◌≡◌, ℕ, Bool, List, None, Option, Some}
use Rattle.tso_foot.specs.declared.table.Table.{Table}
use Rattle.tso_parts.specs.Numbers.{Extends}
use Rattle.tso_prog.specs.declared.client.Client.{Client}
use Rattle.tso_regions.specs.declared.halt.Halt.{Halt}
use Rattle.tso_search.specs.Goodness.{AllGood, IsGood}
use Rattle.tso_search.specs.Reached.{AllMet, IsMet}
use Rattle.tso_search.specs.BySteps.{AreDone, AreFollowed}
use Rattle.tso_state.specs.declared.state.State.{State}
use Rattle.tso_store.specs.Sheets.{Sheet}

-- all states are met, and the runs to each are good
pub record AreSound (c : Client) (states : List State) : Type 0 where
  pub met : AllMet c states
  pub good : AllGood c states

-- a state of this client that is met, and to which the runs are good
pub record IsSound (c : Client) (s : State) : Type 0 where
  pub met : IsMet c s
  pub good : IsGood c s

-- the actors of a set with numbers below k are followed from state number n
pub record IsFollowing (c : Client) (old new : Sheet) (n set k : ℕ) : Type 0 where
  pub client : new.client ≡ c
  pub sound : AreSound c new.states
  pub stays : Extends old.states new.states
  pub followed : AreFollowed c old.states new.states n set k

-- what contracts see of a region: which it is, and of how many; its states, which of them are worked, and which are listed as its own
pub record Domain : Type 0 where
  pub number : ℕ
  pub count : ℕ
  pub states : List State
  pub marks : List Bool
  pub own : List ℕ

-- the states are met, those that are marked are worked, and all are good while none was met that is not
pub record IsExplored (c : Client) (t : Table) (states : List State) (marks : List Bool) (halt : Option Halt) : Type 0 where
  pub met : AllMet c states
  pub done : AreDone c t states marks
  pub good : halt ≡ None → AllGood c states

-- a region of this client and this table of footprints
pub record IsDomain (client : Option Client) (table : Option Table) (c : Client) (t : Table) (store : Sheet) (marks : List Bool) (halt : Option Halt) : Type 0 where
  pub client_is : client ≡ Some c
  pub table_is : table ≡ Some t
  pub store_is : store.client ≡ c
  pub explored : IsExplored c t store.states marks halt

-- the states are of this client, whoever searches it
pub record IsParcel (realm : Option Client) (store : Sheet) : Type 0 where
  pub client : realm ≡ Some store.client
  pub sound : AreSound store.client store.states
