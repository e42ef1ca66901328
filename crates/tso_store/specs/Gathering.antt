-- Some of the states of several stores, one behind another.
use Rattle.std.specs.Prelude.{◌≡◌, ◌<◌, ◌^◌, ℕ, List, [], map, length, Some, slice_get, slice_index_or}
use Rattle.tso_hist.specs.declared.call.Call.{Call}
use Rattle.tso_prog.specs.declared.client.Client.{Client}
use Rattle.tso_state.specs.declared.state.State.{State}
use Rattle.tso_keys.specs.Keys.{AreKept}
use Rattle.tso_keys.specs.Moving.{moved_key}
use Rattle.tso_keys.specs.declared.key.Key.{Key}
use Rattle.tso_keys.specs.declared.key.TheConstants.{NO_KEY}
use Rattle.tso_keys.specs.declared.moved.PartNumbers.{PartNumbers}
use Rattle.tso_keys.specs.declared.parts.Parts.{Parts}

-- what contracts see of states that are gathered
pub record Gathering : Type 0 where
  pub client : Client
  pub states : List State
  -- how many parts they have in all
  pub parts : ℕ

pub record AreGathered (c : Client) (parts : Parts) (keys : List Key) : Type 0 where
  pub kept : AreKept c parts keys
  pub small : length parts.threads < 2 ^ 32

-- the same, where the histories are those of a memo
pub record AreCompared (c : Client) (parts : Parts) (keys : List Key) (histories : List (List (List Call))) : Type 0 where
  pub are : AreGathered c parts keys
  pub memo : histories ≡ parts.histories

-- each number is that of a state
abbrev pub AreThere : List State → List ℕ → Type 0
AreThere states ns = (i n : ℕ) → slice_get ns i ≡ Some n → n < length states

-- the state with no memory, no history and no threads
abbrev pub no_state : State
no_state = record { memory = []; threads = []; history = [] }

-- the states with these numbers, in this order
abbrev pub picked : List State → List ℕ → List State
picked states ns = map (λ n. slice_index_or states n no_state) ns

-- the key with this number by the new numbers of its parts
abbrev pub moved_from : PartNumbers → List Key → ℕ → Key
moved_from r ks n = moved_key r (slice_index_or ks n NO_KEY)
