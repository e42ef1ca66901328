-- States by the numbers of their parts.
use Rattle.std.specs.Prelude.{◌≡◌, ◌+◌, ◌<◌, ◌^◌, ℕ, List, [], map, length, Some, slice_get, slice_index_or}
use Rattle.std.specs.List.{AllByRecursion}
use Rattle.tso_hist.specs.declared.call.Call.{Call}
use Rattle.tso_parts.specs.Numbers.{Extends}
use Rattle.tso_prog.specs.declared.client.Client.{Client}
use Rattle.tso_state.specs.WellFormed.{thread_total}
use Rattle.tso_state.specs.declared.state.State.{State}
use Rattle.tso_state.specs.declared.state.Thread.{Thread}
use Rattle.tso_keys.specs.declared.key.Key.{Key}
use Rattle.tso_keys.specs.declared.parts.Parts.{Parts}
use Rattle.tso_keys.specs.Numbers.{AreNumbersOf, values_at}

-- the state has the client's threads, the prologue's counted, and a list of calls for each
pub record FitsClient (c : Client) (s : State) : Type 0 where
  pub threads : length s.threads ≡ thread_total c
  pub lists : length s.history ≡ thread_total c

-- the parts with these numbers are those of the state
pub record IsKeyOf (p : Parts) (k : Key) (s : State) : Type 0 where
  pub memory : slice_get p.memories k.memory ≡ Some s.memory
  pub history : slice_get p.histories k.history ≡ Some s.history
  pub threads : AreNumbersOf p.threads k.threads s.threads
  pub wide : length k.threads ≡ 5

-- one of the state's parts has no number
abbrev pub HasNoKey : Parts → State → Type 0
HasNoKey p s = (k : Key) → IsKeyOf p k s → ⊥

-- the state of a key
abbrev pub state_at : Parts → Key → State
state_at p k = record { memory = slice_index_or p.memories k.memory []; threads = values_at p.threads k.threads; history = slice_index_or p.histories k.history [] }

abbrev pub states_at : Parts → List Key → List State
states_at p ks = map (state_at p) ks

-- the key is that of a state of the client
pub record IsKept (c : Client) (p : Parts) (k : Key) : Type 0 where
  pub key : IsKeyOf p k (state_at p k)
  pub fits : FitsClient c (state_at p k)

abbrev pub AreKept : Client → Parts → List Key → Type 0
AreKept c p ks = AllByRecursion (IsKept c p) ks

-- the numbers are those of threads of a pool, so many, as there are lists of calls
pub record IsViewed (pool : List Thread) (numbers : List ℕ) (history : List (List Call)) (count : ℕ) : Type 0 where
  pub threads : AreNumbersOf pool numbers (values_at pool numbers)
  pub width : length (values_at pool numbers) ≡ count
  pub lists : length history ≡ count
  pub small : length pool < 2 ^ 32

-- the keys are of states of some client
abbrev pub AreSomeones : Parts → List Key → Type 0
AreSomeones p ks = (c : Client) × AreKept c p ks

-- how many parts there are
abbrev pub part_count : Parts → ℕ
part_count p = length p.memories + length p.histories + length p.threads

-- each number stays, and there are not too many threads
pub record Grows (old new : Parts) : Type 0 where
  pub memories : Extends old.memories new.memories
  pub histories : Extends old.histories new.histories
  pub threads : Extends old.threads new.threads
  pub small : length old.threads < 2 ^ 32 → length new.threads < 2 ^ 32
