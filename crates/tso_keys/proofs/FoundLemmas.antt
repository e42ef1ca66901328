-- What is found of a state, and what is absent.
use Rattle.std.proofs.Common.{◌≡◌, ℕ, ◌<◌, ◌^◌, List, length, Option, Some, None, slice_get}
use Rattle.std.specs.Prelude.{MatchOption}
use Rattle.tso_parts.specs.Numbers.{IsNumbered, IsNowhere}
use Rattle.tso_prog.specs.declared.client.Client.{Client}
use Rattle.tso_state.specs.declared.state.State.{State}
use Rattle.tso_keys.specs.declared.key.Key.{Key}
use Rattle.tso_keys.specs.declared.parts.Parts.{Parts}
use Rattle.tso_keys.specs.Keys.{AreKept, HasNoKey, IsKeyOf, states_at}
use Rattle.tso_keys.specs.Numbers.{HasNoRow}
use Rattle.tso_keys.proofs.StateLemmas.{no_state, found_state}

-- a state with a part that has no number has no key
pub no_memory_key : (p : Parts) (s : State) → IsNowhere p.memories s.memory → HasNoKey p s
no_memory_key p s none k key = none k.memory key.memory

pub no_history_key : (p : Parts) (s : State) → IsNowhere p.histories s.history → HasNoKey p s
no_history_key p s none k key = none k.history key.history

pub no_threads_key : (p : Parts) (s : State) → HasNoRow p.threads s.threads → HasNoKey p s
no_threads_key p s none k key = none k.threads key.threads

pub found_or : (c : Client) (p : Parts) (ks : List Key) (k : Key) (s : State) (r : Option ℕ) → IsNumbered p.memories → IsNumbered p.histories → IsNumbered p.threads → length p.threads < 2 ^ 32 → AreKept c p ks → IsKeyOf p k s → MatchOption r (IsNowhere ks k) (λ n. slice_get ks n ≡ Some k) → MatchOption r (IsNowhere (states_at p ks) s) (λ n. slice_get (states_at p ks) n ≡ Some s)
found_or c p ks k s None one two three small all is none = no_state c p ks k s one two three all is none
found_or c p ks k s (Some n) one two three small all is at = found_state p ks n k s small is at
