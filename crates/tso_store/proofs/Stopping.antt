-- What a store is after the state in which a run stops is added.
use Rattle.std.proofs.Common.{◌≡◌, ◌∙◌, ℕ, ◌<◌, ◌^◌, Bool, List, length, Some, None, refl, sym, subst, slice_get}
use Rattle.std.proofs.lemmas.Option.{slice_get_within}
use Rattle.tso_foot.specs.declared.table.ArrayTable.{ArrayTable}
use Rattle.tso_foot.specs.declared.table.Table.{Table}
use Rattle.tso_move.specs.Runs.{HasMove}
use Rattle.tso_parts.specs.Numbers.{grown}
use Rattle.tso_prog.specs.declared.client.Client.{Client}
use Rattle.tso_state.specs.declared.actor.Actor.{Actor}
use Rattle.tso_state.specs.declared.state.State.{State}
use Rattle.tso_keys.proofs.StateLemmas.{key_state, state_got, state_none, states_stay}
use Rattle.tso_keys.specs.Keys.{AreKept, Grows, IsKeyOf, state_at, states_at}
use Rattle.tso_keys.specs.declared.key.Key.{Key}
use Rattle.tso_keys.specs.declared.parts.Parts.{Parts}
use Rattle.tso_store.proofs.Sheeted.{added}
use Rattle.tso_store.specs.Arriving.{CanMove, IsArrival, IsArrivalOf, IsArrivalOrNone, IsStop, IsStopOf}

cannot_move : (c : Client) (own : ArrayTable) (p : Parts) (ks : List Key) (k : Key) (n : ℕ) (a : Actor) → slice_get ks n ≡ Some k → (HasMove c own (state_at p k) a → ⊥) → CanMove c own (states_at p ks) n a → ⊥
cannot_move c own p ks k n a at none can =
    let both : Some can.from ≡ Some (state_at p k) = sym can.at ∙ state_got p ks n k at in
    let same : can.from ≡ state_at p k = cc in
    let F : State → Type 0 = λ t. HasMove c own t a in
    none (subst F same can.move)

nowhere_to_move : (c : Client) (own : ArrayTable) (p : Parts) (ks : List Key) (n : ℕ) (a : Actor) → slice_get ks n ≡ None → CanMove c own (states_at p ks) n a → ⊥
nowhere_to_move c own p ks n a none can = absurd (let h : None ≡ Some can.from = sym (state_none p ks n none) ∙ can.at in cc)

pub is_there : (p : Parts) (ks : List Key) (n : ℕ) (k : Key) → slice_get ks n ≡ Some k → n < length (states_at p ks)
is_there p ks n k at = slice_get_within (states_at p ks) n (state_at p k) (state_got p ks n k at)

pub no_arrival : (c : Client) (own : ArrayTable) (t : Table) (p : Parts) (ks : List Key) (n : ℕ) (a : Actor) → slice_get ks n ≡ None → IsArrivalOrNone c own t (states_at p ks) (states_at p ks) n a None
no_arrival c own t p ks n a none = (nowhere_to_move c own p ks n a none, refl)

pub no_move_arrival : (c : Client) (own : ArrayTable) (t : Table) (old new : Parts) (ks : List Key) (k : Key) (n : ℕ) (a : Actor) → Grows old new → length new.threads < 2 ^ 32 → AreKept c old ks → slice_get ks n ≡ Some k
    → (HasMove c own (state_at old k) a → ⊥) → IsArrivalOrNone c own t (states_at old ks) (states_at new ks) n a None
no_move_arrival c own t old new ks k n a grows small all at none = (cannot_move c own old ks k n a at none, states_stay c old new ks grows small all)

pub stop_added : (c : Client) (own : ArrayTable) (t : Table) (old new : Parts) (ks after : List Key) (s : State) (stop : Key) (m : ℕ) (b : Bool) → Grows old new → length new.threads < 2 ^ 32 → AreKept c old ks
    → IsStopOf c own t s new stop → after ≡ grown ks stop b → slice_get after m ≡ Some stop → IsStop c own t (states_at old ks) (states_at new after) s (m, b)
stop_added c own t old new ks after s stop m b grows small all by e there = record {
  stop = by.state;
  run = by.run;
  added = added c old new ks after stop by.state m b grows small all by.key e there;
}

pub arrival : (c : Client) (own : ArrayTable) (t : Table) (old new : Parts) (ks after : List Key) (k stop : Key) (n : ℕ) (a : Actor) (m : ℕ) (b : Bool) → Grows old new → length new.threads < 2 ^ 32 → AreKept c old ks → slice_get ks n ≡ Some k
    → IsArrivalOf c own t old k a new stop → after ≡ grown ks stop b → slice_get after m ≡ Some stop → IsArrival c own t (states_at old ks) (states_at new after) n a (m, b)
arrival c own t old new ks after k stop n a m b grows small all at by e there = record {
  from = state_at old k;
  after = by.after;
  at = state_got old ks n k at;
  move = by.move;
  stops = stop_added c own t old new ks after by.after stop m b grows small all by.stops e there;
}

-- of a state that was added before
pub stop_from : (c : Client) (own : ArrayTable) (t : Table) (mid new : Parts) (start stop : Key) (s : State) → length mid.threads < 2 ^ 32 → IsKeyOf mid start s → IsStopOf c own t (state_at mid start) new stop → IsStopOf c own t s new stop
stop_from c own t mid new start stop s small is by =
    let S : State → Type 0 = λ x. IsStopOf c own t x new stop in
    subst S (key_state mid start s small is) by
