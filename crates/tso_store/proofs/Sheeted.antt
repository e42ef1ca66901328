-- What a store is after a state is added, and steps of numbered states.
use Rattle.std.proofs.Common.{◌≡◌, ℕ, ◌<◌, ◌^◌, Bool, List, length, Some, None, refl, sym, ap, subst, ◌∙◌, slice_get}
use Rattle.tso_compact.specs.Plans.{HasStep}
use Rattle.tso_parts.specs.Numbers.{grown}
use Rattle.tso_prog.specs.declared.client.Client.{Client}
use Rattle.tso_state.specs.declared.actor.Actor.{Actor}
use Rattle.tso_state.specs.declared.state.State.{State}
use Rattle.tso_keys.specs.declared.key.Key.{Key}
use Rattle.tso_keys.specs.declared.parts.Parts.{Parts}
use Rattle.tso_keys.specs.Keys.{AreKept, Grows, IsKeyOf, state_at, states_at}
use Rattle.tso_store.specs.Sheets.{CanStep, IsAdded, IsKeptSuccessor, IsSuccessor, IsSuccessorOrNone}
use Rattle.tso_store.specs.Stepping.{IsStepOf}
use Rattle.tso_keys.proofs.StateLemmas.{found_state, grown_states, key_state, state_got, state_none, states_stay}

pub added : (c : Client) (old new : Parts) (ks after : List Key) (k : Key) (s : State) (n : ℕ) (b : Bool) → Grows old new → length new.threads < 2 ^ 32 → AreKept c old ks → IsKeyOf new k s → after ≡ grown ks k b → slice_get after n ≡ Some k → IsAdded (states_at old ks) (states_at new after) s (n, b)
added c old new ks after k s n b grows small all is e at =
    let here = key_state new k s small is in
    let stay = states_stay c old new ks grows small all in
    record {
      number = state_got new after n k at ∙ ap Some here;
      kept = ap (states_at new) e ∙ grown_states new ks k b ∙ ap (λ (t : State). grown (states_at new ks) t b) here ∙ ap (λ (ss : List State). grown ss s b) stay;
    }

pub cannot : (c : Client) (p : Parts) (ks : List Key) (k : Key) (n : ℕ) (a : Actor) → slice_get ks n ≡ Some k → (HasStep c (state_at p k) a → ⊥) → CanStep c (states_at p ks) n a → ⊥
cannot c p ks k n a at none can =
    let both : Some can.from ≡ Some (state_at p k) = sym can.at ∙ state_got p ks n k at in
    let same : can.from ≡ state_at p k = cc in
    let F : State → Type 0 = λ t. HasStep c t a in
    none (subst F same can.step)

nowhere : (c : Client) (p : Parts) (ks : List Key) (n : ℕ) (a : Actor) → slice_get ks n ≡ None → CanStep c (states_at p ks) n a → ⊥
nowhere c p ks n a none can = absurd (let h : None ≡ Some can.from = sym (state_none p ks n none) ∙ can.at in cc)

pub no_successor : (c : Client) (p : Parts) (ks : List Key) (n : ℕ) (a : Actor) → slice_get ks n ≡ None → IsSuccessorOrNone c (states_at p ks) (states_at p ks) n a None
no_successor c p ks n a none = (nowhere c p ks n a none, refl)

pub no_step_successor : (c : Client) (old new : Parts) (ks : List Key) (k : Key) (n : ℕ) (a : Actor) → Grows old new → length new.threads < 2 ^ 32 → AreKept c old ks → slice_get ks n ≡ Some k → (HasStep c (state_at old k) a → ⊥) → IsSuccessorOrNone c (states_at old ks) (states_at new ks) n a None
no_step_successor c old new ks k n a grows small all at none = (cannot c old ks k n a at none, states_stay c old new ks grows small all)

pub can_step : (c : Client) (p : Parts) (ks : List Key) (k : Key) (n : ℕ) (a : Actor) → slice_get ks n ≡ Some k → HasStep c (state_at p k) a → CanStep c (states_at p ks) n a
can_step c p ks k n a at has = record { from = state_at p k; at = state_got p ks n k at; step = has }

pub successor : (c : Client) (old new : Parts) (ks after : List Key) (k next : Key) (n : ℕ) (a : Actor) (m : ℕ) (b : Bool) → Grows old new → length new.threads < 2 ^ 32 → AreKept c old ks → slice_get ks n ≡ Some k → IsStepOf c old k a new next → after ≡ grown ks next b → slice_get after m ≡ Some next → IsSuccessor c (states_at old ks) (states_at new after) n a (m, b)
successor c old new ks after k next n a m b grows small all at by e there = record {
  from = state_at old k;
  to = by.state;
  at = state_got old ks n k at;
  step = by.step;
  added = added c old new ks after next by.state m b grows small all by.key e there;
}

pub kept_successor : (c : Client) (p : Parts) (ks : List Key) (k next : Key) (n : ℕ) (a : Actor) (m : ℕ) → length p.threads < 2 ^ 32 → slice_get ks n ≡ Some k → IsStepOf c p k a p next → slice_get ks m ≡ Some next → IsKeptSuccessor c (states_at p ks) n a m
kept_successor c p ks k next n a m small at by there = record {
  from = state_at p k;
  to = by.state;
  at = state_got p ks n k at;
  step = by.step;
  number = found_state p ks m next by.state small by.key there;
}
