-- A key that is looked for by halves.
use Rattle.std.proofs.Common.{◌≡◌, ◌∙◌, ℕ, ◌+◌, ◌<◌, ◌≤◌, inl, inr, List, length, Some, ap, arith, slice_get, subst, sym}
use Rattle.std.proofs.lemmas.Bool.{cases_lt}
use Rattle.std.proofs.lemmas.Option.{same_Some, slice_get_within}
use Rattle.tso_parts.proofs.Marked.{item_at}
use Rattle.tso_parts.specs.Numbers.{IsNowhere}
use Rattle.tso_state.proofs.RisingLemmas.{not_itself, rises, total}
use Rattle.tso_state.specs.Rising.{IsBelow, IsRising}
use Rattle.tso_state.specs.declared.state.State.{State}
use Rattle.tso_keys.specs.Keys.{state_at, states_at}
use Rattle.tso_keys.specs.Orders.{IsLessAt}
use Rattle.tso_keys.specs.declared.key.Key.{Key}
use Rattle.tso_keys.specs.declared.parts.Parts.{Parts}
use Rattle.tso_keys.proofs.StateLemmas.{state_got}

-- the key has no number below the first one, and none from the other on
pub record IsOnlyBetween (ks : List Key) (key : Key) (low high : ℕ) : Type 0 where
  pub below : (k : ℕ) → k < low → slice_get ks k ≡ Some key → ⊥
  pub above : (k : ℕ) → high ≤ k → slice_get ks k ≡ Some key → ⊥
  pub bound : high ≤ length ks

-- no two states are each less than the other
never_both : (s t : State) → IsBelow s t → IsBelow t s → ⊥
never_both s t less other = not_itself s (total.trans s t s less other)

pub only_begins : (ks : List Key) (key : Key) (n : ℕ) → n ≡ length ks → IsOnlyBetween ks key 0 n
only_begins ks key n long = record {
  below = λ k under at. absurd (omega (arith, under));
  above = λ k over at. let inside = slice_get_within ks k key at in absurd (omega (arith, inside, over, long));
  bound = omega (arith, long);
}

pub only_nowhere : (ks : List Key) (key : Key) (low high : ℕ) → IsOnlyBetween ks key low high → high ≤ low → IsNowhere ks key
only_nowhere ks key low high only met k at = elim (cases_lt k low) [
  | inl under ↦ only.below k under at
  | inr over ↦ only.above k (omega (arith, over, met)) at
]

module _ (p : Parts) (ks : List Key) (key : Key) (rising : IsRising (states_at p ks)) where
  -- the middle is less
  pub only_right : (low high middle : ℕ) → IsOnlyBetween ks key low high → IsLessAt p ks middle key → IsOnlyBetween ks key (middle + 1) high
  only_right low high middle only less = record {
    below = λ k under at. elim (cases_lt k middle) [
      | inl before ↦ never_both (state_at p less.found) (state_at p key) less.less (rises (states_at p ks) k middle (state_at p key) (state_at p less.found) rising before (state_got p ks k key at) (state_got p ks middle less.found less.at))
      | inr behind ↦
          let same : k ≡ middle = omega (arith, under, behind) in
          let is : key ≡ less.found = same_Some key less.found (sym at ∙ ap (slice_get ks) same ∙ less.at) in
          not_itself (state_at p key) (subst (λ (k : Key). IsBelow (state_at p k) (state_at p key)) (sym is) less.less)
    ];
    above = only.above;
    bound = only.bound;
  }

  -- the middle is neither the key nor less
  pub only_left : (low high middle : ℕ) → IsOnlyBetween ks key low high → middle < high → (slice_get ks middle ≡ Some key → ⊥) → (IsLessAt p ks middle key → ⊥) → IsOnlyBetween ks key low middle
  only_left low high middle only lt other least = record {
    below = only.below;
    above = λ k over at. elim (cases_lt middle k) [
      | inl behind ↦ item_at ks middle (omega (arith, lt, only.bound)) (λ found here.
          least (record { found = found; at = here; less = rises (states_at p ks) middle k (state_at p found) (state_at p key) rising behind (state_got p ks middle found here) (state_got p ks k key at) }))
      | inr before ↦ let same : k ≡ middle = omega (arith, over, before) in other (ap (slice_get ks) (sym same) ∙ at)
    ];
    bound = omega (arith, lt, only.bound);
  }
