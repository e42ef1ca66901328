-- Searches that begin with the initial state alone.
use Rattle.std.proofs.Common.{◌≡◌, ◌∙◌, ℕ, zero, suc, ◌≤◌, ◌++◌, Bool, true, false, List, [], ◌∷◌, length, Some, slice_get, refl, sym, ap, subst, arith}
use Rattle.std.specs.Prelude.{Err, IfOk, MatchBool, Ok, OnOk, Result}
use Rattle.std.proofs.lemmas.Option.{none-some, same_Some}
use Rattle.tso_flow.specs.Faults.{HasNoFault}
use Rattle.tso_prog.specs.declared.client.Client.{Client}
use Rattle.tso_search.proofs.SearchLemmas.{begun_first, done_none, on_both}
use Rattle.tso_search.specs.Goodness.{AllGood, IsGood}
use Rattle.tso_search.specs.Reached.{IsBad, IsBadAt}
use Rattle.tso_search.specs.Searched.{GoesOn, IsBegun, IsHunting, IsStarted}
use Rattle.tso_search.specs.Grounds.{HasClosed, IsFirst}
use Rattle.tso_search.specs.declared.ground.Ground.{Ground}
use Rattle.tso_search.specs.declared.origin.Origin.{Origin}
use Rattle.tso_state.specs.declared.state.State.{State}
use Rattle.tso_store.specs.Sheets.{IsAdded}

all_good_one : (c : Client) (states : List State) (x s : State) → states ≡ x ∷ [] → slice_get states 0 ≡ Some s → IsGood c s → AllGood c states
all_good_one c states x s only at good n t here = by n (subst (λ (xs : List State). slice_get xs n ≡ Some t) only here)
  where
    same : x ≡ s
    same = same_Some x s (subst (λ (xs : List State). slice_get xs 0 ≡ Some s) only at)

    by : (n : ℕ) → slice_get (x ∷ []) n ≡ Some t → IsGood c t
    by zero e = subst (IsGood c) (sym same ∙ same_Some x t e) good
    by (suc n) e = absurd (none-some t e)

-- the initial state is judged
pub first_judged : {E : Type 0} (c : Client) (g : Ground) (states : List State) (s : State) → slice_get states 0 ≡ Some s → IsStarted c g states → (r : Result Bool E)
    → IfOk r (λ good. good ≡ true → IsGood c s) → IfOk r (λ good. good ≡ false → IsBad c s)
    → IfOk r (λ good. MatchBool good (AllGood c states) (IsBadAt c states 0))
first_judged c g states s at started (Ok true) good bad = all_good_one c states started.initial s started.only at (good refl)
first_judged c g states s at started (Ok false) good bad = record { state = s; at = at; bad = bad refl }
first_judged c g states s at started (Err e) good bad = tt

pub hunting_first : (c : Client) (g : Ground) → HasNoFault c → (limit : ℕ) (states : List State) (origins : List Origin) → IsStarted c g states → origins ≡ [] → AllGood c states → 1 ≤ limit → IsHunting c g limit states origins []
hunting_first c g sound limit states origins started none good some = record {
  begun = subst (IsBegun c g states) (sym none) (begun_first c g sound states started);
  good = good;
  few = (let e = ap (λ (xs : List State). length xs) started.only in omega (arith, e, some));
  done = done_none c g states [] refl;
}

-- what no state is marked in goes on
pub hunting_plain : {X E : Type 0} (c : Client) (g : Ground) (limit : ℕ) (old new : List State) (origins : List Origin) (r : Result X E) → OnOk r (GoesOn c g limit old new origins) → OnOk r (AllGood c new)
    → OnOk r (IsHunting c g limit new origins [])
hunting_plain c g limit old new origins r on good =
    on_both r on good (λ x a. record { begun = x.begun; good = a; few = x.few; done = done_none c g new [] refl })

pub when_true : (b : Bool) (P Q : Type 0) → MatchBool b P Q → b ≡ true → P
when_true true P Q is e = is
when_true false P Q is e = let clash : false ≡ true = e in absurd (cc)

-- ---- the first state

-- the one that is added to an empty store
pub started_with : (c : Client) (g : Ground) (old new : List State) (s : State) (r : ℕ × Bool) → HasClosed c g → old ≡ [] → IsFirst c g s → IsAdded old new s r → IsStarted c g new
started_with c g old new s r closed none first added = record { closed = closed; initial = s; only = by r none added; initial_is = first }
  where
    by : (r : ℕ × Bool) → old ≡ [] → IsAdded old new s r → new ≡ s ∷ []
    by (n, true) none added = added.kept ∙ ap (λ (xs : List State). xs ++ s ∷ []) none
    by (n, false) none added =
        let empty : new ≡ [] = added.kept ∙ none in
        absurd (none-some s (subst (λ (xs : List State). slice_get xs n ≡ Some s) empty added.number))
