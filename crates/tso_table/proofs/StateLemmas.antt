-- States that are told apart by their order, and where they stand.
use Rattle.std.proofs.Common.{◌≡◌, ◌∙◌, ℕ, Bool, true, false, List, [], ◌∷◌, ◌++◌, length, Option, Some, None, slice_get, refl, sym, ap}
use Rattle.std.specs.Prelude.{IsTrue, MatchOption}
use Rattle.std.specs.Ordering.{is_eq}
use Rattle.std.proofs.lemmas.Bool.{false≢true}
use Rattle.tso_list.specs.Same.{IsExact}
use Rattle.tso_parts.proofs.Marked.{new_item}
use Rattle.tso_parts.specs.Numbers.{IsNowhere, IsNumbered}
use Rattle.tso_state.proofs.OrderLemmas.{state_alike}
use Rattle.tso_state.specs.contracts.exact.states.StateExact.TheImpl.Laws.{exact-law}
use Rattle.tso_state.specs.contracts.state.StateOrd.TheImpl.Laws.{matches_eq-law}
use Rattle.tso_state.specs.declared.state.State.{State}
use Rattle.tso_store.specs.Sheets.{IsAdded}
use Rattle.tso_table.specs.OneThread.{is_same, is_this}

pub state_exact : IsExact is_same
state_exact s t =
    let e = matches_eq-law s t ∙ ap is_eq (state_alike s t) in
    (λ h. (exact-law s t).0 (e ∙ h), λ same. sym e ∙ (exact-law s t).1 same)

pub none_by : (states : List State) (s : State) (o : Option ℕ) → MatchOption o (IsNowhere states s) (λ i. slice_get states i ≡ Some s) → IsNowhere states s → o ≡ None
none_by states s None found nowhere = refl
none_by states s (Some i) found nowhere = absurd (nowhere i found)

pub some_by : (states : List State) (s : State) (n : ℕ) (o : Option ℕ) → MatchOption o (IsNowhere states s) (λ i. slice_get states i ≡ Some s) → IsNumbered states → slice_get states n ≡ Some s → o ≡ Some n
some_by states s n None found one at = absurd (found n at)
some_by states s n (Some i) found one at = ap Some (one i n s found at)

pub this_one : (s : State) (o : Option State) → is_this s o ≡ true → o ≡ Some s
this_one s None h = absurd (false≢true h)
this_one s (Some t) h = ap Some (sym ((state_exact s t).0 h))

pub is_this_one : (s : State) (o : Option State) → o ≡ Some s → is_this s o ≡ true
is_this_one s None e = absurd (let h : None ≡ Some s = e in cc)
is_this_one s (Some t) e = (state_exact s t).1 (let h : Some t ≡ Some s = e in let g : t ≡ s = cc in sym g)

-- a test that says whether this state is there
pub this_test : (b : Bool) (s : State) (o : Option State) → (IsTrue b → o ≡ Some s) → (o ≡ Some s → IsTrue b) → b ≡ is_this s o
this_test true s o there found = sym (is_this_one s o (there refl))
this_test false s o there found = by (is_this s o) refl
  where
    by : (c : Bool) → is_this s o ≡ c → false ≡ is_this s o
    by true e = found (this_one s o e) ∙ sym e
    by false e = sym e

-- a state that was not there and was added came last
pub came : (old new : List State) (s : State) (r : ℕ × Bool) → IsAdded old new s r → IsNowhere old s → IsNumbered new → (new ≡ old ++ s ∷ []) × (r.0 ≡ length old)
came old new s (n, true) added absent one =
    let last : slice_get new (length old) ≡ Some s = ap (λ (xs : List State). slice_get xs (length old)) added.kept ∙ new_item old s in
    (added.kept, one n (length old) s added.number last)
came old new s (n, false) added absent one = absurd (absent n (ap (λ (xs : List State). slice_get xs n) (sym added.kept) ∙ added.number))
