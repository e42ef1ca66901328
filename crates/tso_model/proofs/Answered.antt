-- The kinds and the answers that a history has are those of the events, in order.
use Rattle.std.proofs.Common.{◌≡◌, ◌≢◌, ℕ, zero, suc, List, [], ◌∷◌, ◌++◌, map, slice_get, slice_set, refl, sym, ◌∙◌, ap, subst, Option, Some, None, inl, inr}
use Rattle.std.proofs.Common.{◌⊎◌, ◌==◌, if◌then◌else◌, append_assoc}
use Rattle.std.proofs.Math.Decide.{ℕ_discrete}
use Rattle.std.proofs.lemmas.List.{map-append, append-nil}
use Rattle.std.proofs.lemmas.Bool.Decides.{eqb_tells}
use Rattle.std.proofs.lemmas.Bool.{eq-eqb}
use Rattle.tso_model.specs.Events.{CallOf, Event, ReturnOf, after_event, after_events, answers_in, answers_of, events_of, kinds_in, kinds_of}
use Rattle.tso_model.specs.Histories.{HistoriesTell, SameCalls}
use Rattle.tso_model.specs.Programs.{Answer, CallKind}
use Rattle.tso_model.specs.States.{Called, answered, begun_call, calls_in, first_history}
use Rattle.tso_model.proofs.Fits.{after_same, first_fits}
use Rattle.tso_model.proofs.Ordered.{AllFit, Fit, LastClosed, LastOpen, first_empty, from_before, get_left, in_other, in_same, to_before}
use Rattle.tso_model.proofs.Places.{map_get, map_got}

abbrev kind_of : Called → CallKind
kind_of d = d.kind

abbrev answer_of : Called → Option Answer
answer_of d = d.answer

chosen_here : {A : Type 0} (j t : ℕ) (xs : List A) → j ≡ t → ◌≡◌ {A = List A} (if j == t then xs else []) xs
chosen_here j t xs e = rw (eq-eqb j t e) refl

chosen_away : {A : Type 0} (j t : ℕ) (xs : List A) → j ≢ t → ◌≡◌ {A = List A} (if j == t then xs else []) []
chosen_away j t xs n = elim (eqb_tells j t) [ inl x ↦ absurd (n x.1) | inr x ↦ rw x.0 refl ]

kind_answered : (a : Answer) (xs : List Called) → map kind_of (answered a xs) ≡ map kind_of xs
kind_answered a [] = refl
kind_answered a (x ∷ []) = refl
kind_answered a (x ∷ y ∷ ys) = ap (λ r. kind_of x ∷ r) (kind_answered a (y ∷ ys))

kinds_step : (h : List (List Called)) (l : Event) (t : ℕ) → Fit h l → map kind_of (calls_in (after_event h l) t) ≡ map kind_of (calls_in h t) ++ kinds_in t l
kinds_step h (CallOf j k) t f = go (ℕ_discrete j t)
  where
    go : Dec (j ≡ t) → map kind_of (calls_in (slice_set h j (calls_in h j ++ begun_call k h ∷ [])) t) ≡ map kind_of (calls_in h t) ++ (if j == t then k ∷ [] else [])
    go (yes e) = rw (← e, in_same h j (calls_in h j ++ begun_call k h ∷ []) f.0, chosen_here j j (k ∷ []) refl, map-append kind_of (calls_in h j) (begun_call k h ∷ [])) refl
    go (no n) = rw (in_other h j t (calls_in h j ++ begun_call k h ∷ []) n, chosen_away j t (k ∷ []) n, append-nil (map kind_of (calls_in h t))) refl
kinds_step h (ReturnOf j a) t f = go (ℕ_discrete j t)
  where
    go : Dec (j ≡ t) → map kind_of (calls_in (slice_set h j (answered a (calls_in h j))) t) ≡ map kind_of (calls_in h t) ++ []
    go (yes e) = rw (← e, in_same h j (answered a (calls_in h j)) f.0, kind_answered a (calls_in h j), append-nil (map kind_of (calls_in h j))) refl
    go (no n) = rw (in_other h j t (answered a (calls_in h j)) n, append-nil (map kind_of (calls_in h t))) refl

kinds_all : (h : List (List Called)) (ls : List Event) (t : ℕ) → AllFit h ls → map kind_of (calls_in (after_events h ls) t) ≡ map kind_of (calls_in h t) ++ kinds_of t ls
kinds_all h [] t f = rw (append-nil (map kind_of (calls_in h t))) refl
kinds_all h (l ∷ ls) t f =
    kinds_all (after_event h l) ls t f.1 ∙ rw (kinds_step h l t f.0) (append_assoc (map kind_of (calls_in h t)) (kinds_in t l) (kinds_of t ls))

-- all calls are answered so, or all but a last one
abbrev Closed : List Called → List Answer → Type 0
Closed cs as' = map answer_of cs ≡ map Some as'

abbrev Pending : List Called → List Answer → Type 0
Pending cs as' = map answer_of cs ≡ map Some as' ++ None ∷ []

not_closed : (cs : List Called) (as' : List Answer) → LastOpen cs → Closed cs as' → ⊥
not_closed [] as' o e = o
not_closed (x ∷ []) [] o e = cc
not_closed (x ∷ []) (a ∷ as') o e = cc
not_closed (x ∷ y ∷ ys) [] o e = cc
not_closed (x ∷ y ∷ ys) (a ∷ as') o e = not_closed (y ∷ ys) as' o (cc)

not_empty : (as' : List Answer) → [] ≡ map Some as' ++ None ∷ [] → ⊥
not_empty [] e = cc
not_empty (a ∷ as') e = cc

not_pending : (cs : List Called) (as' : List Answer) → LastClosed cs → Pending cs as' → ⊥
not_pending [] as' o e = not_empty as' e
not_pending (x ∷ []) [] o e = let q = o.1 in cc
not_pending (x ∷ []) (a ∷ as') o e = not_empty as' (cc)
not_pending (x ∷ y ∷ ys) [] o e = cc
not_pending (x ∷ y ∷ ys) (a ∷ as') o e = not_pending (y ∷ ys) as' o (cc)

answers : (b : Answer) (cs : List Called) (as' : List Answer) → Pending cs as' → Closed (answered b cs) (as' ++ b ∷ [])
answers b [] as' e = absurd (not_empty as' e)
answers b (x ∷ []) [] e = refl
answers b (x ∷ []) (a ∷ as') e = absurd (not_empty as' (cc))
answers b (x ∷ y ∷ ys) [] e = cc
answers b (x ∷ y ∷ ys) (a ∷ as') e =
    let h : x.answer ≡ Some a = cc in
    let tail : Pending (y ∷ ys) as' = cc in
    let rec = answers b (y ∷ ys) as' tail in
    rw (h, rec) refl

abbrev Either : List Called → List Answer → Type 0
Either cs as' = Closed cs as' ⊎ Pending cs as'

call_step : (h : List (List Called)) (k : CallKind) (cs : List Called) (as' : List Answer) → LastClosed cs → Either cs as' → Either (cs ++ begun_call k h ∷ []) as'
call_step h k cs as' o (inl e) = inr (rw (map-append answer_of cs (begun_call k h ∷ []), e) refl)
call_step h k cs as' o (inr e) = absurd (not_pending cs as' o e)

return_step : (b : Answer) (cs : List Called) (as' : List Answer) → LastOpen cs → Either cs as' → Either (answered b cs) (as' ++ b ∷ [])
return_step b cs as' o (inl e) = absurd (not_closed cs as' o e)
return_step b cs as' o (inr e) = inl (answers b cs as' e)

answers_step : (h : List (List Called)) (l : Event) (t : ℕ) (as' : List Answer) → Fit h l → Either (calls_in h t) as' → Either (calls_in (after_event h l) t) (as' ++ answers_in t l)
answers_step h (CallOf j k) t as' f e = go (ℕ_discrete j t)
  where
    go : Dec (j ≡ t) → Either (calls_in (slice_set h j (calls_in h j ++ begun_call k h ∷ [])) t) (as' ++ [])
    go (yes q) = let P0 : ℕ → Type 0 = λ n. Either (calls_in h n) as' in
        rw (append-nil as', ← q, in_same h j (calls_in h j ++ begun_call k h ∷ []) f.0) (call_step h k (calls_in h j) as' f.1 (subst P0 (sym q) e))
    go (no n) = rw (append-nil as', in_other h j t (calls_in h j ++ begun_call k h ∷ []) n) e
answers_step h (ReturnOf j a) t as' f e = go (ℕ_discrete j t)
  where
    go : Dec (j ≡ t) → Either (calls_in (slice_set h j (answered a (calls_in h j))) t) (as' ++ (if j == t then a ∷ [] else []))
    go (yes q) = let P0 : ℕ → Type 0 = λ n. Either (calls_in h n) as' in
        rw (← q, in_same h j (answered a (calls_in h j)) f.0, chosen_here j j (a ∷ []) refl) (return_step a (calls_in h j) as' f.1 (subst P0 (sym q) e))
    go (no n) = rw (chosen_away j t (a ∷ []) n, append-nil as', in_other h j t (answered a (calls_in h j)) n) e

answers_all : (h : List (List Called)) (ls : List Event) (t : ℕ) (as' : List Answer) → AllFit h ls → Either (calls_in h t) as' → Either (calls_in (after_events h ls) t) (as' ++ answers_of t ls)
answers_all h [] t as' f e = rw (append-nil as') e
answers_all h (l ∷ ls) t as' f e = rw (← (append_assoc as' (answers_in t l) (answers_of t ls))) (answers_all (after_event h l) ls t (as' ++ answers_in t l) f.1 (answers_step h l t as' f.0 e))

kinds_are : (kss : List (List CallKind)) (es : List Event) (t : ℕ) → AllFit (map (λ ks. []) kss) es → map kind_of (calls_in (after_events (map (λ ks. []) kss) es) t) ≡ kinds_of t es
kinds_are kss es t fit = kinds_all (map (λ ks. []) kss) es t fit ∙ ap (λ cs. map kind_of cs ++ kinds_of t es) (first_empty kss t)

answers_are : (kss : List (List CallKind)) (es : List Event) (t : ℕ) → AllFit (map (λ ks. []) kss) es → Either (calls_in (after_events (map (λ ks. []) kss) es) t) (answers_of t es)
answers_are kss es t fit =
    let none = first_empty kss t in
    let start : Either (calls_in (map (λ ks. []) kss) t) [] = inl (rw none refl) in
    answers_all (map (λ ks. []) kss) es t [] fit start

some_out : (as' : List Answer) (k : ℕ) (a : Answer) → slice_get (map Some as') k ≡ Some (Some a) → slice_get as' k ≡ Some a
some_out [] k a e = cc
some_out (b ∷ as') zero a e = cc
some_out (b ∷ as') (suc k) a e = some_out as' k a e

pending_out : (as' : List Answer) (k : ℕ) (a : Answer) → slice_get (map Some as' ++ None ∷ []) k ≡ Some (Some a) → slice_get as' k ≡ Some a
pending_out [] zero a e = cc
pending_out [] (suc k) a e = cc
pending_out (b ∷ as') zero a e = cc
pending_out (b ∷ as') (suc k) a e = pending_out as' k a e

answer_out : (cs : List Called) (as' : List Answer) (k : ℕ) (d : Called) (a : Answer) → Either cs as' → slice_get cs k ≡ Some d → d.answer ≡ Some a → slice_get as' k ≡ Some a
answer_out cs as' k d a (inl e) at q = some_out as' k a (ap (λ r. slice_get r k) (sym e) ∙ (map_get answer_of cs k d at ∙ ap Some q))
answer_out cs as' k d a (inr e) at q = pending_out as' k a (ap (λ r. slice_get r k) (sym e) ∙ (map_get answer_of cs k d at ∙ ap Some q))

answer_in : (cs : List Called) (as' : List Answer) (k : ℕ) (a : Answer) → Either cs as' → slice_get as' k ≡ Some a → (d : Called) × (slice_get cs k ≡ Some d) × (d.answer ≡ Some a)
answer_in cs as' k a (inl e) at = map_got answer_of cs k (Some a) (ap (λ r. slice_get r k) e ∙ map_get Some as' k a at)
answer_in cs as' k a (inr e) at = map_got answer_of cs k (Some a) (ap (λ r. slice_get r k) e ∙ get_left (map Some as') (None ∷ []) k (Some a) (map_get Some as' k a at))

kind_out : (cs : List Called) (ks : List CallKind) (k : ℕ) (d : Called) (kind : CallKind) → map kind_of cs ≡ ks → slice_get cs k ≡ Some d → d.kind ≡ kind → slice_get ks k ≡ Some kind
kind_out cs ks k d kind e at q = ap (λ r. slice_get r k) (sym e) ∙ (map_get kind_of cs k d at ∙ ap Some q)

-- what the history after these events says is what they say
pub events_tell : (kss : List (List CallKind)) (es : List Event) → AllFit (map (λ ks. []) kss) es → SameCalls (after_events (map (λ ks. []) kss) es) es
events_tell kss es fit =
    let h = after_events (map (λ ks. []) kss) es in
    record {
      begun = λ t k kind.
          let x = kinds_are kss es t fit in
          (λ y. kind_out (calls_in h t) (kinds_of t es) k y.0 kind x y.1 y.2, λ e. map_got kind_of (calls_in h t) k kind (ap (λ r. slice_get r k) x ∙ e));
      completed = λ t k a.
          let x = answers_are kss es t fit in
          (λ y. answer_out (calls_in h t) (answers_of t es) k y.0 a x y.1 y.2, λ e. answer_in (calls_in h t) (answers_of t es) k a x e);
      before = λ t k u j. (to_before kss es t k u j fit, from_before kss es t k u j fit);
    }

pub histories_tell : (F : Type 0) → HistoriesTell F
histories_tell F P memory ls m r =
    subst (λ h. SameCalls h (events_of ls)) (sym (after_same (first_history P) ls)) (events_tell P.calls (events_of ls) (first_fits P memory ls m r))
