-- Orders of the code and those of the model.
use Rattle.std.proofs.Common.{◌≡◌, ◌⊎◌, inl, inr, ℕ, zero, suc, ◌+◌, ◌<◌, List, [], ◌∷◌, map, length, get_or, take, Option, Some, None, option_map, slice_get, All, AllPairs, Contains, refl, sym, ap, ◌∙◌, subst, arith}
use Rattle.std.proofs.lemmas.Bool.{cases_lt}
use Rattle.std.proofs.lemmas.List.{length-take, get_or-take, get_or_default, get_or_past, take_more}
use Rattle.std.proofs.lemmas.List.Quantifiers.{all_pairs_push}
use Rattle.std.proofs.lemmas.Option.{none-some, same_Some, slice_get-map}
use Rattle.tso_fifo.specs.Check.{HasAllReturned, IsApart, IsBegun, begun_at}
use Rattle.tso_fifo.specs.Orders.{IsOrderOf, kind_of, order_view, placed_in}
use Rattle.tso_fifo.specs.declared.order.Placed.{Placed}
use Rattle.tso_hist.proofs.Viewed.{calls-view}
use Rattle.tso_hist.specs.declared.call.Call.{Call}
use Rattle.tso_hist.specs.Views.{called_view, history_view}
use Rattle.tso_line.specs.declared.instruction.Mode.{Mode}
use Rattle.tso_model.specs.Linear as model
use Rattle.tso_model.specs.Linear.{EachTwo, IsOtherCall, Precedes, call_at, placed_calls}
use Rattle.tso_model.specs.Objects.{QueueSteps}
use Rattle.tso_model.specs.Programs as programs
use Rattle.tso_model.specs.Reduce.{Has}
use Rattle.tso_model.specs.States.{Called}
use Rattle.tso_prog.specs.Views.{answer_view, mode_view}
use Rattle.tso_prog.specs.declared.answer.Answer.{Answer}
use Rattle.tso_prog.specs.declared.answer.Answer.TheVariants.{Refused, Done, Value}

-- the next element and those before it
pub AllPairs-more : {X : Type 0} (R : X → X → Type 0) (xs : List X) (i : ℕ) (d : X) → i < length xs → AllPairs R (take i xs) → All (λ x. R x (get_or xs i d)) (take i xs) → AllPairs R (take (i + 1) xs)
AllPairs-more R xs i d lt pairs all = subst (AllPairs R) (sym (take_more xs i d lt)) (all_pairs_push R (take i xs) (get_or xs i d) pairs all)

pub AllPairs-at : {X : Type 0} (R : X → X → Type 0) (xs : List X) (i : ℕ) (d : X) → i < length xs → AllPairs R xs → All (λ x. R x (get_or xs i d)) (take i xs)
AllPairs-at R xs i d lt pairs k e lt' =
    let lt2 : k < i = omega (arith, lt', length-take i xs) in
    subst (R (get_or (take i xs) k e)) (get_or_default xs i e d lt) (subst (λ x. R x (get_or xs i e)) (sym (get_or-take i xs k e lt2)) (pairs k i e lt2 lt))

-- elements by place and by name
pub has_at : {X Y : Type 0} (f : X → Y) (xs : List X) (k : ℕ) (d : X) → k < length xs → Has (map f xs) (f (get_or xs k d))
has_at f [] k d lt = absurd (omega (arith, lt))
has_at f (x ∷ xs) zero d lt = inl refl
has_at f (x ∷ xs) (suc k) d lt = inr (has_at f xs k d (omega (arith, lt)))

pub has_view : {X Y : Type 0} (f : X → Y) (xs : List X) (x : X) → Contains xs x → Has (map f xs) (f x)
has_view f xs x (k, lt, e) = subst (λ y. Has (map f xs) (f y)) e (has_at f xs k x lt)

pub view_has : {X Y : Type 0} (f : X → Y) (xs : List X) (y : Y) → Has (map f xs) y → (k : ℕ) × (x : X) × (k < length xs) × (get_or xs k x ≡ x) × (f x ≡ y)
view_has f [] y h = absurd h
view_has f (x ∷ xs) y (inl e) = (0, x, omega arith, refl, e)
view_has f (x ∷ xs) y (inr h) = let (k, z, lt, at, e) = view_has f xs y h in (suc k, z, omega (arith, lt), at, e)

pub each_two_in : {X : Type 0} (f : X → model.Placed) (R : model.Placed → model.Placed → Type 0) (xs : List X) → AllPairs (λ x y. R (f x) (f y)) xs → EachTwo R (map f xs)
each_two_in f R [] pairs = tt
each_two_in f R (x ∷ xs) pairs = (
  λ y h. let (k, z, lt, at, e) = view_has f xs y h in subst (R (f x)) (ap f at ∙ e) (pairs 0 (suc k) z (omega arith) (omega (arith, lt))),
  each_two_in f R xs (λ i j d lt lt'. pairs (suc i) (suc j) d (omega (arith, lt)) (omega (arith, lt'))),
)

pub each_two_out : {X : Type 0} (f : X → model.Placed) (R : model.Placed → model.Placed → Type 0) (xs : List X) → EachTwo R (map f xs) → AllPairs (λ x y. R (f x) (f y)) xs
each_two_out f R [] two i j d lt lt' = absurd (omega (arith, lt'))
each_two_out f R (x ∷ xs) two i zero d lt lt' = absurd (omega (arith, lt))
each_two_out f R (x ∷ xs) two zero (suc j) d lt lt' = two.0 (f (get_or xs j d)) (has_at f xs j d (omega (arith, lt')))
each_two_out f R (x ∷ xs) two (suc i) (suc j) d lt lt' = each_two_out f R xs two.1 i j d (omega (arith, lt)) (omega (arith, lt'))

-- a call as the model sees it
pub view_at : (h : List (List Call)) (t k : ℕ) → call_at (history_view h) t k ≡ option_map called_view (begun_at h t k)
view_at h t k = ap (λ (cs : List Called). slice_get cs k) (calls-view h t) ∙ slice_get-map called_view (get_or h t []) k

pub seen_at : (h : List (List Call)) (t k : ℕ) (c : Call) → begun_at h t k ≡ Some c → call_at (history_view h) t k ≡ Some (called_view c)
seen_at h t k c at = view_at h t k ∙ ap (option_map called_view) at

pub begun_of : (h : List (List Call)) (t k : ℕ) (d : Called) → call_at (history_view h) t k ≡ Some d → (c : Call) × (begun_at h t k ≡ Some c) × (called_view c ≡ d)
begun_of h t k d at = by (begun_at h t k) refl
  where
    by : (o : Option Call) → begun_at h t k ≡ o → (c : Call) × (begun_at h t k ≡ Some c) × (called_view c ≡ d)
    by None e = absurd (none-some d (ap (option_map called_view) (sym e) ∙ sym (view_at h t k) ∙ at))
    by (Some c) e = (c, e, same_Some (called_view c) d (ap (option_map called_view) (sym e) ∙ sym (view_at h t k) ∙ at))

-- answers are told apart
pub answer_one : (a b : Answer) → answer_view a ≡ answer_view b → a ≡ b
answer_one Refused Refused e = refl
answer_one Refused Done e = cc
answer_one Refused (Value w) e = cc
answer_one Done Refused e = cc
answer_one Done Done e = refl
answer_one Done (Value w) e = cc
answer_one (Value v) Refused e = cc
answer_one (Value v) Done e = cc
answer_one (Value v) (Value w) e = let f : v ≡ w = cc in ap Value f

pub answer_of : (o : Option Answer) (a : programs.Answer) → option_map answer_view o ≡ Some a → (b : Answer) × (o ≡ Some b) × (answer_view b ≡ a)
answer_of None a e = cc
answer_of (Some b) a e = (b, refl, same_Some (answer_view b) a e)

no_answer : (o : Option Answer) → option_map answer_view o ≡ None → o ≡ None
no_answer None e = refl
no_answer (Some b) e = cc

pub thread_of : (h : List (List Call)) (t k : ℕ) (c : Call) → begun_at h t k ≡ Some c → t < length h
thread_of h t k c at =
    elim (cases_lt t (length h)) [ inl lt ↦ lt | inr past ↦ let gone = ap (λ (cs : List Call). slice_get cs k) (get_or_past h t [] past) in absurd (cc) ]

pub calls_are : (h items : List (List Call)) (x s : List Call) (t : ℕ) → items ≡ h → t < length items → x ≡ get_or items t x → s ≡ x → s ≡ get_or h t []
calls_are h items x s t same lt is e = e ∙ is ∙ get_or_default items t x [] lt ∙ ap (λ (v : List (List Call)). get_or v t []) same

-- THE PARTS OF THE TEST

abbrev Follow : List (List Called) → Placed → Placed → Type 0
Follow h x y = IsApart h y.thread y.call x

pub to_order : (mode : Mode) (capacity : ℕ) (h : List (List Call)) (order : List Placed) → All (IsBegun h) order → AllPairs (Follow (history_view h)) order → HasAllReturned h order
    → (after : List ℕ) × QueueSteps (mode_view mode) capacity [] (placed_calls (order_view (history_view h) order)) after → IsOrderOf mode capacity h (order_view (history_view h) order)
to_order mode capacity h order begun pairs returned allowed =
    let v = history_view h in
    record {
      once = each_two_in (placed_in v) IsOtherCall order (λ i j d lt lt' e f. (pairs i j d lt lt').0 (e, f));
      begun = λ o has.
          let (k, x, lt, at, e) = view_has (placed_in v) order o has in
          let b = subst (IsBegun h) at (begun k x lt) in
          subst (λ (o : model.Placed). (c : Called) × (call_at v o.thread o.number ≡ Some c) × (c.kind ≡ o.kind) × ((c.answer ≡ None) ⊎ (c.answer ≡ Some o.answer))) e
          (called_view b.call, seen_at h x.thread x.call b.call b.at, sym (ap kind_of (seen_at h x.thread x.call b.call b.at)), elim b.answers [ inl n ↦ inl (ap (option_map answer_view) n) | inr s ↦ inr (ap (option_map answer_view) s) ]);
      complete = λ t n c a at is.
          let (b, at', e) = begun_of h t n c at in
          let (a', is', f) = answer_of b.answer a (ap (λ (x : Called). x.answer) e ∙ is) in
          let x : Placed = record { thread = t; call = n; answer = a' } in
          let P : programs.CallKind → programs.Answer → Type 0 = λ k q. Has (order_view v order) (record { thread = t; number = n; kind = k; answer = q }) in
          subst (λ (k : programs.CallKind). P k a) (ap kind_of at) (subst (P (kind_of (call_at v t n))) f (has_view (placed_in v) order x (returned t n b a' at' is')));
      in_order = each_two_in (placed_in v) (λ x y. Precedes v y.thread y.number x.thread x.number → ⊥) order (λ i j d lt lt'. (pairs i j d lt lt').1);
      allowed = allowed;
    }

module _ (mode : Mode) (capacity : ℕ) (h : List (List Call)) (order : List Placed) (l : IsOrderOf mode capacity h (order_view (history_view h) order)) where
  pub all_begun : All (IsBegun h) order
  all_begun k d lt =
      let x = get_or order k d in
      let (c, at, kind, answers) = l.begun (placed_in (history_view h) x) (has_at (placed_in (history_view h)) order k d lt) in
      let (b, at', e) = begun_of h x.thread x.call c at in
      let same : option_map answer_view b.answer ≡ c.answer = ap (λ (y : Called). y.answer) e in
      record {
        call = b;
        at = at';
        answers = elim answers [
          | inl n ↦ inl (no_answer b.answer (same ∙ n))
          | inr s ↦
              let (a, is, f) = answer_of b.answer (answer_view x.answer) (same ∙ s) in
              inr (is ∙ ap Some (answer_one a x.answer f))
        ];
      }

  pub all_apart : AllPairs (Follow (history_view h)) order
  all_apart i j d lt lt' = (
    λ (e, f). each_two_out (placed_in (history_view h)) IsOtherCall order l.once i j d lt lt' e f,
    each_two_out (placed_in (history_view h)) (λ x y. Precedes (history_view h) y.thread y.number x.thread x.number → ⊥) order l.in_order i j d lt lt',
  )

  pub all_returned : HasAllReturned h order
  all_returned t n c a at is =
      let v = history_view h in
      let there = l.complete t n (called_view c) (answer_view a) (seen_at h t n c at) (ap (option_map answer_view) is) in
      let (k, x, lt, got, e) = view_has (placed_in v) order _ there in
      let thread : x.thread ≡ t = ap (λ (o : model.Placed). o.thread) e in
      let number : x.call ≡ n = ap (λ (o : model.Placed). o.number) e in
      let answer = answer_one x.answer a (ap (λ (o : model.Placed). o.answer) e) in
      let is_x : x ≡ record { thread = t; call = n; answer = a } = λ i. record { thread = thread i; call = number i; answer = answer i } in
      subst (Contains order) is_x (k, lt, got)
