-- A call that begins takes no order away.
use Rattle.std.proofs.Common.{◌≡◌, ℕ, zero, suc, ◌<◌, ◌++◌, List, [], ◌∷◌, length, Some, None, inl, inr, refl, sym, ◌∙◌, ap, subst, arith}
use Rattle.std.specs.List.{slice_get, slice_index_or, slice_set}
use Rattle.std.proofs.lemmas.Bool.{cases_eq}
use Rattle.std.proofs.lemmas.Option.{none-some, same_Some}
use Rattle.tso_model.specs.Linear.{EachTwo, IsOrder, Placed, Precedes, call_at}
use Rattle.tso_model.specs.Objects.{Object}
use Rattle.tso_model.specs.Programs.{Answer, CallKind}
use Rattle.tso_model.specs.Reduce.{Has}
use Rattle.tso_model.specs.States.{Began, Called, begun_call, calls_in, logged}
use Rattle.tso_model.proofs.History.{calls_other}
use Rattle.tso_model.proofs.Ordered.{get_left, in_same}

-- a thread that has a call has a list
has_list : (h : List (List Called)) (i n : ℕ) (c : Called) → call_at h i n ≡ Some c → i < length h
has_list [] i n c e = absurd (none-some c e)
has_list (cs ∷ h) zero n c e = omega arith
has_list (cs ∷ h) (suc i) n c e = omega (arith, has_list h i n c e)

-- what had begun is still there
still_there : (h : List (List Called)) (i : ℕ) (k : CallKind) (t n : ℕ) (c : Called) → call_at h t n ≡ Some c → call_at (logged h i (Began k)) t n ≡ Some c
still_there h i k t n c e = elim (cases_eq i t) [
  | inl same ↦
      let here : call_at h i n ≡ Some c = subst (λ x. call_at h x n ≡ Some c) (sym same) e in
      let new : call_at (logged h i (Began k)) i n ≡ Some c = ap (λ cs. slice_get cs n) (in_same h i (calls_in h i ++ begun_call k h ∷ []) (has_list h i n c here)) ∙ get_left (calls_in h i) (begun_call k h ∷ []) n c here in
      subst (λ x. call_at (logged h i (Began k)) x n ≡ Some c) same new
  | inr other ↦ ap (λ cs. slice_get cs n) (calls_other h i t (Began k) other) ∙ e
]

-- a call with an answer is not the one that has just begun
was_before : (xs : List Called) (x : Called) (n : ℕ) (c : Called) (a : Answer) → x.answer ≡ None → slice_get (xs ++ x ∷ []) n ≡ Some c → c.answer ≡ Some a → slice_get xs n ≡ Some c
was_before [] x zero c a pending e is = absurd (none-some a (sym pending ∙ ap (λ (y : Called). y.answer) (same_Some x c e) ∙ is))
was_before [] x (suc n) c a pending e is = absurd (none-some c e)
was_before (y ∷ xs) x zero c a pending e is = e
was_before (y ∷ xs) x (suc n) c a pending e is = was_before xs x n c a pending e is

own_before : (h : List (List Called)) (i : ℕ) (x : Called) (n : ℕ) (c : Called) (a : Answer) → x.answer ≡ None
    → slice_get (slice_index_or (slice_set h i (slice_index_or h i [] ++ x ∷ [])) i []) n ≡ Some c → c.answer ≡ Some a → call_at h i n ≡ Some c
own_before [] i x n c a pending e is = e
own_before (cs ∷ h) zero x n c a pending e is = was_before cs x n c a pending e is
own_before (cs ∷ h) (suc i) x n c a pending e is = own_before h i x n c a pending e is

returned_before : (h : List (List Called)) (i : ℕ) (k : CallKind) (t n : ℕ) (c : Called) (a : Answer) → call_at (logged h i (Began k)) t n ≡ Some c → c.answer ≡ Some a → call_at h t n ≡ Some c
returned_before h i k t n c a e is = elim (cases_eq i t) [
  | inl same ↦
      let here : call_at (logged h i (Began k)) i n ≡ Some c = subst (λ x. call_at (logged h i (Began k)) x n ≡ Some c) (sym same) e in
      subst (λ x. call_at h x n ≡ Some c) same (own_before h i (begun_call k h) n c a refl here is)
  | inr other ↦ ap (λ cs. slice_get cs n) (sym (calls_other h i t (Began k) other)) ∙ e
]

-- what precedes a call that had begun is as it was
preceded : (h : List (List Called)) (i : ℕ) (k : CallKind) (t n u j : ℕ) (c : Called) → call_at h u j ≡ Some c → Precedes (logged h i (Began k)) t n u j → Precedes h t n u j
preceded h i k t n u j c e (d, at, lt) =
    let same : d ≡ c = same_Some d c (sym at ∙ still_there h i k u j c e) in
    (c, e, subst (λ (x : Called). n < slice_index_or x.seen t 0) same lt)

-- each has the other relation too, if those of the list have it
each_two_of : (R Q : Placed → Placed → Type 0) (xs : List Placed) → ((x y : Placed) → Has xs x → R x y → Q x y) → EachTwo R xs → EachTwo Q xs
each_two_of R Q [] f h = tt
each_two_of R Q (x ∷ xs) f (h, hs) = ((λ y i. f x y (inl refl) (h y i)), each_two_of R Q xs (λ z y i. f z y (inr i)) hs)

-- an order of the calls so far is one of those and a call that has just begun, which it leaves out
pub call_keeps : (object : Object) (h : List (List Called)) (i : ℕ) (k : CallKind) (order : List Placed) → IsOrder object h order → IsOrder object (logged h i (Began k)) order
call_keeps object h i k order is = record {
  once = is.once;
  begun = λ o has. let (c, at, kind, answer) = is.begun o has in (c, still_there h i k o.thread o.number c at, kind, answer);
  complete = λ thread number c a at answer. is.complete thread number c a (returned_before h i k thread number c a at answer) answer;
  in_order = each_two_of _ _ order (λ x y has not before. let (c, at, kind, answer) = is.begun x has in not (preceded h i k y.thread y.number x.thread x.number c at before)) is.in_order;
  allowed = is.allowed;
}
