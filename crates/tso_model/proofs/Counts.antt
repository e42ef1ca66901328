-- What an entry makes of a history's calls and counts.
use Rattle.std.proofs.Common.{◌≡◌, ℕ, zero, suc, ◌<◌, ◌≤◌, ◌⊎◌, List, [], ◌∷◌, ◌++◌, length, Some, inl, inr, refl, sym, ◌∙◌, ap, subst, arith}
use Rattle.std.specs.List.{slice_get}
use Rattle.std.proofs.lemmas.Bool.{cases_eq}
use Rattle.std.proofs.lemmas.List.{length-set}
use Rattle.std.proofs.lemmas.Option.{none-some, same_Some}
use Rattle.std.proofs.Math.Nat.{le_refl}
use Rattle.tso_model.specs.Linear.{call_at}
use Rattle.tso_model.specs.Programs.{Answer, CallKind}
use Rattle.tso_model.specs.States.{Answered, Began, Called, Log, Same, answered, begun_call, calls_in, count_answer, logged, returned}
use Rattle.tso_model.specs.WellFormed.{AllReturned}
use Rattle.tso_model.proofs.History.{calls_other, returned_answered, returned_push}
use Rattle.tso_model.proofs.Ordered.{in_same}

pub length_logged : (h : List (List Called)) (i : ℕ) (l : Log) → length (logged h i l) ≡ length h
length_logged h i Same = refl
length_logged h i (Began k) = length-set h i _
length_logged h i (Answered a) = length-set h i _

-- no thread has fewer calls that have returned
own_grows : (h : List (List Called)) (i : ℕ) (l : Log) → i < length h → returned (calls_in h i) ≤ returned (calls_in (logged h i l) i)
own_grows h i Same lt = le_refl _
own_grows h i (Began k) lt = rw (in_same h i (calls_in h i ++ begun_call k h ∷ []) lt) (omega (arith, returned_push k h (calls_in h i)))
own_grows h i (Answered a) lt = rw (in_same h i (answered a (calls_in h i)) lt) (returned_answered a (calls_in h i))

pub returned_grows : (h : List (List Called)) (i j : ℕ) (l : Log) → i < length h → returned (calls_in h j) ≤ returned (calls_in (logged h i l) j)
returned_grows h i j l lt = elim (cases_eq i j) [
  | inl same ↦ subst (λ n. returned (calls_in h n) ≤ returned (calls_in (logged h i l) n)) same (own_grows h i l lt)
  | inr other ↦ rw (calls_other h i j l other) (le_refl _)
]

-- it was there, but perhaps for the answer
abbrev pub WasThere : List (List Called) → ℕ → ℕ → Called → Type 0
WasThere h j n c = (d : Called) × (call_at h j n ≡ Some d) × (d.kind ≡ c.kind) × (d.seen ≡ c.seen)

-- it is the one that has begun
abbrev pub IsNew : List (List Called) → ℕ → Log → ℕ → ℕ → Called → Type 0
IsNew h i l j n c = (j ≡ i) × (n ≡ length (calls_in h i)) × ((k : CallKind) × (l ≡ Began k) × (c ≡ begun_call k h))

last_or : (xs : List Called) (x : Called) (n : ℕ) (c : Called) → slice_get (xs ++ x ∷ []) n ≡ Some c → (slice_get xs n ≡ Some c) ⊎ ((n ≡ length xs) × (c ≡ x))
last_or [] x zero c e = inr (refl, sym (same_Some x c e))
last_or [] x (suc n) c e = absurd (none-some c e)
last_or (y ∷ xs) x zero c e = inl e
last_or (y ∷ xs) x (suc n) c e = elim (last_or xs x n c e) [ inl a ↦ inl a | inr b ↦ inr (ap suc b.0, b.1) ]

was_answered : (a : Answer) (xs : List Called) (n : ℕ) (c : Called) → slice_get (answered a xs) n ≡ Some c → (d : Called) × (slice_get xs n ≡ Some d) × (d.kind ≡ c.kind) × (d.seen ≡ c.seen)
was_answered a [] n c e = absurd (none-some c e)
was_answered a (x ∷ []) zero c e = let q = same_Some _ c e in (x, refl, ap (λ (y : Called). y.kind) q, ap (λ (y : Called). y.seen) q)
was_answered a (x ∷ []) (suc n) c e = absurd (none-some c e)
was_answered a (x ∷ y ∷ xs) zero c e = let q = same_Some x c e in (x, refl, ap (λ (z : Called). z.kind) q, ap (λ (z : Called). z.seen) q)
was_answered a (x ∷ y ∷ xs) (suc n) c e = was_answered a (y ∷ xs) n c e

own_call : (h : List (List Called)) (i : ℕ) (l : Log) (n : ℕ) (c : Called) → i < length h → call_at (logged h i l) i n ≡ Some c → WasThere h i n c ⊎ IsNew h i l i n c
own_call h i Same n c lt e = inl (c, e, refl, refl)
own_call h i (Began k) n c lt e = elim (last_or (calls_in h i) (begun_call k h) n c (ap (λ cs. slice_get cs n) (sym (in_same h i (calls_in h i ++ begun_call k h ∷ []) lt)) ∙ e)) [
  | inl was ↦ inl (c, was, refl, refl)
  | inr new ↦ inr (refl, new.0, (k, refl, new.1))
]
own_call h i (Answered a) n c lt e = inl (was_answered a (calls_in h i) n c (ap (λ cs. slice_get cs n) (sym (in_same h i (answered a (calls_in h i)) lt)) ∙ e))

-- a call after an entry was there before, or has just begun
pub call_after : (h : List (List Called)) (i j : ℕ) (l : Log) (n : ℕ) (c : Called) → i < length h → call_at (logged h i l) j n ≡ Some c → WasThere h j n c ⊎ IsNew h i l j n c
call_after h i j l n c lt e = elim (cases_eq i j) [
  | inl same ↦
      let here : call_at (logged h i l) i n ≡ Some c = subst (λ x. call_at (logged h i l) x n ≡ Some c) (sym same) e in
      subst (λ x. WasThere h x n c ⊎ IsNew h i l x n c) same (own_call h i l n c lt here)
  | inr other ↦ inl (c, ap (λ cs. slice_get cs n) (sym (calls_other h i j l other)) ∙ e, refl, refl)
]

pub all_returned_count : (cs : List Called) → AllReturned cs → returned cs ≡ length cs
all_returned_count [] r = refl
all_returned_count (c ∷ cs) (r, rs) = let h = all_returned_count cs rs in let one : count_answer c.answer ≡ 1 = ap count_answer r.1 in omega (arith, h, one)
