-- What steps do to the histories, and in which order.
use Rattle.std.proofs.Common.{◌≡◌, ◌≢◌, ℕ, zero, suc, ◌+◌, ◌≤◌, List, [], ◌∷◌, ◌++◌, map, get_or, set, Option, Some, None, refl, sym, ◌∙◌, ap, subst, arith}
use Rattle.std.specs.List.{AllZip}
use Rattle.std.proofs.Math.Nat.{le_refl, le_trans}
use Rattle.std.proofs.lemmas.List.{get_or-set_other, set_comm}
use Rattle.std.proofs.lemmas.List.Elements.{AllZip-push}
use Rattle.tso_model.specs.Accesses.{MayPass}
use Rattle.tso_model.specs.Programs.{Answer, CallKind}
use Rattle.tso_model.specs.States.{Called, Log, answered, begun_call, count_answer, logged, returned}
use Rattle.tso_model.specs.Strictness.{CalledAtLeast, HistoryAtLeast, SeenAtLeast}
use Rattle.tso_model.proofs.Lists.{all_zip_at, all_zip_refl, all_zip_set, all_zip_trans}

pub called_refl : (x : Called) → CalledAtLeast x x
called_refl x = record { kind = refl; answer = refl; seen = λ k. le_refl (get_or x.seen k 0) }

called_trans : (x y z : Called) → CalledAtLeast x y → CalledAtLeast y z → CalledAtLeast x z
called_trans x y z h k = record { kind = h.kind ∙ k.kind; answer = h.answer ∙ k.answer; seen = λ n. le_trans (k.seen n) (h.seen n) }

pub calls_refl : (xs : List Called) → AllZip CalledAtLeast xs xs
calls_refl = all_zip_refl CalledAtLeast called_refl

pub history_refl : (h : List (List Called)) → HistoryAtLeast h h
history_refl = all_zip_refl (AllZip CalledAtLeast) calls_refl

pub history_trans : (x y z : List (List Called)) → HistoryAtLeast x y → HistoryAtLeast y z → HistoryAtLeast x z
history_trans = all_zip_trans (AllZip CalledAtLeast) (all_zip_trans CalledAtLeast called_trans)

-- the same calls have returned
returned_same : (xs ys : List Called) → AllZip CalledAtLeast xs ys → returned xs ≡ returned ys
returned_same [] [] h = refl
returned_same (x ∷ xs) (y ∷ ys) (h, hs) = let e = returned_same xs ys hs in let a = h.answer in cc
returned_same [] (y ∷ ys) h = absurd h
returned_same (x ∷ xs) [] h = absurd h

all_returned_same : (x y : List (List Called)) → HistoryAtLeast x y → map returned x ≡ map returned y
all_returned_same [] [] h = refl
all_returned_same (x ∷ xs) (y ∷ ys) (h, hs) = let a = returned_same x y h in let b = all_returned_same xs ys hs in cc
all_returned_same [] (y ∷ ys) h = absurd h
all_returned_same (x ∷ xs) [] h = absurd h

answered_same : (a : Answer) (xs ys : List Called) → AllZip CalledAtLeast xs ys → AllZip CalledAtLeast (answered a xs) (answered a ys)
answered_same a [] [] h = tt
answered_same a (x ∷ []) (y ∷ []) (h, hs) = (record { kind = h.kind; answer = refl; seen = h.seen }, tt)
answered_same a (x ∷ x' ∷ xs) (y ∷ y' ∷ ys) (h, hs) = (h, answered_same a (x' ∷ xs) (y' ∷ ys) hs)
answered_same a (x ∷ []) (y ∷ y' ∷ ys) (h, hs) = absurd hs
answered_same a (x ∷ x' ∷ xs) (y ∷ []) (h, hs) = absurd hs
answered_same a [] (y ∷ ys) h = absurd h
answered_same a (x ∷ xs) [] h = absurd h

-- the same entry keeps the order
pub logged_same : (x y : List (List Called)) (i : ℕ) (l : Log) → HistoryAtLeast x y → HistoryAtLeast (logged x i l) (logged y i l)
logged_same x y i Log.Same h = h
logged_same x y i (Log.Began k) h =
    all_zip_set (AllZip CalledAtLeast) x y i _ _
    (AllZip-push CalledAtLeast (get_or x i []) (get_or y i []) (begun_call k x) (begun_call k y) (all_zip_at (AllZip CalledAtLeast) x y i [] tt h)
    (record { kind = refl; answer = refl; seen = λ n. let e = all_returned_same x y h in rw e (le_refl _) }))
    h
logged_same x y i (Log.Answered a) h =
    all_zip_set (AllZip CalledAtLeast) x y i _ _ (answered_same a (get_or x i []) (get_or y i []) (all_zip_at (AllZip CalledAtLeast) x y i [] tt h)) h

-- AN ENTRY AND ANOTHER THREAD'S CALLS

pub calls_other : (h : List (List Called)) (i j : ℕ) (l : Log) → i ≢ j → get_or (logged h i l) j [] ≡ get_or h j []
calls_other h i j Log.Same n = refl
calls_other h i j (Log.Began k) n = get_or-set_other h i j _ [] (λ e. n (sym e))
calls_other h i j (Log.Answered a) n = get_or-set_other h i j _ [] (λ e. n (sym e))

-- HOW MANY HAVE RETURNED

pub returned_push : (k : CallKind) (h : List (List Called)) (xs : List Called) → returned (xs ++ begun_call k h ∷ []) ≡ returned xs
returned_push k h [] = refl
returned_push k h (x ∷ xs) = ap (λ n. count_answer x.answer + n) (returned_push k h xs)

pub returned_answered : (a : Answer) (xs : List Called) → returned xs ≤ returned (answered a xs)
returned_answered a [] = le_refl 0
returned_answered a (x ∷ []) = at_most x.answer
  where
    at_most : (o : Option Answer) → count_answer o + 0 ≤ 1 + 0
    at_most None = omega arith
    at_most (Some b) = omega arith
returned_answered a (x ∷ y ∷ xs) = let h = returned_answered a (y ∷ xs) in omega (arith, h)

returned_of_set : (h : List (List Called)) (i : ℕ) (xs : List Called) → returned xs ≡ returned (get_or h i []) → map returned (set h i xs) ≡ map returned h
returned_of_set [] i xs e = refl
returned_of_set (x ∷ h) zero xs e = ap (λ n. n ∷ map returned h) e
returned_of_set (x ∷ h) (suc i) xs e = ap (λ ns. returned x ∷ ns) (returned_of_set h i xs e)

returned_more : (h : List (List Called)) (i : ℕ) (xs : List Called) → returned (get_or h i []) ≤ returned xs → SeenAtLeast (map returned (set h i xs)) (map returned h)
returned_more [] i xs l k = le_refl _
returned_more (x ∷ h) zero xs l zero = l
returned_more (x ∷ h) zero xs l (suc k) = le_refl _
returned_more (x ∷ h) (suc i) xs l zero = le_refl _
returned_more (x ∷ h) (suc i) xs l (suc k) = returned_more h i xs l k

-- TWO THREADS' ENTRIES IN EITHER ORDER

same_history : (x y : List (List Called)) → x ≡ y → HistoryAtLeast x y
same_history x y e = subst (λ z. HistoryAtLeast x z) e (history_refl x)

pub history_commutes : (h : List (List Called)) (i j : ℕ) (a b : Log) → i ≢ j → MayPass a b → HistoryAtLeast (logged (logged h i a) j b) (logged (logged h j b) i a)
history_commutes h i j Log.Same b n m = history_refl _
history_commutes h i j (Log.Began k) Log.Same n m = history_refl _
history_commutes h i j (Log.Answered c) Log.Same n m = history_refl _
history_commutes h i j (Log.Began k) (Log.Answered c) n m = absurd m
history_commutes h i j (Log.Began k) (Log.Began k') n m =
    let x : List Called = get_or h i [] ++ begun_call k h ∷ [] in
    let y : List Called = get_or h j [] ++ begun_call k' h ∷ [] in
    let at_j : get_or (set h i x) j [] ≡ get_or h j [] = get_or-set_other h i j x [] (λ e. n (sym e)) in
    let at_i : get_or (set h j y) i [] ≡ get_or h i [] = get_or-set_other h j i y [] n in
    let counts_i : map returned (set h i x) ≡ map returned h = returned_of_set h i x (returned_push k h (get_or h i [])) in
    let counts_j : map returned (set h j y) ≡ map returned h = returned_of_set h j y (returned_push k' h (get_or h j [])) in
    rw (at_i, at_j, counts_i, counts_j) (same_history _ _ (set_comm h i j x y n))
history_commutes h i j (Log.Answered c) (Log.Answered c') n m =
    let x : List Called = answered c (get_or h i []) in
    let y : List Called = answered c' (get_or h j []) in
    let at_j : get_or (set h i x) j [] ≡ get_or h j [] = get_or-set_other h i j x [] (λ e. n (sym e)) in
    let at_i : get_or (set h j y) i [] ≡ get_or h i [] = get_or-set_other h j i y [] n in
    rw (at_i, at_j) (same_history _ _ (set_comm h i j x y n))
history_commutes h i j (Log.Answered c) (Log.Began k) n m =
    let x : List Called = answered c (get_or h i []) in
    let y : List Called = get_or h j [] ++ begun_call k h ∷ [] in
    let z : List Called = get_or h j [] ++ begun_call k (set h i x) ∷ [] in
    let at_j : get_or (set h i x) j [] ≡ get_or h j [] = get_or-set_other h i j x [] (λ e. n (sym e)) in
    let at_i : get_or (set h j y) i [] ≡ get_or h i [] = get_or-set_other h j i y [] n in
    let stricter : AllZip CalledAtLeast z y =
    AllZip-push CalledAtLeast (get_or h j []) (get_or h j []) (begun_call k (set h i x)) (begun_call k h) (calls_refl (get_or h j []))
    (record { kind = refl; answer = refl; seen = returned_more h i x (returned_answered c (get_or h i [])) }) in
    rw (at_i, at_j, ← set_comm h i j x y n) (all_zip_set (AllZip CalledAtLeast) (set h i x) (set h i x) j z y stricter (history_refl (set h i x)))
