-- That a call precedes another by the history's counts is that it is before it by the events.
use Rattle.std.proofs.Common.{◌≡◌, ◌≢◌, ℕ, zero, suc, ◌+◌, List, [], ◌∷◌, ◌++◌, map, length, slice_get, slice_set, get_or, refl, sym, ◌∙◌, ap, subst, arith, Some, None, inl, inr}
use Rattle.std.proofs.lemmas.Option.{none-some, same_Some}
use Rattle.std.proofs.Common.{◌<◌, ◌≤◌}
use Rattle.std.proofs.Math.Decide.{ℕ_discrete, dec_le}
use Rattle.std.proofs.Math.ListN.{get_or-map}
use Rattle.std.proofs.lemmas.List.{length-map, map-append, get_or-set_same, get_or-set_other}
use Rattle.std.proofs.lemmas.Option.{slice_get_within}
use Rattle.std.proofs.lemmas.Bool.Decides.{eqb_tells}
use Rattle.std.proofs.lemmas.Bool.{eq-eqb}
use Rattle.tso_model.specs.Events.{CallOf, Event, IsBefore, ReturnOf, after_event, after_events, call_count, calls_begun, calls_returned, one_if_same, return_count}
use Rattle.tso_model.specs.Linear.{Precedes}
use Rattle.tso_model.specs.Programs.{Answer, CallKind}
use Rattle.tso_model.specs.States.{Called, answered, begun_call, calls_in, count_answer, returned}
use Rattle.tso_model.proofs.Local.{length_answered, length_begun}
use Rattle.tso_model.proofs.Places.{map_get, map_got}

-- the last call has no answer
abbrev pub LastOpen : List Called → Type 0
LastOpen [] = ⊥
LastOpen (x ∷ []) = x.answer ≡ None
LastOpen (x ∷ y ∷ ys) = LastOpen (y ∷ ys)

-- it has one, or there is no call
abbrev pub LastClosed : List Called → Type 0
LastClosed [] = Unit {0}
LastClosed (x ∷ []) = (a : Answer) × (x.answer ≡ Some a)
LastClosed (x ∷ y ∷ ys) = LastClosed (y ∷ ys)

-- the event's thread has calls, and one that is pending where it returns
abbrev pub Fit : List (List Called) → Event → Type 0
Fit h (CallOf j k) = (j < length h) × LastClosed (calls_in h j)
Fit h (ReturnOf j a) = (j < length h) × LastOpen (calls_in h j)

abbrev pub AllFit : List (List Called) → List Event → Type 0
AllFit h [] = Unit {0}
AllFit h (l ∷ ls) = Fit h l × AllFit (after_event h l) ls

-- calls_in after a write
pub in_same : (h : List (List Called)) (j : ℕ) (x : List Called) → j < length h → calls_in (slice_set h j x) j ≡ x
in_same h j x lt = get_or-set_same h j x [] lt

pub in_other : (h : List (List Called)) (j u : ℕ) (x : List Called) → j ≢ u → calls_in (slice_set h j x) u ≡ calls_in h u
in_other h j u x n = get_or-set_other h j u x [] (λ e. n (sym e))

returned_append : (xs : List Called) (x : Called) → returned (xs ++ x ∷ []) ≡ returned xs + count_answer x.answer
returned_append [] x = omega arith
returned_append (z ∷ xs) x = omega (arith, returned_append xs x)

returned_answered : (a : Answer) (xs : List Called) → LastOpen xs → returned (answered a xs) ≡ suc (returned xs)
returned_answered a [] o = absurd o
returned_answered a (x ∷ []) o = rw o (omega arith)
returned_answered a (x ∷ y ∷ ys) o = omega (arith, returned_answered a (y ∷ ys) o)

pub last_begun : (xs : List Called) (x : Called) → x.answer ≡ None → LastOpen (xs ++ x ∷ [])
last_begun [] x e = e
last_begun (y ∷ []) x e = e
last_begun (y ∷ z ∷ zs) x e = last_begun (z ∷ zs) x e

pub last_answered : (a : Answer) (xs : List Called) → LastClosed (answered a xs)
last_answered a [] = tt
last_answered a (x ∷ []) = (a, refl)
last_answered a (x ∷ y ∷ []) = (a, refl)
last_answered a (x ∷ y ∷ z ∷ zs) = last_answered a (y ∷ z ∷ zs)

abbrev seen_of : Called → List ℕ
seen_of d = d.seen

seen_answered : (a : Answer) (xs : List Called) → map seen_of (answered a xs) ≡ map seen_of xs
seen_answered a [] = refl
seen_answered a (x ∷ []) = refl
seen_answered a (x ∷ y ∷ ys) = ap (λ r. seen_of x ∷ r) (seen_answered a (y ∷ ys))

pub get_left : {A : Type 0} (xs ys : List A) (i : ℕ) (x : A) → slice_get xs i ≡ Some x → slice_get (xs ++ ys) i ≡ Some x
get_left [] ys i x e = absurd (none-some x e)
get_left (z ∷ xs) ys zero x e = e
get_left (z ∷ xs) ys (suc i) x e = get_left xs ys i x e

get_end : {A : Type 0} (xs : List A) (x : A) → slice_get (xs ++ x ∷ []) (length xs) ≡ Some x
get_end [] x = refl
get_end (z ∷ xs) x = get_end xs x

count_here : (j u : ℕ) → j ≡ u → one_if_same j u ≡ 1
count_here j u e = rw (eq-eqb j u e) refl

count_away : (j u : ℕ) → j ≢ u → one_if_same j u ≡ 0
count_away j u n = elim (eqb_tells j u) [ inl x ↦ absurd (n x.1) | inr x ↦ rw x.0 refl ]

-- one label: how many calls, how many answers, and each call's seen stays
grows : (h : List (List Called)) (l : Event) (u : ℕ) → Fit h l → length (calls_in (after_event h l) u) ≡ length (calls_in h u) + call_count u l
grows h (CallOf j k) u f = go (ℕ_discrete j u)
  where
    go : Dec (j ≡ u) → length (calls_in (slice_set h j (calls_in h j ++ begun_call k h ∷ [])) u) ≡ length (calls_in h u) + one_if_same j u
    go (yes e) = rw (← e, in_same h j (calls_in h j ++ begun_call k h ∷ []) f.0, count_here j j refl, length_begun (calls_in h j) (begun_call k h)) (omega arith)
    go (no n) = rw (in_other h j u (calls_in h j ++ begun_call k h ∷ []) n, count_away j u n) (omega arith)
grows h (ReturnOf j a) u f = go (ℕ_discrete j u)
  where
    go : Dec (j ≡ u) → length (calls_in (slice_set h j (answered a (calls_in h j))) u) ≡ length (calls_in h u) + 0
    go (yes e) = rw (← e, in_same h j (answered a (calls_in h j)) f.0, length_answered a (calls_in h j)) (omega arith)
    go (no n) = rw (in_other h j u (answered a (calls_in h j)) n) (omega arith)

returns : (h : List (List Called)) (l : Event) (u : ℕ) → Fit h l → returned (calls_in (after_event h l) u) ≡ returned (calls_in h u) + return_count u l
returns h (CallOf j k) u f = go (ℕ_discrete j u)
  where
    go : Dec (j ≡ u) → returned (calls_in (slice_set h j (calls_in h j ++ begun_call k h ∷ [])) u) ≡ returned (calls_in h u) + 0
    go (yes e) = rw (← e, in_same h j (calls_in h j ++ begun_call k h ∷ []) f.0, returned_append (calls_in h j) (begun_call k h)) refl
    go (no n) = rw (in_other h j u (calls_in h j ++ begun_call k h ∷ []) n) (omega arith)
returns h (ReturnOf j a) u f = go (ℕ_discrete j u)
  where
    go : Dec (j ≡ u) → returned (calls_in (slice_set h j (answered a (calls_in h j))) u) ≡ returned (calls_in h u) + one_if_same j u
    go (yes e) = rw (← e, in_same h j (answered a (calls_in h j)) f.0, count_here j j refl, returned_answered a (calls_in h j) f.1) (omega arith)
    go (no n) = rw (in_other h j u (answered a (calls_in h j)) n, count_away j u n) (omega arith)

seen_stays : (h : List (List Called)) (l : Event) (u i : ℕ) (s : List ℕ) → Fit h l → slice_get (map seen_of (calls_in h u)) i ≡ Some s → slice_get (map seen_of (calls_in (after_event h l) u)) i ≡ Some s
seen_stays h (CallOf j k) u i s f e = go (ℕ_discrete j u)
  where
    go : Dec (j ≡ u) → slice_get (map seen_of (calls_in (slice_set h j (calls_in h j ++ begun_call k h ∷ [])) u)) i ≡ Some s
    go (yes q) =
        rw (← q, in_same h j (calls_in h j ++ begun_call k h ∷ []) f.0, map-append seen_of (calls_in h j) (begun_call k h ∷ []))
        (get_left (map seen_of (calls_in h j)) (map returned h ∷ []) i s (rw (← q) at e))
    go (no n) = rw (in_other h j u (calls_in h j ++ begun_call k h ∷ []) n) e
seen_stays h (ReturnOf j a) u i s f e = go (ℕ_discrete j u)
  where
    go : Dec (j ≡ u) → slice_get (map seen_of (calls_in (slice_set h j (answered a (calls_in h j))) u)) i ≡ Some s
    go (yes q) = rw (← q, in_same h j (answered a (calls_in h j)) f.0, seen_answered a (calls_in h j)) (rw (← q) at e)
    go (no n) = rw (in_other h j u (answered a (calls_in h j)) n) e

seen_stays_all : (h : List (List Called)) (ls : List Event) (u i : ℕ) (s : List ℕ) → AllFit h ls → slice_get (map seen_of (calls_in h u)) i ≡ Some s → slice_get (map seen_of (calls_in (after_events h ls) u)) i ≡ Some s
seen_stays_all h [] u i s f e = e
seen_stays_all h (l ∷ ls) u i s f e = seen_stays_all (after_event h l) ls u i s f.1 (seen_stays h l u i s f.0 e)

grows_all : (h : List (List Called)) (ls : List Event) (u : ℕ) → AllFit h ls → length (calls_in (after_events h ls) u) ≡ length (calls_in h u) + calls_begun u ls
grows_all h [] u f = omega arith
grows_all h (l ∷ ls) u f = omega (arith, grows h l u f.0, grows_all (after_event h l) ls u f.1)

returns_all : (h : List (List Called)) (ls : List Event) (u : ℕ) → AllFit h ls → returned (calls_in (after_events h ls) u) ≡ returned (calls_in h u) + calls_returned u ls
returns_all h [] u f = omega arith
returns_all h (l ∷ ls) u f = omega (arith, returns h l u f.0, returns_all (after_event h l) ls u f.1)

after_append : (h : List (List Called)) (xs ys : List Event) → after_events h (xs ++ ys) ≡ after_events (after_events h xs) ys
after_append h [] ys = refl
after_append h (x ∷ xs) ys = after_append (after_event h x) xs ys

all_fit_left : (h : List (List Called)) (xs ys : List Event) → AllFit h (xs ++ ys) → AllFit h xs
all_fit_left h [] ys f = tt
all_fit_left h (x ∷ xs) ys f = (f.0, all_fit_left (after_event h x) xs ys f.1)

all_fit_right : (h : List (List Called)) (xs ys : List Event) → AllFit h (xs ++ ys) → AllFit (after_events h xs) ys
all_fit_right h [] ys f = f
all_fit_right h (x ∷ xs) ys f = all_fit_right (after_event h x) xs ys f.1

-- what a begun call has seen
begun_seen : (h : List (List Called)) (u : ℕ) (k : CallKind) → u < length h → slice_get (map seen_of (calls_in (after_event h (CallOf u k)) u)) (length (calls_in h u)) ≡ Some (map returned h)
begun_seen h u k lt =
    let n = length-map (calls_in h u) seen_of in
    rw (in_same h u (calls_in h u ++ begun_call k h ∷ []) lt, map-append seen_of (calls_in h u) (begun_call k h ∷ []), ← n) (get_end (map seen_of (calls_in h u)) (map returned h))

pub seen_count : (h : List (List Called)) (t : ℕ) → get_or (map returned h) t 0 ≡ returned (calls_in h t)
seen_count h t = get_or-map returned h t []

-- a label after which a thread has one more call is its Call
its_call : (h : List (List Called)) (l : Event) (u : ℕ) → 0 < call_count u l → (k : CallKind) × (l ≡ CallOf u k)
its_call h (CallOf j k) u lt = go (ℕ_discrete j u)
  where
    go : Dec (j ≡ u) → (x : CallKind) × (CallOf j k ≡ CallOf u x)
    go (yes e) = (k, ap (λ i. CallOf i k) e)
    go (no n) = absurd (omega (arith, count_away j u n))
its_call h (ReturnOf j a) u lt = absurd (omega arith)

-- where call i of u begins, among labels after which it is there
record Begins (h : List (List Called)) (ls : List Event) (u i : ℕ) (s : List ℕ) : Type 0 where
  earlier : List Event
  kind : CallKind
  later : List Event
  split : ls ≡ earlier ++ CallOf u kind ∷ later
  number : length (calls_in (after_events h earlier) u) ≡ i
  fit : AllFit h earlier
  seen : s ≡ map returned (after_events h earlier)

found_here : (h : List (List Called)) (l : Event) (ls : List Event) (u i : ℕ) (s : List ℕ) → Fit h l → AllFit (after_event h l) ls → length (calls_in h u) ≤ i
    → slice_get (map seen_of (calls_in (after_events (after_event h l) ls) u)) i ≡ Some s → i < length (calls_in (after_event h l) u) → Begins h (l ∷ ls) u i s
found_here h l ls u i s f g le e lt =
    let grown = grows h l u f in
    let c = its_call h l u (omega (arith, grown)) in
    let more : call_count u l ≡ 1 = rw c.1 (count_here u u refl) in
    let here : length (calls_in h u) ≡ i = omega (arith, grown, more) in
    let q : CallOf u c.0 ≡ l = sym c.1 in
    let lt0 : u < length h = (subst (Fit h) c.1 f).0 in
    let P0 : Event → Type 0 = λ x. slice_get (map seen_of (calls_in (after_event h x) u)) (length (calls_in h u)) ≡ Some (map returned h) in
    let first = subst P0 q (begun_seen h u c.0 lt0) in
    let P1 : ℕ → Type 0 = λ n. slice_get (map seen_of (calls_in (after_event h l) u)) n ≡ Some (map returned h) in
    let stays = seen_stays_all (after_event h l) ls u i (map returned h) g (subst P1 here first) in
    record { earlier = []; kind = c.0; later = ls; split = ap (λ x. x ∷ ls) c.1; number = here; fit = tt; seen = same_Some s (map returned h) (sym e ∙ stays) }

found_later : (h : List (List Called)) (l : Event) (ls : List Event) (u i : ℕ) (s : List ℕ) → Fit h l → Begins (after_event h l) ls u i s → Begins h (l ∷ ls) u i s
found_later h l ls u i s f b =
    record { earlier = l ∷ b.earlier; kind = b.kind; later = b.later; split = ap (λ r. l ∷ r) b.split; number = b.number; fit = (f, b.fit); seen = b.seen }

find : (h : List (List Called)) (ls : List Event) (u i : ℕ) (s : List ℕ) → AllFit h ls → length (calls_in h u) ≤ i → slice_get (map seen_of (calls_in (after_events h ls) u)) i ≡ Some s → Begins h ls u i s
find h [] u i s f le e =
    let lt = slice_get_within (map seen_of (calls_in h u)) i s e in
    absurd (omega (arith, lt, length-map (calls_in h u) seen_of))
find h (l ∷ ls) u i s f le e =
    let next = λ (x : length (calls_in (after_event h l) u) ≤ i). find (after_event h l) ls u i s f.1 x e in
    elim (dec_le (length (calls_in (after_event h l) u)) i) [
      | yes x ↦ found_later h l ls u i s f.0 (next x)
      | no n ↦ found_here h l ls u i s f.0 f.1 le e (omega (arith, n))
    ]

pub first_empty : (kss : List (List CallKind)) (i : ℕ) → calls_in (map (λ ks. []) kss) i ≡ []
first_empty [] i = refl
first_empty (k ∷ kss) zero = refl
first_empty (k ∷ kss) (suc i) = first_empty kss i

pub to_before : (kss : List (List CallKind)) (ls : List Event) (t k u j : ℕ) → AllFit (map (λ ks. []) kss) ls
    → Precedes (after_events (map (λ ks. []) kss) ls) t k u j → IsBefore ls t k u j
to_before kss ls t k u j fit x =
    let h = (map (λ ks. []) kss) in
    let none = first_empty kss u in
    let low : length (calls_in h u) ≤ j = rw none (omega arith) in
    let b = find h ls u j x.0.seen fit low (map_get seen_of (calls_in (after_events h ls) u) j x.0 x.1) in
    let number = grows_all h b.earlier u b.fit in
    let counted = returns_all h b.earlier t b.fit in
    let zero_calls : length (calls_in h u) ≡ 0 = rw none refl in
    let zero_returns : returned (calls_in h t) ≡ 0 = rw (first_empty kss t) refl in
    let seen : get_or x.0.seen t 0 ≡ returned (calls_in (after_events h b.earlier) t) = ap (λ r. get_or r t 0) b.seen ∙ seen_count (after_events h b.earlier) t in
    record {
      earlier = b.earlier;
      kind = b.kind;
      later = b.later;
      split = b.split;
      number = omega (arith, number, zero_calls, b.number);
      done = omega (arith, counted, zero_returns, seen, x.2);
    }

pub from_before : (kss : List (List CallKind)) (ls : List Event) (t k u j : ℕ) → AllFit (map (λ ks. []) kss) ls
    → IsBefore ls t k u j → Precedes (after_events (map (λ ks. []) kss) ls) t k u j
from_before kss ls t k u j fit b =
    let h = (map (λ ks. []) kss) in
    let all : AllFit h (b.earlier ++ CallOf u b.kind ∷ b.later) = subst (AllFit h) b.split fit in
    let left = all_fit_left h b.earlier (CallOf u b.kind ∷ b.later) all in
    let right = all_fit_right h b.earlier (CallOf u b.kind ∷ b.later) all in
    let g = after_events h b.earlier in
    let number = grows_all h b.earlier u left in
    let counted = returns_all h b.earlier t left in
    let zero_calls : length (calls_in h u) ≡ 0 = rw (first_empty kss u) refl in
    let zero_returns : returned (calls_in h t) ≡ 0 = rw (first_empty kss t) refl in
    let here : length (calls_in g u) ≡ j = omega (arith, number, zero_calls, b.number) in
    let Q : ℕ → Type 0 = λ n. slice_get (map seen_of (calls_in (after_event g (CallOf u b.kind)) u)) n ≡ Some (map returned g) in
    let first = subst Q here (begun_seen g u b.kind right.0.0) in
    let last = seen_stays_all (after_event g (CallOf u b.kind)) b.later u j (map returned g) right.1 first in
    let same : after_events (after_event g (CallOf u b.kind)) b.later ≡ after_events h ls = sym (ap (after_events h) b.split ∙ after_append h b.earlier (CallOf u b.kind ∷ b.later)) in
    let R : List (List Called) → Type 0 = λ x. slice_get (map seen_of (calls_in x u)) j ≡ Some (map returned g) in
    let got = map_got seen_of (calls_in (after_events h ls) u) j (map returned g) (subst R same last) in
    let seen : get_or got.0.seen t 0 ≡ returned (calls_in g t) = ap (λ r. get_or r t 0) got.2 ∙ seen_count g t in
    (got.0, got.1, omega (arith, counted, zero_returns, seen, b.done))
