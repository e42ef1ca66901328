-- Histories with other numbers for the threads: what is said of them, and their linearizations.
use Rattle.std.proofs.Common.{◌≡◌, ℕ, ◌==◌, if◌then◌else◌, Bool, List, [], ◌∷◌, ◌++◌, map, slice_get, refl, sym, ◌∙◌, ap, subst, Some, inl, inr}
use Rattle.std.proofs.Math.Decide.{ℕ_discrete}
use Rattle.std.proofs.lemmas.Bool.{eq-eqb, ne_eqb}
use Rattle.std.proofs.lemmas.Bool.Decides.{eqb_tells}
use Rattle.std.proofs.lemmas.List.{map-append}
use Rattle.std.proofs.lemmas.Option.{none-some}
use Rattle.tso_model.specs.Events.{CallOf, Event, IsBefore, ReturnOf, answers_of, calls_begun, calls_returned, kinds_of}
use Rattle.tso_model.specs.Linear.{EachTwo, IsLinearization, IsOtherCall, Placed, placed_calls}
use Rattle.tso_model.specs.Objects.{Object}
use Rattle.tso_model.specs.Programs.{Answer, CallKind}
use Rattle.tso_model.specs.Reduce.{Has}
use Rattle.tso_client.specs.Renamings.{renamed_event, renamed_events}

-- LISTS

has_map : {A B : Type 0} (f : A → B) (xs : List A) (z : B) → Has (map f xs) z → (x : A) × Has xs x × (f x ≡ z)
has_map f [] z h = absurd h
has_map f (x ∷ xs) z (inl e) = (x, inl refl, e)
has_map f (x ∷ xs) z (inr h) = let (y, there, is) = has_map f xs z h in (y, inr there, is)

has_mapped : {A B : Type 0} (f : A → B) (xs : List A) (x : A) → Has xs x → Has (map f xs) (f x)
has_mapped f [] x h = absurd h
has_mapped f (y ∷ xs) x (inl e) = inl (ap f e)
has_mapped f (y ∷ xs) x (inr h) = inr (has_mapped f xs x h)

each_two_map : (R S : Placed → Placed → Type 0) (G : Placed → Type 0) (f : Placed → Placed) → ((x y : Placed) → G x → G y → R x y → S (f x) (f y))
    → (xs : List Placed) → ((x : Placed) → Has xs x → G x) → EachTwo R xs → EachTwo S (map f xs)
each_two_map R S G f each [] all h = tt
each_two_map R S G f each (x ∷ xs) all (h, hs) = (
  (λ z there.
      let (y, at, is) = has_map f xs z there in
      subst (S (f x)) is (each x y (all x (inl refl)) (all y (inr at)) (h y at))),
  each_two_map R S G f each xs (λ y at. all y (inr at)) hs,
)

-- NUMBERS IN PAIRS

-- f takes the numbers of one kind to those of another, and g takes them back
pub record ArePaired (f g : ℕ → ℕ) (G H : ℕ → Type 0) : Type 0 where
  pub to : (i : ℕ) → G i → H (f i)
  pub from : (j : ℕ) → H j → G (g j)
  pub back : (i : ℕ) → G i → g (f i) ≡ i
  pub forth : (j : ℕ) → H j → f (g j) ≡ j

pub turned : (f g : ℕ → ℕ) (G H : ℕ → Type 0) → ArePaired f g G H → ArePaired g f H G
turned f g G H p = record { to = p.from; from = p.to; back = p.forth; forth = p.back }

abbrev thread_of : Event → ℕ
thread_of (CallOf i k) = i
thread_of (ReturnOf i a) = i

-- each event is of such a thread
abbrev pub AllOf : (ℕ → Type 0) → List Event → Type 0
AllOf G [] = Unit {0}
AllOf G (x ∷ xs) = G (thread_of x) × AllOf G xs

all_left : (G : ℕ → Type 0) (xs ys : List Event) → AllOf G (xs ++ ys) → AllOf G xs
all_left G [] ys h = tt
all_left G (x ∷ xs) ys (h, hs) = (h, all_left G xs ys hs)

-- a thread of which a call begins is such a thread
kinds_are_of : (G : ℕ → Type 0) (es : List Event) (t n : ℕ) (k : CallKind) → AllOf G es → slice_get (kinds_of t es) n ≡ Some k → G t
kinds_are_of G [] t n k h e = absurd (none-some k e)
kinds_are_of G (ReturnOf i a ∷ es) t n k (h, hs) e = kinds_are_of G es t n k hs e
kinds_are_of G (CallOf i c ∷ es) t n k (h, hs) e =
    let P : Bool → Type 0 = λ b. slice_get ((if b then c ∷ [] else []) ++ kinds_of t es) n ≡ Some k in
    elim (eqb_tells i t) [
      | inl x ↦ subst G x.1 h
      | inr x ↦ kinds_are_of G es t n k hs (subst P x.0 e)
    ]

-- and one of which a call returns
answers_are_of : (G : ℕ → Type 0) (es : List Event) (t n : ℕ) (a : Answer) → AllOf G es → slice_get (answers_of t es) n ≡ Some a → G t
answers_are_of G [] t n a h e = absurd (none-some a e)
answers_are_of G (CallOf i c ∷ es) t n a (h, hs) e = answers_are_of G es t n a hs e
answers_are_of G (ReturnOf i x ∷ es) t n a (h, hs) e =
    let P : Bool → Type 0 = λ b. slice_get ((if b then x ∷ [] else []) ++ answers_of t es) n ≡ Some a in
    elim (eqb_tells i t) [
      | inl q ↦ subst G q.1 h
      | inr q ↦ answers_are_of G es t n a hs (subst P q.0 e)
    ]

-- a call in an order, of a thread with another number
abbrev pub renamed_place : (ℕ → ℕ) → Placed → Placed
renamed_place f o = record { thread = f o.thread; number = o.number; kind = o.kind; answer = o.answer }

same_places : (f : ℕ → ℕ) (order : List Placed) → placed_calls (map (renamed_place f) order) ≡ placed_calls order
same_places f [] = refl
same_places f (o ∷ order) = ap {B = List (CallKind × Answer)} (λ r. (o.kind, o.answer) ∷ r) (same_places f order)

-- ONE RENAMING

module _ (f g : ℕ → ℕ) (G H : ℕ → Type 0) (p : ArePaired f g G H) where
  apart : (i j : ℕ) → G i → G j → f i ≡ f j → i ≡ j
  apart i j a b e = sym (p.back i a) ∙ (ap g e ∙ p.back j b)

  same_test : (i t : ℕ) → G i → G t → (f i == f t) ≡ (i == t)
  same_test i t a b = go (ℕ_discrete i t)
    where
      go : Dec (i ≡ t) → (f i == f t) ≡ (i == t)
      go (yes e) = eq-eqb (f i) (f t) (ap f e) ∙ sym (eq-eqb i t e)
      go (no n) = ne_eqb (f i) (f t) (λ e. n (apart i t a b e)) ∙ sym (ne_eqb i t n)

  pub all_renamed : (es : List Event) → AllOf G es → AllOf H (renamed_events f es)
  all_renamed [] h = tt
  all_renamed (CallOf i k ∷ es) (h, hs) = (p.to i h, all_renamed es hs)
  all_renamed (ReturnOf i a ∷ es) (h, hs) = (p.to i h, all_renamed es hs)

  pub renamed_back : (es : List Event) → AllOf G es → renamed_events g (renamed_events f es) ≡ es
  renamed_back [] h = refl
  renamed_back (CallOf i k ∷ es) (h, hs) = rw (p.back i h, renamed_back es hs) refl
  renamed_back (ReturnOf i a ∷ es) (h, hs) = rw (p.back i h, renamed_back es hs) refl

  kinds_renamed : (t : ℕ) (es : List Event) → G t → AllOf G es → kinds_of (f t) (renamed_events f es) ≡ kinds_of t es
  kinds_renamed t [] h hs = refl
  kinds_renamed t (CallOf i k ∷ es) h (here, hs) = rw (same_test i t here h, kinds_renamed t es h hs) refl
  kinds_renamed t (ReturnOf i a ∷ es) h (here, hs) = kinds_renamed t es h hs

  answers_renamed : (t : ℕ) (es : List Event) → G t → AllOf G es → answers_of (f t) (renamed_events f es) ≡ answers_of t es
  answers_renamed t [] h hs = refl
  answers_renamed t (CallOf i k ∷ es) h (here, hs) = answers_renamed t es h hs
  answers_renamed t (ReturnOf i a ∷ es) h (here, hs) = rw (same_test i t here h, answers_renamed t es h hs) refl

  begun_renamed : (t : ℕ) (es : List Event) → G t → AllOf G es → calls_begun (f t) (renamed_events f es) ≡ calls_begun t es
  begun_renamed t [] h hs = refl
  begun_renamed t (CallOf i k ∷ es) h (here, hs) = rw (same_test i t here h, begun_renamed t es h hs) refl
  begun_renamed t (ReturnOf i a ∷ es) h (here, hs) = rw (begun_renamed t es h hs) refl

  returned_renamed : (t : ℕ) (es : List Event) → G t → AllOf G es → calls_returned (f t) (renamed_events f es) ≡ calls_returned t es
  returned_renamed t [] h hs = refl
  returned_renamed t (CallOf i k ∷ es) h (here, hs) = rw (returned_renamed t es h hs) refl
  returned_renamed t (ReturnOf i a ∷ es) h (here, hs) = rw (same_test i t here h, returned_renamed t es h hs) refl

  pub before_renamed : (es : List Event) (t k u j : ℕ) → G t → G u → AllOf G es → IsBefore es t k u j → IsBefore (renamed_events f es) (f t) k (f u) j
  before_renamed es t k u j ht hu all b =
      let left = all_left G b.earlier (CallOf u b.kind ∷ b.later) (subst (AllOf G) b.split all) in
      record {
        earlier = renamed_events f b.earlier;
        kind = b.kind;
        later = renamed_events f b.later;
        split = ap (renamed_events f) b.split ∙ map-append (renamed_event f) b.earlier (CallOf u b.kind ∷ b.later);
        number = begun_renamed u b.earlier hu left ∙ b.number;
        done = rw (returned_renamed t b.earlier ht left) b.done;
      }

-- LINEARIZATIONS

module _ (f g : ℕ → ℕ) (G H : ℕ → Type 0) (p : ArePaired f g G H) where
  -- and back
  before_back : (es : List Event) (t k u j : ℕ) → G t → G u → AllOf G es → IsBefore (renamed_events f es) (f t) k (f u) j → IsBefore es t k u j
  before_back es t k u j ht hu all b =
      let x = before_renamed g f H G (turned f g G H p) (renamed_events f es) (f t) k (f u) j (p.to t ht) (p.to u hu) (all_renamed f g G H p es all) b in
      rw (renamed_back f g G H p es all, p.back t ht, p.back u hu) at x

  -- the linearizations of a history are those of the history with other numbers
  pub carried : (object : Object) (es : List Event) (order : List Placed) → AllOf G es → IsLinearization object es order
      → IsLinearization object (renamed_events f es) (map (renamed_place f) order)
  carried object es order all l = record {
    once = each_two_map IsOtherCall IsOtherCall Known (renamed_place f) (λ x y a b other same. other (apart f g G H p x.thread y.thread a b same)) order known l.once;
    begun = λ o there. let (x, at, is) = has_map (renamed_place f) order o there in subst Begun is (begun x at);
    own_answers = λ o a there. let (x, at, is) = has_map (renamed_place f) order o there in subst (Answered a) is (own_answer x a at);
    complete = λ t n a e. complete t n a e;
    in_order = each_two_map _ _ Known (renamed_place f) (λ x y a b none before. none (before_back es y.thread y.number x.thread x.number b a all before)) order known l.in_order;
    allowed = rw (same_places f order) l.allowed;
  }
    where
      Known : Placed → Type 0
      Known o = G o.thread

      Begun : Placed → Type 0
      Begun o = slice_get (kinds_of o.thread (renamed_events f es)) o.number ≡ Some o.kind

      Answered : Answer → Placed → Type 0
      Answered a o = slice_get (answers_of o.thread (renamed_events f es)) o.number ≡ Some a → o.answer ≡ a

      known : (o : Placed) → Has order o → Known o
      known o at = kinds_are_of G es o.thread o.number o.kind all (l.begun o at)

      begun : (o : Placed) → Has order o → Begun (renamed_place f o)
      begun o at = rw (kinds_renamed f g G H p o.thread es (known o at) all) (l.begun o at)

      own_answer : (o : Placed) (a : Answer) → Has order o → Answered a (renamed_place f o)
      own_answer o a at e = l.own_answers o a at (rw (answers_renamed f g G H p o.thread es (known o at) all) at e)

      complete : (t n : ℕ) (a : Answer) → slice_get (answers_of t (renamed_events f es)) n ≡ Some a →
          (k : CallKind) × Has (map (renamed_place f) order) (record { thread = t; number = n; kind = k; answer = a })
      complete t n a e =
          let h : H t = answers_are_of H (renamed_events f es) t n a (all_renamed f g G H p es all) e in
          let A : ℕ → Type 0 = λ i. slice_get (answers_of i (renamed_events f es)) n ≡ Some a in
          let there : slice_get (answers_of (g t) es) n ≡ Some a = rw (answers_renamed f g G H p (g t) es (p.from t h) all) at (subst A (sym (p.forth t h)) e) in
          let (k, at) = l.complete (g t) n a there in
          let B : ℕ → Type 0 = λ i. Has (map (renamed_place f) order) (record { thread = i; number = n; kind = k; answer = a }) in
          (k, subst B (p.forth t h) (has_mapped (renamed_place f) order _ at))
