-- What is linearizable is so at each of its beginnings: the order is cut after its last call that has returned there.
use Rattle.std.proofs.Common.{◌≡◌, ℕ, zero, suc, ◌+◌, ◌≤◌, ◌==◌, if◌then◌else◌, Bool, true, false, List, [], ◌∷◌, ◌++◌, length, ◌⊎◌, inl, inr, Option, Some, None, is_some, refl, sym, ◌∙◌, ap, subst, arith, append_assoc, length-append}
use Rattle.std.specs.List.{slice_get}
use Rattle.std.proofs.lemmas.Bool.{eq-eqb}
use Rattle.std.proofs.lemmas.Bool.Decides.{eqb_tells}
use Rattle.std.proofs.lemmas.List.{map-append}
use Rattle.std.proofs.lemmas.Option.{none-some, same_Some, slice_get_within}
use Rattle.tso_model.specs.Events.{CallOf, Event, IsBefore, ReturnOf, answers_in, answers_of, call_count, calls_begun, calls_returned, kinds_in, kinds_of}
use Rattle.tso_model.specs.Histories.{SameCalls}
use Rattle.tso_model.specs.Linear.{EachTwo, IsLinearizable, IsLinearization, IsOtherCall, Placed, placed_calls}
use Rattle.tso_model.specs.Objects.{Allows, Mode, Object, Queue, QueueSteps, Tested}
use Rattle.tso_model.specs.Programs.{Answer, CallKind}
use Rattle.tso_model.specs.Reduce.{Has}
use Rattle.tso_model.specs.Relation.{inside}
use Rattle.tso_model.specs.States.{Called}
use Rattle.tso_model.proofs.Ordered.{get_left}
use Rattle.tso_model.proofs.Orders.{each_two_weaker}
use Rattle.tso_model.proofs.Persistent.{there}

-- LISTS

has_cases : {X : Type 0} (xs ys : List X) (x : X) → Has (xs ++ ys) x → Has xs x ⊎ Has ys x
has_cases [] ys x h = inr h
has_cases (z ∷ xs) ys x (inl e) = inl (inl e)
has_cases (z ∷ xs) ys x (inr h) = elim (has_cases xs ys x h) [ inl a ↦ inl (inr a) | inr b ↦ inr b ]

has_left : {X : Type 0} (xs ys : List X) (x : X) → Has xs x → Has (xs ++ ys) x
has_left [] ys x h = absurd h
has_left (z ∷ xs) ys x (inl e) = inl e
has_left (z ∷ xs) ys x (inr h) = inr (has_left xs ys x h)

each_two_left : (R : Placed → Placed → Type 0) (xs ys : List Placed) → EachTwo R (xs ++ ys) → EachTwo R xs
each_two_left R [] ys h = tt
each_two_left R (x ∷ xs) ys (h, hs) = ((λ y i. h y (has_left xs ys y i)), each_two_left R xs ys hs)

-- the place of an element that is not in the first part
get_right : {X : Type 0} (xs ys : List X) (n : ℕ) (x : X) → slice_get (xs ++ ys) n ≡ Some x → slice_get xs n ≡ None → (m : ℕ) × (slice_get ys m ≡ Some x) × (length xs + m ≡ n)
get_right [] ys n x e z = (n, e, omega arith)
get_right (y ∷ xs) ys zero x e z = absurd (none-some y (sym z))
get_right (y ∷ xs) ys (suc n) x e z = let (m, at, is) = get_right xs ys n x e z in (m, at, omega (arith, is))

-- EVENTS

kinds_append : (t : ℕ) (xs ys : List Event) → kinds_of t (xs ++ ys) ≡ kinds_of t xs ++ kinds_of t ys
kinds_append t [] ys = refl
kinds_append t (x ∷ xs) ys = rw (kinds_append t xs ys) (sym (append_assoc (kinds_in t x) (kinds_of t xs) (kinds_of t ys)))

answers_append : (t : ℕ) (xs ys : List Event) → answers_of t (xs ++ ys) ≡ answers_of t xs ++ answers_of t ys
answers_append t [] ys = refl
answers_append t (x ∷ xs) ys = rw (answers_append t xs ys) (sym (append_assoc (answers_in t x) (answers_of t xs) (answers_of t ys)))

length_if : {X : Type 0} (b : Bool) (x : X) → length (if b then x ∷ [] else []) ≡ (if b then 1 else 0)
length_if true x = refl
length_if false x = refl

length_kinds : (t : ℕ) (es : List Event) → length (kinds_of t es) ≡ calls_begun t es
length_kinds t [] = refl
length_kinds t (CallOf i k ∷ es) = omega (arith, length-append (kinds_in t (CallOf i k)) (kinds_of t es), length_if (i == t) k, length_kinds t es)
length_kinds t (ReturnOf i a ∷ es) = omega (arith, length_kinds t es)

length_answers : (t : ℕ) (es : List Event) → length (answers_of t es) ≡ calls_returned t es
length_answers t [] = refl
length_answers t (CallOf i k ∷ es) = omega (arith, length_answers t es)
length_answers t (ReturnOf i a ∷ es) = omega (arith, length-append (answers_in t (ReturnOf i a)) (answers_of t es), length_if (i == t) a, length_answers t es)

returned_more : (t : ℕ) (xs ys : List Event) → calls_returned t xs ≤ calls_returned t (xs ++ ys)
returned_more t [] ys = omega arith
returned_more t (x ∷ xs) ys = let h = returned_more t xs ys in omega (arith, h)

begun_append : (t : ℕ) (xs ys : List Event) → calls_begun t (xs ++ ys) ≡ calls_begun t xs + calls_begun t ys
begun_append t [] ys = omega arith
begun_append t (x ∷ xs) ys = omega (arith, begun_append t xs ys)

-- where call n of the thread begins
record BeginsAt (t n : ℕ) (k : CallKind) (es : List Event) : Type 0 where
  earlier : List Event
  later : List Event
  split : es ≡ earlier ++ CallOf t k ∷ later
  number : calls_begun t earlier ≡ n

begins_later : (t n d : ℕ) (k : CallKind) (e : Event) (es : List Event) → call_count t e + d ≡ n → BeginsAt t d k es → BeginsAt t n k (e ∷ es)
begins_later t n d k e es is b = record { earlier = e ∷ b.earlier; later = b.later; split = ap (λ (xs : List Event). e ∷ xs) b.split; number = let x = b.number in omega (arith, x, is) }

-- the first event is this call, or one before it
begins_here : (t n i : ℕ) (k c : CallKind) (es : List Event) → i ≡ t → slice_get (c ∷ kinds_of t es) n ≡ Some k → ((m : ℕ) → slice_get (kinds_of t es) m ≡ Some k → BeginsAt t m k es) → BeginsAt t n k (CallOf i c ∷ es)
begins_here t zero i k c es q s rec = record { earlier = []; later = es; split = rw (q, same_Some c k s) refl; number = refl }
begins_here t (suc m) i k c es q s rec =
    let count : call_count t (CallOf i c) ≡ 1 = ap (λ b. if b then 1 else 0) (eq-eqb i t q) in
    begins_later t (suc m) m k (CallOf i c) es (omega (arith, count)) (rec m s)

begins_at : (t n : ℕ) (k : CallKind) (es : List Event) → slice_get (kinds_of t es) n ≡ Some k → BeginsAt t n k es
begins_at t n k [] e = absurd (none-some k e)
begins_at t n k (ReturnOf i a ∷ es) e = begins_later t n n k (ReturnOf i a) es (omega arith) (begins_at t n k es e)
begins_at t n k (CallOf i c ∷ es) e =
    let P : Bool → Type 0 = λ b. slice_get ((if b then c ∷ [] else []) ++ kinds_of t es) n ≡ Some k in
    elim (eqb_tells i t) [
      | inl x ↦ begins_here t n i k c es x.1 (subst P x.0 e) (λ m s. begins_at t m k es s)
      | inr x ↦
          let count : call_count t (CallOf i c) ≡ 0 = ap (λ b. if b then 1 else 0) x.0 in
          begins_later t n n k (CallOf i c) es (omega (arith, count)) (begins_at t n k es (subst P x.0 e))
    ]

before_more : (es more : List Event) (t k u j : ℕ) → IsBefore es t k u j → IsBefore (es ++ more) t k u j
before_more es more t k u j b = record {
  earlier = b.earlier;
  kind = b.kind;
  later = b.later ++ more;
  split = ap (λ (xs : List Event). xs ++ more) b.split ∙ append_assoc b.earlier (CallOf u b.kind ∷ b.later) more;
  number = b.number;
  done = b.done;
}

-- a call that has returned is before one that begins later
returned_before : (es more : List Event) (t k u j : ℕ) (a : Answer) (kind : CallKind) → slice_get (answers_of t es) k ≡ Some a →
    slice_get (kinds_of u (es ++ more)) j ≡ Some kind → slice_get (kinds_of u es) j ≡ None → IsBefore (es ++ more) t k u j
returned_before es more t k u j a kind done begun not_yet =
    let (m, at, is) = get_right (kinds_of u es) (kinds_of u more) j kind (ap (λ ks. slice_get ks j) (sym (kinds_append u es more)) ∙ begun) not_yet in
    let b = begins_at u m kind more at in
    let number = b.number in
    let within = slice_get_within (answers_of t es) k a done in
    record {
      earlier = es ++ b.earlier;
      kind = kind;
      later = b.later;
      split = ap (λ (xs : List Event). es ++ xs) b.split ∙ sym (append_assoc es b.earlier (CallOf u kind ∷ b.later));
      number = omega (arith, begun_append u es b.earlier, length_kinds u es, number, is);
      done = omega (arith, within, length_answers t es, returned_more t es b.earlier);
    }

-- CUTTING THE ORDER

-- each passes the test or has a later one that does
abbrev LeadsTo : (Placed → Bool) → List Placed → Type 0
LeadsTo test [] = Unit {0}
LeadsTo test (y ∷ ys) = ((test y ≡ true) ⊎ ((z : Placed) × Has ys z × (test z ≡ true))) × LeadsTo test ys

record IsCut (test : Placed → Bool) (order ys zs : List Placed) : Type 0 where
  whole : order ≡ ys ++ zs
  leads : LeadsTo test ys
  others : (z : Placed) → Has zs z → test z ≡ true → ⊥

false_not : (b : Bool) → b ≡ false → b ≡ true → ⊥
false_not b e f = cc

cut : (test : Placed → Bool) (order : List Placed) → (ys : List Placed) × (zs : List Placed) × IsCut test order ys zs
cut test [] = ([], [], record { whole = refl; leads = tt; others = λ z h e. h })
cut test (x ∷ xs) = let (ys, zs, c) = cut test xs in more ys zs c (test x) refl
  where
    more : (ys zs : List Placed) → IsCut test xs ys zs → (b : Bool) → test x ≡ b → (us : List Placed) × (vs : List Placed) × IsCut test (x ∷ xs) us vs
    more [] zs c true e = (x ∷ [], zs, record { whole = ap (λ (l : List Placed). x ∷ l) c.whole; leads = (inl e, tt); others = c.others })
    more [] zs c false e = ([], x ∷ zs, record { whole = ap (λ (l : List Placed). x ∷ l) c.whole; leads = tt; others = λ z h p. elim h [ inl q ↦ false_not (test x) e (subst (λ y. test y ≡ true) (sym q) p) | inr r ↦ c.others z r p ] })
    more (y ∷ ys) zs c b e = (
      x ∷ y ∷ ys,
      zs,
      record {
        whole = ap (λ (l : List Placed). x ∷ l) c.whole;
        leads = (elim c.leads.0 [ inl p ↦ inr (y, inl refl, p) | inr h ↦ inr (h.0, inr h.1, h.2) ], c.leads);
        others = c.others;
      },
    )

queue_left : (mode : Mode) (capacity : ℕ) (before after : List ℕ) (xs ys : List (CallKind × Answer)) → QueueSteps mode capacity before (xs ++ ys) after → (mid : List ℕ) × QueueSteps mode capacity before xs mid
queue_left mode capacity before after [] ys r = (before, refl)
queue_left mode capacity before after (x ∷ xs) ys (next, one, rest) = let (mid, r) = queue_left mode capacity next after xs ys rest in (mid, (next, one, r))

allows_left : (object : Object) (xs ys : List (CallKind × Answer)) → Allows object (xs ++ ys) → Allows object xs
allows_left (Tested test) xs ys h = λ us vs e. h us (vs ++ ys) (ap (λ (l : List (CallKind × Answer)). l ++ ys) e ∙ append_assoc us vs ys)
allows_left (Queue mode capacity) xs ys (after, r) = queue_left mode capacity [] after xs ys r

-- THE THEOREM

abbrev has_returned : List Event → Placed → Bool
has_returned es o = is_some (slice_get (answers_of o.thread es) o.number)

some_is : {X : Type 0} (o : Option X) → is_some o ≡ true → (x : X) × (o ≡ Some x)
some_is None e = cc
some_is (Some x) e = (x, refl)

-- some history tells what the beginning says
pub beginning : (object : Object) (h : List (List Called)) (es more : List Event) → SameCalls h es → IsLinearizable object (es ++ more) → IsLinearizable object es
beginning object h es more same (order, all) =
    let (ys, zs, c) = cut (has_returned es) order in
    let l : IsLinearization object (es ++ more) (ys ++ zs) = subst (IsLinearization object (es ++ more)) c.whole all in
    let order_left = each_two_left (λ x y. IsBefore (es ++ more) y.thread y.number x.thread x.number → ⊥) ys zs l.in_order in (
      ys,
      record {
        once = each_two_left IsOtherCall ys zs l.once;
        begun = begun_there ys zs l ys c.leads order_left (λ o i. has_left ys zs o i);
        own_answers = λ o a i e. l.own_answers o a (has_left ys zs o i) (answer_there o.thread o.number a e);
        complete = λ t n a e. let (k, i) = l.complete t n a (answer_there t n a e) in (k, elim (has_cases ys zs _ i) [ inl here ↦ here | inr there ↦ absurd (c.others _ there (ap is_some e)) ]);
        in_order = each_two_weaker _ _ (λ x y none b. none (before_more es more y.thread y.number x.thread x.number b)) ys order_left;
        allowed = allows_left object (placed_calls ys) (placed_calls zs) (subst (Allows object) (map-append (λ (o : Placed). (o.kind, o.answer)) ys zs) l.allowed);
      },
    )
  where
    answer_there : (t n : ℕ) (a : Answer) → slice_get (answers_of t es) n ≡ Some a → slice_get (answers_of t (es ++ more)) n ≡ Some a
    answer_there t n a e = ap (λ xs. slice_get xs n) (answers_append t es more) ∙ get_left (answers_of t es) (answers_of t more) n a e

    -- a call that has returned in the beginning has begun there
    of_returned : (o : Placed) → has_returned es o ≡ true → (k : CallKind) × (slice_get (kinds_of o.thread es) o.number ≡ Some k)
    of_returned o e =
        let (a, is) = some_is (slice_get (answers_of o.thread es) o.number) e in
        let (d, at, got) = (same.completed o.thread o.number a).1 is in
        (d.kind, (same.begun o.thread o.number d.kind).0 (d, at, refl))

    its_kind : (o : Placed) (k : CallKind) → slice_get (kinds_of o.thread (es ++ more)) o.number ≡ Some o.kind → slice_get (kinds_of o.thread es) o.number ≡ Some k → slice_get (kinds_of o.thread es) o.number ≡ Some o.kind
    its_kind o k whole part =
        let longer : slice_get (kinds_of o.thread (es ++ more)) o.number ≡ Some k = ap (λ xs. slice_get xs o.number) (kinds_append o.thread es more) ∙ get_left (kinds_of o.thread es) (kinds_of o.thread more) o.number k part in
        part ∙ sym longer ∙ whole

    -- one with a later one that has returned there has begun there too
    of_led : (o z : Placed) → slice_get (kinds_of o.thread (es ++ more)) o.number ≡ Some o.kind → (IsBefore (es ++ more) z.thread z.number o.thread o.number → ⊥) → has_returned es z ≡ true
        → (q : Option CallKind) → slice_get (kinds_of o.thread es) o.number ≡ q → slice_get (kinds_of o.thread es) o.number ≡ Some o.kind
    of_led o z whole none e (Some k) is = its_kind o k whole is
    of_led o z whole none e None is =
        let (a, got) = some_is (slice_get (answers_of z.thread es) z.number) e in
        absurd (none (returned_before es more z.thread z.number o.thread o.number a o.kind got whole is))

    begun_there : (ys zs : List Placed) (l : IsLinearization object (es ++ more) (ys ++ zs)) (xs : List Placed) → LeadsTo (has_returned es) xs → EachTwo (λ x y. IsBefore (es ++ more) y.thread y.number x.thread x.number → ⊥) xs
        → ((o : Placed) → Has xs o → Has (ys ++ zs) o) → (o : Placed) → Has xs o → slice_get (kinds_of o.thread es) o.number ≡ Some o.kind
    begun_there ys zs l [] leads apart inside o i = absurd i
    begun_there ys zs l (x ∷ xs) leads apart inside o (inr i) = begun_there ys zs l xs leads.1 apart.1 (λ p h. inside p (inr h)) o i
    begun_there ys zs l (x ∷ xs) leads apart inside o (inl e) =
        let whole = l.begun x (inside x (inl refl)) in
        let here : slice_get (kinds_of x.thread es) x.number ≡ Some x.kind = elim leads.0 [
          | inl p ↦ let (k, is) = of_returned x p in its_kind x k whole is
          | inr z ↦ of_led x z.0 whole (apart.0 z.0 z.1) z.2 (slice_get (kinds_of x.thread es) x.number) refl
        ] in
        subst (λ (y : Placed). slice_get (kinds_of y.thread es) y.number ≡ Some y.kind) e here
