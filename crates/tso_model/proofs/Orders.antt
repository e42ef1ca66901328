-- An order of a stricter history is one of a looser, and a linearization of the events that the history is of.
use Rattle.std.proofs.Common.{◌≡◌, ℕ, zero, suc, List, [], ◌∷◌, ◌⊎◌, inl, inr, Option, Some, None, refl, sym, ◌∙◌, ap, subst, arith}
use Rattle.std.specs.List.{slice_get, AllZip}
use Rattle.std.proofs.lemmas.Option.{none-some, same_Some}
use Rattle.tso_model.specs.Events.{Event}
use Rattle.tso_model.specs.Histories.{SameCalls}
use Rattle.tso_model.specs.Linear.{EachTwo, IsLinearization, IsOrder, Placed, call_at}
use Rattle.tso_model.specs.Objects.{Object}
use Rattle.tso_model.specs.Programs.{Answer}
use Rattle.tso_model.specs.Reduce.{Has}
use Rattle.tso_model.specs.States.{Called}
use Rattle.tso_model.specs.Strictness.{CalledAtLeast, HistoryAtLeast}
use Rattle.tso_model.proofs.Lists.{all_zip_at}

-- the two histories' calls at one place
data Both : Option Called → Option Called → Type 0 where
  neither : Both None None
  each : {x y : Called} → CalledAtLeast x y → Both (Some x) (Some y)

both_at : (xs ys : List Called) (k : ℕ) → AllZip CalledAtLeast xs ys → Both (slice_get xs k) (slice_get ys k)
both_at [] [] k h = neither
both_at (x ∷ xs) (y ∷ ys) zero (h, hs) = each h
both_at (x ∷ xs) (y ∷ ys) (suc k) (h, hs) = both_at xs ys k hs
both_at [] (y ∷ ys) k h = absurd h
both_at (x ∷ xs) [] k h = absurd h

from_right : {o q : Option Called} → Both o q → (y : Called) → q ≡ Some y → (x : Called) × (o ≡ Some x) × CalledAtLeast x y
from_right neither y e = absurd (none-some y e)
from_right (each {x = x} {y = z} h) y e = (x, refl, rw (same_Some z y e) at h)

from_left : {o q : Option Called} → Both o q → (x : Called) → o ≡ Some x → (y : Called) × (q ≡ Some y) × CalledAtLeast x y
from_left neither x e = absurd (none-some x e)
from_left (each {x = z} {y = y} h) x e = (y, refl, rw (same_Some z x e) at h)

pub each_two_weaker : (R Q : Placed → Placed → Type 0) → ((x y : Placed) → R x y → Q x y) → (xs : List Placed) → EachTwo R xs → EachTwo Q xs
each_two_weaker R Q f [] h = tt
each_two_weaker R Q f (x ∷ xs) (h, hs) = ((λ y i. f x y (h y i)), each_two_weaker R Q f xs hs)

module _ (h k : List (List Called)) (stricter : HistoryAtLeast h k) where
  both : (thread number : ℕ) → Both (call_at h thread number) (call_at k thread number)
  both thread number = both_at _ _ number (all_zip_at (AllZip CalledAtLeast) h k thread [] tt stricter)

  pub looser : (object : Object) (order : List Placed) → IsOrder object h order → IsOrder object k order
  looser object order l = record {
    once = l.once;
    begun = λ o i.
        let (x, e, n, a) = l.begun o i in
        let (y, e', c) = from_left (both o.thread o.number) x e in
        (y, e', sym c.kind ∙ n, elim a [ inl n ↦ inl (sym c.answer ∙ n) | inr s ↦ inr (sym c.answer ∙ s) ]);
    complete = λ thread number y a e s.
        let (x, e', c) = from_right (both thread number) y e in
        let there = l.complete thread number x a e' (c.answer ∙ s) in
        rw (← c.kind) there;
    in_order = each_two_weaker _ _ (λ x y no_before (z, e, lt). let (w, e', c) = from_right (both x.thread x.number) z e in let s = c.seen y.thread in no_before (w, e', omega (arith, s))) order l.in_order;
    allowed = l.allowed;
  }

same_answer : (o : Option Answer) (a b : Answer) → (o ≡ None) ⊎ (o ≡ Some b) → o ≡ Some a → b ≡ a
same_answer o a b (inl n) e = absurd (none-some a (sym n ∙ e))
same_answer o a b (inr s) e = same_Some b a (sym s ∙ e)

-- an order of a history is a linearization of the events that it tells
pub told : (object : Object) (h : List (List Called)) (es : List Event) (order : List Placed) → SameCalls h es → IsOrder object h order → IsLinearization object es order
told object h es order same l = record {
  once = l.once;
  begun = λ o i. let (c, at, kind, a) = l.begun o i in (same.begun o.thread o.number o.kind).0 (c, at, kind);
  own_answers = λ o a i e.
      let (c, at, kind, has) = l.begun o i in
      let (d, at', is) = (same.completed o.thread o.number a).1 e in
      let one : d ≡ c = same_Some d c (sym at' ∙ at) in
      same_answer c.answer a o.answer has (ap (λ (x : Called). x.answer) (sym one) ∙ is);
  complete = λ t n a e. let (d, at, is) = (same.completed t n a).1 e in (d.kind, l.complete t n d a at is);
  in_order = each_two_weaker _ _ (λ x y none b. none ((same.before y.thread y.number x.thread x.number).1 b)) order l.in_order;
  allowed = l.allowed;
}

-- and the other way round
pub untold : (object : Object) (h : List (List Called)) (es : List Event) (order : List Placed) → SameCalls h es → IsLinearization object es order → IsOrder object h order
untold object h es order same l = record {
  once = l.once;
  begun = λ o i.
      let (c, at, kind) = (same.begun o.thread o.number o.kind).1 (l.begun o i) in
      (c, at, kind, answer_of o i c at c.answer refl);
  complete = λ t n c a at is.
      let (k, i) = l.complete t n a ((same.completed t n a).0 (c, at, is)) in
      let kind : k ≡ c.kind = same_Some k c.kind (sym (l.begun _ i) ∙ (same.begun t n c.kind).0 (c, at, refl)) in
      subst (λ z. Has order (record { thread = t; number = n; kind = z; answer = a })) kind i;
  in_order = each_two_weaker _ _ (λ x y none b. none ((same.before y.thread y.number x.thread x.number).0 b)) order l.in_order;
  allowed = l.allowed;
}
  where
    answer_of : (o : Placed) → Has order o → (c : Called) → call_at h o.thread o.number ≡ Some c → (q : Option Answer) → c.answer ≡ q → (q ≡ None) ⊎ (q ≡ Some o.answer)
    answer_of o i c at None is = inl refl
    answer_of o i c at (Some a) is = inr (ap Some (sym (l.own_answers o a i ((same.completed o.thread o.number a).0 (c, at, is)))))
