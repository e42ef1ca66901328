-- Steps of a queue.
use Rattle.std.proofs.Common.{◌≡◌, ◌↔◌, ℕ, nat_lt, eqb, Bool, IsTrue, List, [], ◌∷◌, ◌++◌, length, Option, Some, None, slice_get, refl, sym, ap, ◌∙◌, subst, arith}
use Rattle.std.proofs.lemmas.Bool.{false≢true}
use Rattle.std.proofs.lemmas.Bool.Decides.{Decides-ltb, Decides-eqb}
use Rattle.std.specs.Option.{option_eq}
use Rattle.tso_model.specs.Objects.{MayRefuse, Mode, QueueStep, QueueSteps}
use Rattle.tso_model.specs.Programs.{Answer, CallKind, Done, Pop, Push, Refused, Value}

-- some answer of this kind can be given
abbrev pub MayAnswer : Mode → ℕ → List ℕ → CallKind → Answer → Type 0
MayAnswer mode capacity items kind answer = (after : List ℕ) × QueueStep mode capacity items kind answer after

pub may_refuse-is : (mode : Mode) (capacity : ℕ) (items : List ℕ) (kind : CallKind) (b : Bool) → (IsTrue b ↔ MayRefuse mode capacity items kind) → IsTrue b ↔ MayAnswer mode capacity items kind Refused
may_refuse-is mode capacity items (Push v) b h = (λ t. (items, (h.0 t, refl)), λ (after, may). h.1 may.0)
may_refuse-is mode capacity items Pop b h = (λ t. (items, (h.0 t, refl)), λ (after, may). h.1 may.0)

pub may_push-is : (mode : Mode) (capacity : ℕ) (items : List ℕ) (v n : ℕ) → length items ≡ n → IsTrue (nat_lt n capacity) ↔ MayAnswer mode capacity items (Push v) Done
may_push-is mode capacity items v n e =
    let d = Decides-ltb n capacity in
    (λ t. (items ++ v ∷ [], (omega (arith, d.0 t, e), refl)), λ (after, lt). d.1 (omega (arith, lt.0, e)))

pub may_pop-is : (mode : Mode) (capacity : ℕ) (items : List ℕ) (v : ℕ) (b : Bool) → (IsTrue b ↔ (slice_get items 0 ≡ Some v)) → IsTrue b ↔ MayAnswer mode capacity items Pop (Value v)
may_pop-is mode capacity [] v b h = (λ t. absurd (let e = h.0 t in cc), λ (after, e). absurd (cc))
may_pop-is mode capacity (x ∷ xs) v b h =
    (λ t. let e : x ≡ v = (let f = h.0 t in cc) in (xs, ap (λ (y : ℕ). y ∷ xs) e), λ (after, e). h.1 (let f : x ≡ v = cc in ap Some f))

pub option_eq-is : (o : Option ℕ) (v : ℕ) (b : Bool) → b ≡ option_eq eqb o (Some v) → IsTrue b ↔ (o ≡ Some v)
option_eq-is None v b e = (λ t. absurd (false≢true (sym e ∙ t)), λ f. absurd (cc))
option_eq-is (Some x) v b e =
    let d = Decides-eqb x v in (λ t. ap Some (d.0 (sym e ∙ t)), λ f. e ∙ d.1 (let g : x ≡ v = cc in g))

-- a call with its answer leaves one list
pub step_same : (mode : Mode) (capacity : ℕ) (items : List ℕ) (kind : CallKind) (answer : Answer) (r s : List ℕ) → QueueStep mode capacity items kind answer r → QueueStep mode capacity items kind answer s → r ≡ s
step_same mode capacity items (Push v) Done r s p q = p.1 ∙ sym q.1
step_same mode capacity items (Push v) Refused r s p q = p.1 ∙ sym q.1
step_same mode capacity items (Push v) (Value w) r s p q = absurd p
step_same mode capacity items Pop Done r s p q = absurd p
step_same mode capacity items Pop Refused r s p q = p.1 ∙ sym q.1
step_same mode capacity items Pop (Value v) r s p q = let e : v ∷ r ≡ v ∷ s = sym p ∙ q in cc

pub steps_same : (mode : Mode) (capacity : ℕ) (items : List ℕ) (cs : List (CallKind × Answer)) (r s : List ℕ) → QueueSteps mode capacity items cs r → QueueSteps mode capacity items cs s → r ≡ s
steps_same mode capacity items [] r s p q = p ∙ sym q
steps_same mode capacity items (c ∷ cs) r s (m, step, p) (n, step', q) =
    let e = step_same mode capacity items c.0 c.1 n m step' step in
    steps_same mode capacity m cs r s p (subst (λ (l : List ℕ). QueueSteps mode capacity l cs s) e q)

pub steps_push : (mode : Mode) (capacity : ℕ) (before mid after : List ℕ) (cs : List (CallKind × Answer)) (c : CallKind × Answer) → QueueSteps mode capacity before cs mid → QueueStep mode capacity mid c.0 c.1 after → QueueSteps mode capacity before (cs ++ c ∷ []) after
steps_push mode capacity before mid after [] c steps step = (after, subst (λ (q : List ℕ). QueueStep mode capacity q c.0 c.1 after) steps step, refl)
steps_push mode capacity before mid after (d ∷ cs) c (next, first, steps) step = (next, first, steps_push mode capacity next mid after cs c steps step)

pub steps_split : (mode : Mode) (capacity : ℕ) (before after : List ℕ) (xs ys : List (CallKind × Answer)) → QueueSteps mode capacity before (xs ++ ys) after → (mid : List ℕ) × QueueSteps mode capacity before xs mid × QueueSteps mode capacity mid ys after
steps_split mode capacity before after [] ys steps = (before, refl, steps)
steps_split mode capacity before after (c ∷ xs) ys (next, step, steps) =
    let (mid, first, rest) = steps_split mode capacity next after xs ys steps in (mid, (next, step, first), rest)
