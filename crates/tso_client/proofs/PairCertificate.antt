-- The kept states are a certificate of the pair.
use Rattle.std.proofs.Common.{◌≡◌, ℕ, zero, suc, true, List, [], ◌∷◌, get_or, Some, None, ◌⊎◌, inl, inr, slice_get, refl, sym, ◌∙◌, ap, subst, arith}
use Rattle.std.proofs.lemmas.Option.{none-some, same_Some}
use Rattle.tso_model.specs.Certificate.{IsCertificate}
use Rattle.tso_model.specs.Faults.{IsStoppedIn}
use Rattle.tso_model.specs.Linear.{IsOrder, Placed, Precedes, call_at}
use Rattle.tso_model.specs.Objects.{Queue, Weak}
use Rattle.tso_model.specs.Programs.{Answer, Done, Pop, Push, Refused}
use Rattle.tso_model.specs.Reduce.{Has, Over}
use Rattle.tso_model.specs.States.{Called, CompactThread, Resting, State}
use Rattle.tso_model.specs.Steps.{Actor, Drains, Exec, step}
use Rattle.tso_model.proofs.Theorems.{every_run_is_good}
use Rattle.tso_client.specs.Small.{EveryPairRunIsGood, Frame, pair}
use Rattle.tso_client.proofs.Frames.{rank, ranked, sound}
use Rattle.tso_client.proofs.OneOf.{Each, each, one_has}
use Rattle.tso_client.proofs.PairChoices.{Choices, W, all_choices, all_well, kept, masks, masks_closed}
use Rattle.tso_client.proofs.PairStates.{a0, a1, a2, a3, a4, a5, a6, a7, b1, b2, b3, b4, b5, b6, b7, popped, pushed, states}

of_kept : (P : State Frame → Type 0) → Each P states → (s : State Frame) → kept s ≡ true → P s
of_kept P ps s k = each P states s ps (one_has states s k)

-- THE ENDS

-- the push and the pop, as an order has them
abbrev the_push : Placed
the_push = record { thread = 0; number = 0; kind = Push 7; answer = Done }

abbrev the_pop : Placed
the_pop = record { thread = 1; number = 0; kind = Pop; answer = Refused }

-- in the first, the push was before the pop
complete_a7 : (thread number : ℕ) (c : Called) (a : Answer) → call_at a7.history thread number ≡ Some c → c.answer ≡ Some a → Has (the_push ∷ the_pop ∷ []) (record { thread = thread; number = number; kind = c.kind; answer = a })
complete_a7 zero zero c a at is =
    let q : pushed 0 ≡ c = same_Some (pushed 0) c at in
    let r : Done ≡ a = same_Some Done a (ap (λ (x : Called). x.answer) q ∙ is) in
    inl (λ i. record { thread = 0; number = 0; kind = (q i).kind; answer = r i })
complete_a7 (suc zero) zero c a at is =
    let q : popped 1 ≡ c = same_Some (popped 1) c at in
    let r : Refused ≡ a = same_Some Refused a (ap (λ (x : Called). x.answer) q ∙ is) in
    inr (inl (λ i. record { thread = 1; number = 0; kind = (q i).kind; answer = r i }))
complete_a7 zero (suc n) c a at is = absurd (none-some c at)
complete_a7 (suc zero) (suc n) c a at is = absurd (none-some c at)
complete_a7 (suc (suc t)) n c a at is = absurd (none-some c at)

late_pop : Precedes a7.history 1 0 0 0 → ⊥
late_pop (c, at, lt) = let q = ap (λ (x : Called). get_or x.seen 1 0) (same_Some (pushed 0) c at) in omega (arith, q, lt)

only_pop : (y : Placed) → Has (the_pop ∷ []) y → Precedes a7.history y.thread y.number 0 0 → ⊥
only_pop y (inl e) = subst (λ (o : Placed). Precedes a7.history o.thread o.number 0 0 → ⊥) e late_pop
only_pop y (inr none) = absurd none

order_a7 : IsOrder (Queue Weak 1) a7.history (the_push ∷ the_pop ∷ [])
order_a7 = record {
  once = ((λ y h. elim h [ inl e ↦ (λ t n. (let z = ap (λ (o : Placed). o.thread) e in absurd (omega (arith, z, t)))) | inr none ↦ absurd none ]), ((λ y h. absurd h), tt));
  begun = λ o h. each (λ o. (c : Called) × (call_at a7.history o.thread o.number ≡ Some c) × (c.kind ≡ o.kind) × ((c.answer ≡ None) ⊎ (c.answer ≡ Some o.answer))) (the_push ∷ the_pop ∷ []) o
      ((pushed 0, refl, refl, inr refl), ((popped 1, refl, refl, inr refl), tt)) h;
  complete = complete_a7;
  in_order = (only_pop, ((λ y h. absurd h), tt));
  allowed = (7 ∷ [], (7 ∷ [], (omega arith, refl), (7 ∷ [], (tt, refl), refl)));
}

-- in the other, the pop was before the push
complete_b7 : (thread number : ℕ) (c : Called) (a : Answer) → call_at b7.history thread number ≡ Some c → c.answer ≡ Some a → Has (the_pop ∷ the_push ∷ []) (record { thread = thread; number = number; kind = c.kind; answer = a })
complete_b7 zero zero c a at is =
    let q : pushed 1 ≡ c = same_Some (pushed 1) c at in
    let r : Done ≡ a = same_Some Done a (ap (λ (x : Called). x.answer) q ∙ is) in
    inr (inl (λ i. record { thread = 0; number = 0; kind = (q i).kind; answer = r i }))
complete_b7 (suc zero) zero c a at is =
    let q : popped 0 ≡ c = same_Some (popped 0) c at in
    let r : Refused ≡ a = same_Some Refused a (ap (λ (x : Called). x.answer) q ∙ is) in
    inl (λ i. record { thread = 1; number = 0; kind = (q i).kind; answer = r i })
complete_b7 zero (suc n) c a at is = absurd (none-some c at)
complete_b7 (suc zero) (suc n) c a at is = absurd (none-some c at)
complete_b7 (suc (suc t)) n c a at is = absurd (none-some c at)

late_push : Precedes b7.history 0 0 1 0 → ⊥
late_push (c, at, lt) = let q = ap (λ (x : Called). get_or x.seen 0 0) (same_Some (popped 0) c at) in omega (arith, q, lt)

only_push : (y : Placed) → Has (the_push ∷ []) y → Precedes b7.history y.thread y.number 1 0 → ⊥
only_push y (inl e) = subst (λ (o : Placed). Precedes b7.history o.thread o.number 1 0 → ⊥) e late_push
only_push y (inr none) = absurd none

order_b7 : IsOrder (Queue Weak 1) b7.history (the_pop ∷ the_push ∷ [])
order_b7 = record {
  once = ((λ y h. elim h [ inl e ↦ (λ t n. (let z = ap (λ (o : Placed). o.thread) e in absurd (omega (arith, z, t)))) | inr none ↦ absurd none ]), ((λ y h. absurd h), tt));
  begun = λ o h. each (λ o. (c : Called) × (call_at b7.history o.thread o.number ≡ Some c) × (c.kind ≡ o.kind) × ((c.answer ≡ None) ⊎ (c.answer ≡ Some o.answer))) (the_pop ∷ the_push ∷ []) o
      ((popped 0, refl, refl, inr refl), ((pushed 1, refl, refl, inr refl), tt)) h;
  complete = complete_b7;
  in_order = (only_push, ((λ y h. absurd h), tt));
  allowed = (7 ∷ [], ([], (tt, refl), (7 ∷ [], (omega arith, refl), refl)));
}

-- each kept state that is an end
abbrev Ends : State Frame → Type 0
Ends s = Over (step pair) s → ((i : ℕ) → IsStoppedIn s i → ⊥) × ((o : List Placed) × IsOrder (Queue Weak 1) s.history o)

goes_on : (s : State Frame) (c : Actor) (t : State Frame) → step pair s c ≡ Some t → Ends s
goes_on s c t goes over = absurd (none-some t (sym (over c) ∙ goes))

none_stopped : (s : State Frame) → Each (λ (t : CompactThread Frame). t.core ≡ Resting) s.threads → (i : ℕ) → IsStoppedIn s i → ⊥
none_stopped s all i (t, at, is) = let q = each_at s.threads all i t at in cc
  where
    each_at : (ts : List (CompactThread Frame)) → Each (λ (t : CompactThread Frame). t.core ≡ Resting) ts → (i : ℕ) (t : CompactThread Frame) → slice_get ts i ≡ Some t → t.core ≡ Resting
    each_at [] x i t at = absurd (none-some t at)
    each_at (u ∷ ts) x zero t at = ap (λ (v : CompactThread Frame). v.core) (sym (same_Some u t at)) ∙ x.0
    each_at (u ∷ ts) x (suc i) t at = each_at ts x.1 i t at

all_ends : Each Ends states
all_ends = (
  goes_on a0 (Exec 0) _ refl,
  (
    goes_on a1 (Exec 0) _ refl,
    (
      goes_on a2 (Exec 0) _ refl,
      (
        goes_on a3 (Exec 1) _ refl,
        (
          goes_on a4 (Exec 1) _ refl,
          (
            goes_on a5 (Exec 1) _ refl,
            (
              goes_on a6 (Drains 0) _ refl,
              (
                (λ over. (none_stopped a7 (refl, (refl, tt)), (the_push ∷ the_pop ∷ [], order_a7))),
                (goes_on b1 (Exec 1) _ refl, (goes_on b2 (Exec 1) _ refl, (goes_on b3 (Exec 0) _ refl, (goes_on b4 (Exec 0) _ refl, (goes_on b5 (Exec 0) _ refl, (goes_on b6 (Drains 0) _ refl, ((λ over. (none_stopped b7 (refl, (refl, tt)), (the_pop ∷ the_push ∷ [], order_b7))), tt))))))),
              ),
            ),
          ),
        ),
      ),
    ),
  ),
)

certificate : IsCertificate pair (0 ∷ 0 ∷ []) sound masks (Queue Weak 1) kept
certificate = record {
  closed = masks_closed;
  has_initial = refl;
  well_formed = of_kept W all_well;
  choices = λ s s' a k e. of_kept Choices all_choices s k s' a e;
  unstopped = λ s i k over. (of_kept Ends all_ends s k over).0 i;
  orders = λ s k over. (of_kept Ends all_ends s k over).1;
}

pub every_pair_run_is_good : EveryPairRunIsGood
every_pair_run_is_good ls m run = every_run_is_good Frame pair (0 ∷ 0 ∷ []) sound rank masks (Queue Weak 1) kept (ranked 1 _ _ 2 (omega arith)) certificate ls m run
