-- Choices and entries of an order: what is read is spelled so, and what is spelled so is read.
use Rattle.std.proofs.Common.{◌≡◌, ℕ, zero, suc, ◌+◌, ◌*◌, ◌/◌, ◌%◌, ◌^◌, ◌<◌, ◌≤◌, Bool, true, false, cond, eqb, List, [], ◌∷◌, ◌++◌, Some, refl, sym, ap, subst, ◌∙◌, append_assoc, add-one, arith, inl, inr, ◌⊎◌}
use Rattle.std.proofs.lemmas.Bool.{cases_lt, eqb-true}
use Rattle.std.proofs.lemmas.Nat.{pow-add}
use Rattle.tso_indep.specs.declared.reason.Reason.{Reason}
use Rattle.tso_indep.specs.declared.reason.Reason.TheVariants.{Own, Far, Inside, Buffer, Return, NoReturn}
use Rattle.tso_state.specs.Actors.{number_of, thread_of}
use Rattle.tso_state.specs.declared.actor.Actor.{Actor}
use Rattle.tso_state.specs.declared.actor.Actor.TheVariants.{Exec, Drain}
use Rattle.tso_code.specs.Ends.{actor_of, actor_at, ActorFits, reason, reason_at, ReasonFits, choice, choice_at, ChoiceFits, placed, placed_at, PlacedFits}
use Rattle.tso_code.specs.Numbers.{digits, number}
use Rattle.tso_code.proofs.Codes.{IsCode, two, three, list_code}
use Rattle.tso_code.proofs.DigitLemmas.{digits_last, digits_more}
use Rattle.tso_code.proofs.NumberCode.{word_code}
use Rattle.tso_code.proofs.StateCodes.{held, answer_code}

-- ---- how an actor's number is written

-- one byte more than there has to be room for changes nothing
digits_enough : (k n : ℕ) → n < 2 ^ (7 * k + 7) → digits k n ≡ digits (suc k) n
digits_enough zero n lt = digits_last 0 n (omega arith) ∙ sym (digits_last 1 n (omega arith))
digits_enough (suc j) n lt =
    let e : 7 * suc j + 7 ≡ 7 + (7 * j + 7) = omega arith in
    let p : 2 ^ (7 * suc j + 7) ≡ 128 * 2 ^ (7 * j + 7) = ap (λ (k : ℕ). 2 ^ k) e ∙ pow-add 2 7 (7 * j + 7) in
    elim (cases_lt n 128) [
      | inl small ↦ digits_last (suc j) n small ∙ sym (digits_last (suc (suc j)) n small)
      | inr large ↦ digits_more j n large ∙ ap (λ (ds : List ℕ). (n % 128 + 128) ∷ ds) (digits_enough j (n / 128) (omega arith)) ∙ sym (digits_more (suc j) n large)
    ]

number_more : (n : ℕ) → 128 ≤ n → n < 2 ^ 70 → number n ≡ (n % 128 + 128) ∷ number (n / 128)
unfolding number
number_more n le lt = digits_more 8 n le ∙ ap (λ (ds : List ℕ). (n % 128 + 128) ∷ ds) (digits_enough 8 (n / 128) (omega arith))

high_is : (a : Actor) → number_of a / 128 ≡ thread_of a / 64
high_is (Exec i) = omega arith
high_is (Drain i) = omega arith

number_below : (a : Actor) → thread_of a < 2 ^ 64 → number_of a < 2 ^ 65
number_below (Exec i) lt = omega arith
number_below (Drain i) lt = omega arith

pub small_actor : (a : Actor) (low high : ℕ) → low ≡ number_of a % 128 → high ≡ thread_of a / 64 → high ≡ 0 → number (number_of a) ≡ low ∷ []
unfolding number
small_actor a low high l h none =
    let e = high_is a in
    let lt : number_of a < 128 = omega (arith, e, h, none) in
    let same : number_of a ≡ low = omega (arith, l, lt) in
    digits_last 9 (number_of a) lt ∙ ap (λ (n : ℕ). n ∷ []) same

pub large_actor : (a : Actor) (low high : ℕ) → low ≡ number_of a % 128 → high ≡ thread_of a / 64 → thread_of a < 2 ^ 64 → (high ≡ 0 → ⊥) → number (number_of a) ≡ (low + 128) ∷ number high
large_actor a low high l h word some =
    let e = high_is a in
    let b = number_below a word in
    let le : 128 ≤ number_of a = omega (arith, e, h, some) in
    let same : number_of a / 128 ≡ high = e ∙ sym h in
    number_more (number_of a) le (omega (arith, b)) ∙ ap (λ (n : ℕ). (n + 128) ∷ number (number_of a / 128)) (sym l) ∙ ap (λ (n : ℕ). (low + 128) ∷ number n) same

-- ---- choices

actor_back : (a : Actor) → actor_of (number_of a) ≡ a
actor_back (Exec i) =
    let even : eqb ((2 * i) % 2) 0 ≡ true = let e : (2 * i) % 2 ≡ 0 = omega arith in rw e refl in
    let half : (2 * i) / 2 ≡ i = omega arith in
    rw (even, half) refl
actor_back (Drain i) =
    let odd : eqb ((2 * i + 1) % 2) 0 ≡ false = let e : (2 * i + 1) % 2 ≡ 1 = omega arith in rw e refl in
    let half : (2 * i + 1) / 2 ≡ i = omega arith in
    rw (odd, half) refl

one_of : (m : ℕ) → m < 2 → eqb m 0 ≡ false → m ≡ 1
one_of zero lt e = absurd cc
one_of (suc zero) lt e = refl
one_of (suc (suc m)) lt e = absurd (omega arith)

actor_there : (n : ℕ) → number_of (actor_of n) ≡ n
actor_there n = by_test (eqb (n % 2) 0) refl
  where
    by_test : (b : Bool) → eqb (n % 2) 0 ≡ b → number_of (cond b (Exec (n / 2)) (Drain (n / 2))) ≡ n
    by_test true e = let even : n % 2 ≡ 0 = eqb-true (n % 2) 0 e in omega (arith, even)
    by_test false e = let odd : n % 2 ≡ 1 = one_of (n % 2) (omega arith) e in omega (arith, odd)

actor_code : IsCode ActorFits (λ a. number (number_of a)) actor_at
unfolding actor_at
actor_code = record {
  takes = λ bytes x e.
      let h = held word_code actor_of bytes x e in
      let n : number_of x.0 ≡ h.0 = ap number_of h.1 ∙ actor_there h.0 in
      (h.2 ∙ ap (λ (k : ℕ). number k ++ x.1) (sym n), omega (arith, n, h.3));
  again = λ a rest fits. rw (word_code.again (number_of a) rest fits) (ap (λ (y : Actor). Some (y, rest)) (actor_back a));
}

reason_take : (bytes : List ℕ) (x : Reason × List ℕ) → reason_at bytes ≡ Some x → (bytes ≡ reason x.0 ++ x.1) × ReasonFits x.0
unfolding reason_at
reason_take [] x e = absurd cc
reason_take (zero ∷ rest) x e = let made : Reason × List ℕ = (Own, rest) in let is : made ≡ x = cc in subst (λ (y : Reason × List ℕ). (0 ∷ rest ≡ reason y.0 ++ y.1) × ReasonFits y.0) is (refl, tt)
reason_take (suc zero ∷ rest) x e = let made : Reason × List ℕ = (Far, rest) in let is : made ≡ x = cc in subst (λ (y : Reason × List ℕ). (1 ∷ rest ≡ reason y.0 ++ y.1) × ReasonFits y.0) is (refl, tt)
reason_take (suc (suc zero) ∷ rest) x e = let made : Reason × List ℕ = (Inside, rest) in let is : made ≡ x = cc in subst (λ (y : Reason × List ℕ). (2 ∷ rest ≡ reason y.0 ++ y.1) × ReasonFits y.0) is (refl, tt)
reason_take (suc (suc (suc zero)) ∷ rest) x e = let made : Reason × List ℕ = (Buffer, rest) in let is : made ≡ x = cc in subst (λ (y : Reason × List ℕ). (3 ∷ rest ≡ reason y.0 ++ y.1) × ReasonFits y.0) is (refl, tt)
reason_take (suc (suc (suc (suc zero))) ∷ rest) x e = let made : Reason × List ℕ = (Return, rest) in let is : made ≡ x = cc in subst (λ (y : Reason × List ℕ). (4 ∷ rest ≡ reason y.0 ++ y.1) × ReasonFits y.0) is (refl, tt)
reason_take (suc (suc (suc (suc (suc zero)))) ∷ rest) x e = let made : Reason × List ℕ = (NoReturn, rest) in let is : made ≡ x = cc in subst (λ (y : Reason × List ℕ). (5 ∷ rest ≡ reason y.0 ++ y.1) × ReasonFits y.0) is (refl, tt)
reason_take (suc (suc (suc (suc (suc (suc b))))) ∷ rest) x e = absurd cc

reason_again : (r : Reason) (rest : List ℕ) → ReasonFits r → reason_at (reason r ++ rest) ≡ Some (r, rest)
unfolding reason_at
reason_again Own rest fits = refl
reason_again Far rest fits = refl
reason_again Inside rest fits = refl
reason_again Buffer rest fits = refl
reason_again Return rest fits = refl
reason_again NoReturn rest fits = refl

reason_code : IsCode ReasonFits reason reason_at
reason_code = record { takes = reason_take; again = reason_again }

pub choice_code : IsCode ChoiceFits choice choice_at
unfolding choice_at
choice_code = two actor_code (list_code word_code reason_code) (λ actor reasons. record { actor = actor; reasons = reasons }) (λ c. c.actor) (λ c. c.reasons) (λ x. refl) (λ p q. refl) (λ p q. refl)

-- ---- orders

pub placed_code : IsCode PlacedFits placed placed_at
unfolding placed_at
placed_code = three word_code word_code answer_code (λ thread call answer. record { thread = thread; call = call; answer = answer })
    (λ o. o.thread) (λ o. o.call) (λ o. o.answer) (λ x. refl) (λ y z w. refl) (λ y z w. refl) (λ y z w. refl)
