-- Masks as sets of numbers.
use Rattle.std.proofs.Common.{ne_eqb, ◌≡◌, ◌∙◌, ℕ, ◌+◌, ◌-◌, ◌*◌, ◌%◌, ◌^◌, ◌≤◌, ◌<◌, ◌⊎◌, inl, inr, true, false, ◌||◌, ◌==◌, List, length, Option, None, Some, nat_le, refl, sym, ap, subst, arith}
use Rattle.std.specs.Prelude.{bit_or, IfNone, IfSome, IsTrue}
use Rattle.std.specs.Int.{bit_at}
use Rattle.std.proofs.lemmas.Bool.{cases_eq, cases_lt, eqb-true, eq-eqb, le-leb, lt-leb}
use Rattle.std.proofs.Math.Nat.{mod-eq_of_lt}
use Rattle.std.proofs.Math.Pow.{pow-lt}
use Rattle.std.proofs.lemmas.List.{get_or_past}
use Rattle.std.proofs.lemmas.Nat.Bits.{bit_at-pow_same, bit_at-pow_other}
use Rattle.tso_foot.proofs.BitLemmas.{both_in, has_array-or, le_in, left_in, none_in, right_in, same_masks}
use Rattle.tso_choose.specs.Closures.{GoesBefore, has_bit, needs_at, size, smaller, IsClosed, IsClosure, IsIn, IsSmallest}

-- the numbers of a union
pub has_bit-or : (a b k : ℕ) → has_bit (bit_or a b) k ≡ (has_bit a k || has_bit b k)
has_bit-or a b k = has_array-or a b k

-- ---- one round: the set with what its first members need

pub record IsRound (needs : List ℕ) (set upto all : ℕ) : Type 0 where
  pub more : IsIn set all
  pub needed : (k : ℕ) → k < upto → IsTrue (has_bit set k) → IsIn (needs_at needs k) all
  pub least : (other : ℕ) → IsIn set other → IsClosed needs other → IsIn all other

needed_next : (needs : List ℕ) (set all next i : ℕ) → IsIn all next → ((k : ℕ) → k < i → IsTrue (has_bit set k) → IsIn (needs_at needs k) all)
    → (IsTrue (has_bit set i) → IsIn (needs_at needs i) next) → (k : ℕ) → k < i + 1 → IsTrue (has_bit set k) → IsIn (needs_at needs k) next
needed_next needs set all next i more before own k lt h = elim (cases_lt k i) [
  | inl less ↦ λ n e. more n (before k less h n e)
  | inr ge ↦ let same : k ≡ i = omega (arith, lt, ge) in subst (λ x. IsTrue (has_bit set x) → IsIn (needs_at needs x) next) (sym same) own h
]

pub round_taken : (needs : List ℕ) (set i all : ℕ) → IsRound needs set i all → IsTrue (has_bit set i) → IsRound needs set (i + 1) (bit_or all (needs_at needs i))
round_taken needs set i all r there =
    let own = needs_at needs i in
    record {
      more = λ k h. left_in all own k (r.more k h);
      needed = needed_next needs set all (bit_or all own) i (left_in all own) r.needed (λ h. right_in all own);
      least = λ other f g. both_in all own other (r.least other f g) (g i (f i there));
    }

pub round_skipped : (needs : List ℕ) (set i all : ℕ) → IsRound needs set i all → (IsTrue (has_bit set i) → ⊥) → IsRound needs set (i + 1) all
round_skipped needs set i all r out = record {
  more = r.more;
  needed = needed_next needs set all all i (λ k h. h) r.needed (λ h. absurd (out h));
  least = r.least;
}

pub needed_all : (needs : List ℕ) (set all : ℕ) → ((k : ℕ) → k < length needs → IsTrue (has_bit set k) → IsIn (needs_at needs k) all)
    → (k : ℕ) → IsTrue (has_bit set k) → IsIn (needs_at needs k) all
needed_all needs set all before k h = elim (cases_lt k (length needs)) [
  | inl less ↦ before k less h
  | inr ge ↦ subst (λ n. IsIn n all) (sym (get_or_past needs k 0 ge)) (none_in all)
]

-- the test of a bit
pub bit_is : (set k r : ℕ) → bit_at set k ≡ r → (r ≡ 1 → IsTrue (has_bit set k)) × ((r ≡ 1 → ⊥) → IsTrue (has_bit set k) → ⊥)
bit_is set k r is = (λ one. eq-eqb (bit_at set k) 1 (is ∙ one), λ out h. out (sym is ∙ eqb-true (bit_at set k) 1 h))

-- ---- the first set

power_below : (k : ℕ) → k < 16 → 1 * 2 ^ k % 65536 ≡ 2 ^ k
power_below k lt = let less : 2 ^ k < 65536 = pow-lt lt in ap (λ n. n % 65536) (omega arith) ∙ mod-eq_of_lt less

pub has_only : (k : ℕ) → k < 16 → IsTrue (has_bit (1 * 2 ^ k % 65536) k)
has_only k lt = eq-eqb (bit_at (1 * 2 ^ k % 65536) k) 1 (ap (λ n. bit_at n k) (power_below k lt) ∙ bit_at-pow_same k)

pub only_in : (k set : ℕ) → k < 16 → IsTrue (has_bit set k) → IsIn (1 * 2 ^ k % 65536) set
only_in k set lt h i e = elim (cases_eq i k) [
  | inl same ↦ subst (λ n. IsTrue (has_bit set n)) (sym same) h
  | inr other ↦
      let zero_bit : bit_at (1 * 2 ^ k % 65536) i ≡ 0 = ap (λ n. bit_at n i) (power_below k lt) ∙ bit_at-pow_other k i other in
      let one_bit : bit_at (1 * 2 ^ k % 65536) i ≡ 1 = eqb-true _ 1 e in
      absurd (omega (arith, zero_bit, one_bit))
]

-- a set that grows is a larger number
pub less_room : (a b : ℕ) → IsIn a b → (b ≡ a → ⊥) → b < 65536 → 65536 - b < 65536 - a
less_room a b f other lt = let le = le_in a b f in elim (cases_lt a b) [
  | inl less ↦ omega (arith, less, lt)
  | inr ge ↦ absurd (other (omega (arith, le, ge)))
]

-- ---- closures

-- a number has one closure
pub same_closure : (needs : List ℕ) (k a b : ℕ) → IsClosure needs k a → IsClosure needs k b → a ≡ b
same_closure needs k a b f g = same_masks a b (f.least b g.has g.closed) (g.least a f.has f.closed)

-- the best closure of the numbers below a bound, if there is one
pub record IsBestOf (needs : List ℕ) (numbers upto set : ℕ) : Type 0 where
  pub number : ℕ
  pub below : number < upto
  pub has : IsTrue (has_bit numbers number)
  pub closure : IsClosure needs number set
  pub first : (j other : ℕ) → j < upto → IsTrue (has_bit numbers j) → IsClosure needs j other → GoesBefore set number other j

abbrev pub IsBest : List ℕ → ℕ → ℕ → Option ℕ → Type 0
IsBest needs numbers upto None = (k : ℕ) → k < upto → IsTrue (has_bit numbers k) → ⊥
IsBest needs numbers upto (Some set) = IsBestOf needs numbers upto set

pub best_none : (needs : List ℕ) (numbers : ℕ) → IsBest needs numbers 0 None
best_none needs numbers k lt = absurd (omega (arith, lt))

-- a number that is not one of these changes nothing
pub best_skipped : (needs : List ℕ) (numbers i : ℕ) (best : Option ℕ) → IsBest needs numbers i best → (IsTrue (has_bit numbers i) → ⊥) → IsBest needs numbers (i + 1) best
best_skipped needs numbers i None b out = λ k lt h. elim (cases_lt k i) [
  | inl less ↦ b k less h
  | inr ge ↦ out (subst (λ n. IsTrue (has_bit numbers n)) (let at : k ≡ i = omega (arith, lt, ge) in at) h)
]
best_skipped needs numbers i (Some set) b out = record {
  number = b.number;
  below = omega (arith, b.below);
  has = b.has;
  closure = b.closure;
  first = λ j other lt h f. elim (cases_lt j i) [
    | inl less ↦ b.first j other less h f
    | inr ge ↦ absurd (out (subst (λ n. IsTrue (has_bit numbers n)) (let at : j ≡ i = omega (arith, lt, ge) in at) h))
  ];
}

pub best_taken : (needs : List ℕ) (numbers i set : ℕ) (best : Option ℕ) → IsBest needs numbers i best → IsTrue (has_bit numbers i) → IsClosure needs i set
    → IsBestOf needs numbers (i + 1) (smaller best set)
best_taken needs numbers i set None b has f = record {
  number = i;
  below = omega arith;
  has = has;
  closure = f;
  first = λ j other lt h g. elim (cases_lt j i) [
    | inl less ↦ absurd (b j less h)
    | inr ge ↦
        let at : j ≡ i = omega (arith, lt, ge) in
        let same : set ≡ other = same_closure needs i set other f (subst (λ n. IsClosure needs n other) at g) in
        inr (ap size same, omega (arith, ge))
  ];
}
best_taken needs numbers i set (Some old) b has f = go (cases_lt (size set) (size old))
  where
    at_last : (j other : ℕ) → j < i + 1 → i ≤ j → IsClosure needs j other → set ≡ other
    at_last j other lt ge g = same_closure needs i set other f (subst (λ n. IsClosure needs n other) (let at : j ≡ i = omega (arith, lt, ge) in at) g)

    go : (size set < size old) ⊎ (size old ≤ size set) → IsBestOf needs numbers (i + 1) (smaller (Some old) set)
    go (inl less) = let no : nat_le (size old) (size set) ≡ false = lt-leb _ _ less in rw no (record {
      number = i;
      below = omega arith;
      has = has;
      closure = f;
      first = λ j other lt h g. elim (cases_lt j i) [
        | inl before ↦ elim (b.first j other before h g) [
          | inl smaller_one ↦ inl (omega (arith, less, smaller_one))
          | inr tie ↦ inl (omega (arith, less, tie.0))
        ]
        | inr ge ↦ inr (ap size (at_last j other lt ge g), omega (arith, ge))
      ];
    })
    go (inr le) = let yes : nat_le (size old) (size set) ≡ true = le-leb _ _ le in rw yes (record {
      number = b.number;
      below = omega (arith, b.below);
      has = b.has;
      closure = b.closure;
      first = λ j other lt h g. elim (cases_lt j i) [
        | inl before ↦ b.first j other before h g
        | inr ge ↦
            let same = ap size (at_last j other lt ge g) in
            elim (cases_lt (size old) (size other)) [
              | inl less ↦ inl less
              | inr more ↦ inr (omega (arith, le, same, more), omega (arith, b.below, ge))
            ]
      ];
    })

-- over all numbers
pub only_best : (needs : List ℕ) (numbers upto : ℕ) (best : Option ℕ) → IsBest needs numbers upto best → ((j : ℕ) → IsTrue (has_bit numbers j) → j < upto) → IfSome best (IsSmallest needs numbers)
only_best needs numbers upto None b within = tt
only_best needs numbers upto (Some set) b within = record {
  number = b.number;
  has = b.has;
  closure = b.closure;
  first = λ j other h f. b.first j other (within j h) h f;
}

pub no_best : (needs : List ℕ) (numbers upto : ℕ) (best : Option ℕ) → IsBest needs numbers upto best → ((j : ℕ) → IsTrue (has_bit numbers j) → j < upto) → IfNone best ((k : ℕ) → IsTrue (has_bit numbers k) → ⊥)
no_best needs numbers upto None b within = λ k h. b k (within k h) h
no_best needs numbers upto (Some set) b within = tt

-- ---- one number more

pub has_one : (n k : ℕ) → n < 16 → has_bit (1 * 2 ^ n % 65536) k ≡ (k == n)
has_one n k lt = elim (cases_eq k n) [
  | inl same ↦ subst (λ x. has_bit (1 * 2 ^ n % 65536) x ≡ (x == n)) (sym same) (has_only n lt ∙ sym (eq-eqb n n refl))
  | inr other ↦
      let zero_bit : bit_at (1 * 2 ^ n % 65536) k ≡ 0 = ap (λ x. bit_at x k) (power_below n lt) ∙ bit_at-pow_other n k other in
      ap (λ x. x == 1) zero_bit ∙ sym (ne_eqb k n other)
]

pub has_bit-with : (set n k : ℕ) → n < 16 → has_bit (bit_or set (1 * 2 ^ n % 65536)) k ≡ (has_bit set k || (k == n))
has_bit-with set n k lt = has_bit-or set (1 * 2 ^ n % 65536) k ∙ ap (λ x. has_bit set k || x) (has_one n k lt)
