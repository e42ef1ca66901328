-- The conditions after a comparison.
use Rattle.std.proofs.Common.{◌≡◌, ◌≢◌, ℕ, ◌+◌, ◌-◌, ◌*◌, ◌^◌, ◌<◌, ◌≤◌, ◌⊎◌, inl, inr, Bool, true, false, not, ◌&&◌, ◌||◌, nat_le, nat_lt, refl, sym, ap, arith, ◌==◌}
use Rattle.std.specs.Prelude.{◌↔◌, ℤ, pos, ◌+ℤ◌, ◌-ℤ◌, ◌<ℤ◌, ◌≤ℤ◌, bit_and, int_lt}
use Rattle.std.proofs.lemmas.Bool.{eqb-false, eqb-true, le-leb, le-ltb, lt-ltb, cases_lt}
use Rattle.std.proofs.lemmas.Bool.Decides.{eqb_tells, leb_tells}
use Rattle.std.proofs.lemmas.Int.{by_lt_z, ints}
use Rattle.tso_word.specs.declared.BitOperation.TheVariants.{And}
use Rattle.tso_word.specs.Word.{bitwise_flags, differ, difference, difference_flags, leaves_signed, signed}
use Rattle.tso_client.specs.Comparisons.{Compares, Tests}

lt_true : (a b : ℤ) → a <ℤ b → int_lt a b ≡ true
lt_true a b h = grind (arith, ints)

lt_false : (a b : ℤ) → b ≤ℤ a → int_lt a b ≡ false
lt_false a b h = grind (arith, ints)

-- ---- a word as a signed number, and a difference

-- less than zero by a whole number of times 2^64
record IsSigned (x : ℕ) (s : ℤ) : Type 0 where
  times : ℕ
  is : s +ℤ pos (2 ^ 64 * times) ≡ pos x
  low : (pos 0 -ℤ pos (2 ^ 63)) ≤ℤ s
  high : s <ℤ pos (2 ^ 63)

signed_is : (x : ℕ) → x < 2 ^ 64 → IsSigned x (signed x)
signed_is x small = elim (cases_lt x (2 ^ 63)) [
  | inl lt ↦ rw (lt-ltb x (2 ^ 63) lt) (record { times = 0; is = omega (arith, ints); low = omega (arith, ints); high = omega (arith, ints) })
  | inr le ↦ rw (le-ltb x (2 ^ 63) le) (record { times = 1; is = omega (arith, ints); low = omega (arith, ints); high = omega (arith, ints) })
]

record IsDifference (x y d : ℕ) : Type 0 where
  times : ℕ
  is : d + y ≡ x + 2 ^ 64 * times
  small : d < 2 ^ 64

difference_is : (x y : ℕ) → x < 2 ^ 64 → y < 2 ^ 64 → IsDifference x y (difference x y)
difference_is x y small small' = elim (cases_lt x y) [
  | inl lt ↦ record { times = 1; is = omega arith; small = omega arith }
  | inr le ↦ record { times = 0; is = omega arith; small = omega arith }
]

-- ---- signed comparison

abbrev Tells : Bool → Type 0 → Type 0 → Type 0
Tells b P Q = ((b ≡ true) × P) ⊎ ((b ≡ false) × Q)

leaves_below : (z : ℤ) → z <ℤ (pos 0 -ℤ pos (2 ^ 63)) → leaves_signed z ≡ true
leaves_below z h = rw (lt_true z (pos 0 -ℤ pos (2 ^ 63)) h) refl

leaves_above : (z : ℤ) → (pos 0 -ℤ pos (2 ^ 63)) ≤ℤ z → pos (2 ^ 63 - 1) <ℤ z → leaves_signed z ≡ true
leaves_above z g h = rw (lt_false z (pos 0 -ℤ pos (2 ^ 63)) g, lt_true (pos (2 ^ 63 - 1)) z h) refl

stays : (z : ℤ) → (pos 0 -ℤ pos (2 ^ 63)) ≤ℤ z → z ≤ℤ pos (2 ^ 63 - 1) → leaves_signed z ≡ false
stays z g h = rw (lt_false z (pos 0 -ℤ pos (2 ^ 63)) g, lt_false (pos (2 ^ 63 - 1)) z h) refl

module _ (x y d : ℕ) (s t : ℤ) (xs : IsSigned x s) (yt : IsSigned y t) (diff : IsDifference x y d) where
  abbrev Less : Type 0
  Less = Tells (differ (nat_le (2 ^ 63) d) (leaves_signed (s -ℤ t))) (s <ℤ t) (t ≤ℤ s)

  high_out : 2 ^ 63 ≤ d → leaves_signed (s -ℤ t) ≡ true → t ≤ℤ s → Less
  high_out big out h = inr (rw (le-leb (2 ^ 63) d big, out) refl, h)

  high_in : 2 ^ 63 ≤ d → leaves_signed (s -ℤ t) ≡ false → s <ℤ t → Less
  high_in big out h = inl (rw (le-leb (2 ^ 63) d big, out) refl, h)

  not_high : d < 2 ^ 63 → nat_le (2 ^ 63) d ≡ false
  not_high lt = grind (arith, leb_tells)

  low_out : d < 2 ^ 63 → leaves_signed (s -ℤ t) ≡ true → s <ℤ t → Less
  low_out lt out h = inl (rw (not_high lt, out) refl, h)

  low_in : d < 2 ^ 63 → leaves_signed (s -ℤ t) ≡ false → t ≤ℤ s → Less
  low_in lt out h = inr (rw (not_high lt, out) refl, h)

  less : Less
  less =
      let a = xs.is in let b = xs.low in let e = xs.high in let f = yt.is in let g = yt.low in let h = yt.high in let k = diff.is in let l = diff.small in
      elim (cases_lt d (2 ^ 63)) [
        | inl lt ↦
            by_lt_z (s -ℤ t) (pos 0 -ℤ pos (2 ^ 63)) (λ p. low_out lt (leaves_below (s -ℤ t) p) (omega (arith, ints)))
            (λ p. by_lt_z (pos (2 ^ 63 - 1)) (s -ℤ t) (λ q. low_out lt (leaves_above (s -ℤ t) p q) (omega (arith, ints))) (λ q. low_in lt (stays (s -ℤ t) p q) (omega (arith, ints))))
        | inr big ↦
            by_lt_z (s -ℤ t) (pos 0 -ℤ pos (2 ^ 63)) (λ p. high_out big (leaves_below (s -ℤ t) p) (omega (arith, ints)))
            (λ p. by_lt_z (pos (2 ^ 63 - 1)) (s -ℤ t) (λ q. high_out big (leaves_above (s -ℤ t) p q) (omega (arith, ints))) (λ q. high_in big (stays (s -ℤ t) p q) (omega (arith, ints))))
      ]

-- ---- the ten conditions

-- what three tests say of two words
record Facts (x y : ℕ) (z c l : Bool) : Type 0 where
  zero : Tells z (x ≡ y) (x ≢ y)
  carry : Tells c (x < y) (y ≤ x)
  less : Tells l (signed x <ℤ signed y) (signed y ≤ℤ signed x)
  one : x ≡ y → signed x ≡ signed y
  same : signed x ≤ℤ signed y → signed y ≤ℤ signed x → x ≡ y

told : {P Q : Type 0} (b : Bool) → Tells b P Q → b ≡ true → P
told b (inl p) e = p.1
told b (inr q) e = absurd cc

denied : {P Q : Type 0} (b : Bool) → Tells b P Q → b ≡ false → Q
denied b (inl p) e = absurd cc
denied b (inr q) e = q.1

-- a test that holds exactly with a fact
iff : {P : Type 0} (b : Bool) → (b ≡ true → P) → (b ≡ false → P → ⊥) → (b ≡ true) ↔ P
iff true yes_it no_it = ((λ e. yes_it refl), (λ p. refl))
iff false yes_it no_it = ((λ e. absurd cc), (λ p. absurd (no_it refl p)))

iff_not : {P : Type 0} (b : Bool) → (b ≡ false → P) → (b ≡ true → P → ⊥) → (not b ≡ true) ↔ P
iff_not true yes_it no_it = ((λ e. absurd cc), (λ p. absurd (no_it refl p)))
iff_not false yes_it no_it = ((λ e. yes_it refl), (λ p. refl))

iff_or : {P : Type 0} (b d : Bool) → (b ≡ true → P) → (d ≡ true → P) → (b ≡ false → d ≡ false → P → ⊥) → ((b || d) ≡ true) ↔ P
iff_or true d left right neither = ((λ e. left refl), (λ p. refl))
iff_or false true left right neither = ((λ e. right refl), (λ p. refl))
iff_or false false left right neither = ((λ e. absurd cc), (λ p. absurd (neither refl refl p)))

iff_neither : {P : Type 0} (b d : Bool) → (b ≡ false → d ≡ false → P) → (b ≡ true → P → ⊥) → (d ≡ true → P → ⊥) → ((not b && not d) ≡ true) ↔ P
iff_neither true d both left right = ((λ e. absurd cc), (λ p. absurd (left refl p)))
iff_neither false true both left right = ((λ e. absurd cc), (λ p. absurd (right refl p)))
iff_neither false false both left right = ((λ e. both refl refl), (λ p. refl))

not_less : (s t : ℤ) → s <ℤ t → t ≤ℤ s → ⊥
not_less s t p q = omega (arith, ints)

no_less_equal : (s t : ℤ) → s <ℤ t → s ≡ t → ⊥
no_less_equal s t p e = omega (arith, ints)

less_is_at_most : (s t : ℤ) → s <ℤ t → s ≤ℤ t
less_is_at_most s t p = omega (arith, ints)

equal_is_at_most : (s t : ℤ) → s ≡ t → s ≤ℤ t
equal_is_at_most s t e = omega (arith, ints)

apart : (s t : ℤ) → t ≤ℤ s → (s ≤ℤ t → ⊥) → t <ℤ s
apart s t p n = by_lt_z t s (λ q. q) (λ q. absurd (n q))

ten : (x y : ℕ) (z c s o : Bool) → Facts x y z c (differ s o) → Compares x y (record { zf = z; cf = c; sf = s; of = o })
ten x y z c s o f =
    let l = differ s o in record {
      e = iff z (told z f.zero) (λ h p. denied z f.zero h p);
      ne = iff_not z (denied z f.zero) (λ h p. p (told z f.zero h));
      b = iff c (told c f.carry) (λ h p. let k : y ≤ x = denied c f.carry h in absurd (omega arith));
      ae = iff_not c (denied c f.carry) (λ h p. let k : x < y = told c f.carry h in absurd (omega arith));
      be = iff_or c z (λ h. let k : x < y = told c f.carry h in omega arith) (λ h. let k : x ≡ y = told z f.zero h in omega arith)
          (λ h h' p. let k : y ≤ x = denied c f.carry h in let n : x ≢ y = denied z f.zero h' in n (omega arith));
      a = iff_neither c z (λ h h'. let k : y ≤ x = denied c f.carry h in let n : x ≢ y = denied z f.zero h' in omega arith)
          (λ h p. let k : x < y = told c f.carry h in absurd (omega arith)) (λ h p. let k : x ≡ y = told z f.zero h in absurd (omega arith));
      l = iff l (told l f.less) (λ h p. not_less (signed x) (signed y) p (denied l f.less h));
      ge = iff_not l (denied l f.less) (λ h p. not_less (signed x) (signed y) (told l f.less h) p);
      le = iff_or z l (λ h. equal_is_at_most (signed x) (signed y) (f.one (told z f.zero h))) (λ h. less_is_at_most (signed x) (signed y) (told l f.less h))
          (λ h h' p. denied z f.zero h (f.same p (denied l f.less h')));
      g = iff_neither z l (λ h h'. apart (signed x) (signed y) (denied l f.less h') (λ p. denied z f.zero h (f.same p (denied l f.less h'))))
          (λ h p. no_less_equal (signed y) (signed x) p (sym (f.one (told z f.zero h)))) (λ h p. not_less (signed y) (signed x) p (less_is_at_most (signed x) (signed y) (told l f.less h)));
    }

tell_carry : (x y : ℕ) → Tells (nat_lt x y) (x < y) (y ≤ x)
tell_carry x y = elim (cases_lt x y) [ inl lt ↦ inl (lt-ltb x y lt, lt) | inr le ↦ inr (le-ltb x y le, le) ]

tell_zero : (x y : ℕ) → IsDifference x y (difference x y) → x < 2 ^ 64 → y < 2 ^ 64 → Tells (difference x y == 0) (x ≡ y) (x ≢ y)
tell_zero x y d small small' =
    let k = d.is in let l = d.small in
    elim (eqb_tells (difference x y) 0) [ inl p ↦ inl (p.0, let z : difference x y ≡ 0 = p.1 in omega arith) | inr q ↦ inr (q.0, λ e. q.1 (omega arith)) ]

-- after a comparison of two words the conditions are their comparisons
pub compares : (x y : ℕ) → x < 2 ^ 64 → y < 2 ^ 64 → Compares x y (difference_flags x y)
unfolding difference_flags
compares x y small small' =
    let xs = signed_is x small in
    let yt = signed_is y small' in
    let d = difference_is x y small small' in
    let a = xs.is in let b = yt.is in
    ten x y (difference x y == 0) (nat_lt x y) (nat_le (2 ^ 63) (difference x y)) (leaves_signed (signed x -ℤ signed y)) (record {
      zero = tell_zero x y d small small';
      carry = tell_carry x y;
      less = less x y (difference x y) (signed x) (signed y) xs yt d;
      one = λ e. ap signed e;
      same = λ p q. omega (arith, ints);
    })

-- after a test of two words e tells whether they have no bit in common
pub tests : (x y : ℕ) → Tests x y (bitwise_flags And x y)
unfolding bitwise_flags
tests x y = record {
  e = iff (bit_and x y == 0) (eqb-true (bit_and x y) 0) (λ h p. eqb-false (bit_and x y) 0 h p);
  ne = iff_not (bit_and x y == 0) (eqb-false (bit_and x y) 0) (λ h p. p (eqb-true (bit_and x y) 0 h));
}
