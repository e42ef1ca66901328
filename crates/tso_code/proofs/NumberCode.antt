-- A number that is read is spelled so, and a number that is spelled is read.
use Rattle.std.proofs.Common.{◌≡◌, ℕ, zero, suc, ◌+◌, ◌-◌, ◌*◌, ◌/◌, ◌%◌, ◌^◌, ◌<◌, ◌≤◌, Bool, true, false, cond, ltb, eqb, List, [], ◌∷◌, ◌++◌, Option, Some, None, refl, sym, ap, subst, ◌∙◌, add-one, arith, inl, inr, ◌⊎◌}
use Rattle.std.proofs.Math.Dec.{eqb-suc-zero}
use Rattle.std.proofs.lemmas.Bool.{cases_lt, ltb-false, ltb-true, le-ltb, lt-ltb}
use Rattle.std.proofs.lemmas.Nat.{pow_pos}
use Rattle.tso_code.specs.Numbers.{◌>>=◌, digits, number, digits_at, number_at, below_at}
use Rattle.tso_code.proofs.DigitLemmas.{power, digits_last, digits_more}
use Rattle.tso_code.proofs.Codes.{bind_some, IsCode}

chosen : {X : Type 0} (b : Bool) (x y z : X) → cond b x y ≡ z → ((b ≡ true) × (x ≡ z)) ⊎ ((b ≡ false) × (y ≡ z))
chosen true x y z e = inl (refl, e)
chosen false x y z e = inr (refl, e)

-- a test that did not fail
guard : {X : Type 0} (b : Bool) (x : Option X) (z : X) → cond b x None ≡ Some z → (b ≡ true) × (x ≡ Some z)
guard true x z e = (refl, e)
guard false x z e = absurd cc

guard_not : {X : Type 0} (b : Bool) (x z : X) → cond b None (Some x) ≡ Some z → (b ≡ false) × (x ≡ z)
guard_not true x z e = absurd cc
guard_not false x z e = (refl, cc)

abbrev higher : ℕ → ℕ × List ℕ → Option (ℕ × List ℕ)
higher b high = cond (eqb high.0 0) None (Some ((b - 128) + 128 * high.0, high.1))

opened : (j b : ℕ) (rest : List ℕ) → digits_at (suc j) (b ∷ rest) ≡ cond (ltb b 128) (Some (b, rest)) (cond (ltb b 256) (digits_at j rest >>= higher b) None)
unfolding digits_at
opened j b rest =
    let less : suc j - 1 ≡ j = omega arith in
    rw (eqb-suc-zero j, less) refl

nonzero : (n : ℕ) → eqb n 0 ≡ false → 0 < n
nonzero zero e = absurd cc
nonzero (suc n) e = omega arith

not_zero : (n : ℕ) → 0 < n → eqb n 0 ≡ false
not_zero zero h = absurd (omega arith)
not_zero (suc n) h = eqb-suc-zero n

abbrev Took : ℕ → List ℕ → ℕ × List ℕ → Type 0
Took k bytes x = (bytes ≡ digits k x.0 ++ x.1) × (x.0 < 2 ^ (7 * k + 1))

small : (b j : ℕ) → b < 128 → b < 2 ^ (7 * suc j + 1)
small b j lt =
    let p : 2 ^ (7 * suc j + 1) ≡ 128 * 2 ^ (7 * j + 1) = ap (λ (k : ℕ). 2 ^ (7 * k + 1)) (sym (add-one j)) ∙ power j in
    let q = pow_pos (7 * j + 1) in
    omega arith

-- one byte more below
joined : (j b h : ℕ) → 128 ≤ b → b < 256 → 0 < h → h < 2 ^ (7 * j + 1) → (digits (suc j) ((b - 128) + 128 * h) ≡ b ∷ digits j h) × ((b - 128) + 128 * h < 2 ^ (7 * suc j + 1))
joined j b h lo hi some below =
    let p : 2 ^ (7 * suc j + 1) ≡ 128 * 2 ^ (7 * j + 1) = ap (λ (k : ℕ). 2 ^ (7 * k + 1)) (sym (add-one j)) ∙ power j in
    let low : ((b - 128) + 128 * h) % 128 + 128 ≡ b = omega arith in
    let rest : ((b - 128) + 128 * h) / 128 ≡ h = omega arith in
    (digits_more j ((b - 128) + 128 * h) (omega arith) ∙ rw (low, rest) refl, omega arith)

digits_take : (k : ℕ) (bytes : List ℕ) (x : ℕ × List ℕ) → digits_at k bytes ≡ Some x → Took k bytes x
unfolding digits_at
digits_take zero [] x e = absurd cc
digits_take zero (b ∷ rest) x e =
    let g = guard (ltb b 2) (Some (b, rest)) x e in
    let made : ℕ × List ℕ = (b, rest) in
    let is : made ≡ x = cc in
    subst (λ (y : ℕ × List ℕ). Took 0 (b ∷ rest) y) is (rw (digits_last 0 b (omega (arith, ltb-true b 2 g.0))) refl, ltb-true b 2 g.0)
digits_take (suc j) [] x e = absurd cc
digits_take (suc j) (b ∷ rest) x e =
    elim (chosen (ltb b 128) (Some (b, rest)) (cond (ltb b 256) (digits_at j rest >>= higher b) None) (Some x) (sym (opened j b rest) ∙ e)) [
      | inl p ↦
          let lt = ltb-true b 128 p.0 in
          let made : ℕ × List ℕ = (b, rest) in
          let same = p.1 in
          let is : made ≡ x = cc in
          subst (λ (y : ℕ × List ℕ). Took (suc j) (b ∷ rest) y) is (rw (digits_last (suc j) b lt) refl, small b j lt)
      | inr p ↦
          let g = guard (ltb b 256) (digits_at j rest >>= higher b) x p.1 in
          let high = bind_some (digits_at j rest) (higher b) x g.1 in
          let below = digits_take j rest high.0 high.1 in
          let last = guard_not (eqb high.0.0 0) ((b - 128) + 128 * high.0.0, high.0.1) x high.2 in
          let lo = ltb-false b 128 p.0 in
          let hi = ltb-true b 256 g.0 in
          let some = nonzero high.0.0 last.0 in
          let one = joined j b high.0.0 lo hi some below.1 in
          let parts : b ∷ rest ≡ digits (suc j) ((b - 128) + 128 * high.0.0) ++ high.0.1 = ap (λ (t : List ℕ). b ∷ t) below.0 ∙ ap (λ (t : List ℕ). t ++ high.0.1) (sym one.0) in
          subst (λ (y : ℕ × List ℕ). Took (suc j) (b ∷ rest) y) last.1 (parts, one.1)
    ]

digits_again : (k n : ℕ) (rest : List ℕ) → n < 2 ^ (7 * k + 1) → digits_at k (digits k n ++ rest) ≡ Some (n, rest)
unfolding digits_at
digits_again zero n rest lt =
    rw (digits_last 0 n (omega arith)) (rw (lt-ltb n 2 lt) refl)
digits_again (suc j) n rest lt =
    elim (cases_lt n 128) [
      | inl small ↦ ap (λ (t : List ℕ). digits_at (suc j) (t ++ rest)) (digits_last (suc j) n small) ∙ opened j n rest ∙ rw (lt-ltb n 128 small) refl
      | inr large ↦
          let p : 2 ^ (7 * suc j + 1) ≡ 128 * 2 ^ (7 * j + 1) = ap (λ (k : ℕ). 2 ^ (7 * k + 1)) (sym (add-one j)) ∙ power j in
          let high = digits_again j (n / 128) rest (omega arith) in
          let same : ((n % 128 + 128) - 128) + 128 * (n / 128) ≡ n = omega arith in
          ap (λ (t : List ℕ). digits_at (suc j) (t ++ rest)) (digits_more j n large)
          ∙ opened j (n % 128 + 128) (digits j (n / 128) ++ rest)
          ∙ rw (le-ltb (n % 128 + 128) 128 (omega arith), lt-ltb (n % 128 + 128) 256 (omega arith), high, not_zero (n / 128) (omega arith)) (ap (λ (m : ℕ). Some (m, rest)) same)
    ]

pub word_code : IsCode (λ n. n < 2 ^ 64) number number_at
unfolding number number_at
word_code = record { takes = digits_take 9; again = digits_again 9 }

pub below_code : (limit : ℕ) → limit ≤ 2 ^ 64 → IsCode (λ n. n < limit) number (below_at limit)
unfolding below_at
below_code limit le = record {
  takes = λ bytes x e.
      let p = bind_some (number_at bytes) (λ n. cond (ltb n.0 limit) (Some n) None) x e in
      let t = word_code.takes bytes p.0 p.1 in
      let g = guard (ltb p.0.0 limit) (Some p.0) x p.2 in
      let f = g.1 in
      let is : p.0 ≡ x = cc in
      subst (λ (y : ℕ × List ℕ). (bytes ≡ number y.0 ++ y.1) × (y.0 < limit)) is (t.0, ltb-true p.0.0 limit g.0);
  again = λ n rest lt. rw (word_code.again n rest (omega arith), lt-ltb n limit lt) refl;
}
