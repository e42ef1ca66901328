-- Numbers of seven bits a byte.
use Rattle.std.proofs.Common.{◌≡◌, ℕ, zero, suc, ◌-◌, ◌+◌, ◌*◌, ◌/◌, ◌%◌, ◌^◌, ◌≤◌, ◌<◌, List, [], ◌∷◌, ◌++◌, refl, sym, ap, ◌∙◌, append_assoc, add-one, arith}
use Rattle.std.proofs.lemmas.Bool.{le-ltb, lt-ltb}
use Rattle.std.proofs.lemmas.Nat.{pow-add, pow_pos}
use Rattle.std.proofs.Math.Nat.{pow-le-pow_right}
use Rattle.tso_code.specs.Numbers.{digits}

pub power : (j : ℕ) → 2 ^ (7 * (j + 1) + 1) ≡ 128 * 2 ^ (7 * j + 1)
power j =
    let e : 7 * (j + 1) + 1 ≡ 7 + (7 * j + 1) = omega arith in
    ap (λ (k : ℕ). 2 ^ k) e ∙ pow-add 2 7 (7 * j + 1)

-- the room of at least one byte before the last
pub wide : (k b : ℕ) → 0 < k → b < 128 → b < 2 ^ (7 * k + 1)
wide k b p lt =
    let e = power (k - 1) in
    let i : 7 * ((k - 1) + 1) + 1 ≡ 7 * k + 1 = omega arith in
    let f : 2 ^ (7 * k + 1) ≡ 128 * 2 ^ (7 * (k - 1) + 1) = ap (λ (n : ℕ). 2 ^ n) (sym i) ∙ e in
    let q = pow_pos (7 * (k - 1) + 1) in
    omega arith

pub larger : (k b h : ℕ) → 0 < k → b < 256 → h < 2 ^ (7 * (k - 1) + 1) → (b - 128) + 128 * h < 2 ^ (7 * k + 1)
larger k b h p lt bound =
    let e = power (k - 1) in
    let i : 7 * ((k - 1) + 1) + 1 ≡ 7 * k + 1 = omega arith in
    let f : 2 ^ (7 * k + 1) ≡ 128 * 2 ^ (7 * (k - 1) + 1) = ap (λ (n : ℕ). 2 ^ n) (sym i) ∙ e in
    omega arith

pub fits_word : (k n : ℕ) → k < 10 → n < 2 ^ (7 * k + 1) → n < 2 ^ 64
fits_word k n lt bound = let m : 2 ^ (7 * k + 1) ≤ 2 ^ 64 = pow-le-pow_right {n = 2} (omega arith) {i = 7 * k + 1} {j = 64} (omega arith) in omega arith

pub digits_more : (j n : ℕ) → 128 ≤ n → digits (suc j) n ≡ (n % 128 + 128) ∷ digits j (n / 128)
unfolding digits
digits_more j n le = let e = le-ltb n 128 le in rw e (ap (λ (d : ℕ). d ∷ digits j (n / 128)) (omega arith))

pub digits_last : (k n : ℕ) → n < 128 → digits k n ≡ n ∷ []
unfolding digits
digits_last zero n lt = refl
digits_last (suc k) n lt = rw (lt-ltb n 128 lt) refl

pub one_more : (out start : List ℕ) (k n : ℕ) → 128 ≤ n → n < 2 ^ (7 * k + 1) → out ++ digits k n ≡ start
    → (j : ℕ) × (n / 128 < 2 ^ (7 * j + 1)) × ((out ++ (n % 128 + 128) ∷ []) ++ digits j (n / 128) ≡ start)
one_more out start zero n le lt e = absurd (omega arith)
one_more out start (suc j) n le lt e =
    let p : 2 ^ (7 * suc j + 1) ≡ 128 * 2 ^ (7 * j + 1) = ap (λ (k : ℕ). 2 ^ (7 * k + 1)) (sym (add-one j)) ∙ power j in
    let q : out ++ digits (suc j) n ≡ out ++ ((n % 128 + 128) ∷ digits j (n / 128)) = ap (λ (t : List ℕ). out ++ t) (digits_more j n le) in
    (j, omega arith, append_assoc out ((n % 128 + 128) ∷ []) (digits j (n / 128)) ∙ sym q ∙ e)

pub last_one : (out start : List ℕ) (k n : ℕ) → n < 128 → out ++ digits k n ≡ start → out ++ n ∷ [] ≡ start
last_one out start k n lt e = ap (λ (t : List ℕ). out ++ t) (sym (digits_last k n lt)) ∙ e
