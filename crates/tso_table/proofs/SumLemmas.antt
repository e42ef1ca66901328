-- Sums modulo 16, item by item.
use Rattle.std.proofs.Common.{◌≡◌, ◌∙◌, ℕ, ◌+◌, ◌%◌, ◌<◌, List, take, get_or, Some, slice_get, sym, ap, arith}
use Rattle.std.specs.Prelude.{sum_by}
use Rattle.std.proofs.Math.Nat.{add-mod-mod, mod-add-mod}
use Rattle.std.proofs.lemmas.List.Sums.{sum_by_more}
use Rattle.std.proofs.lemmas.Option.{get_or_from_slice_get, slice_get_within}

-- both parts of a sum modulo 16
pub both : (a b : ℕ) → (a % 16 + b % 16) % 16 ≡ (a + b) % 16
both a b = add-mod-mod (a % 16) b 16 ∙ mod-add-mod a 16 b

pub sum_on : {X : Type 0} (f : X → ℕ) (xs : List X) (i : ℕ) (x : X) (n m : ℕ) → slice_get xs i ≡ Some x → n ≡ sum_by f (take i xs) % 16 → m ≡ (n + f x % 16) % 16 → m ≡ sum_by f (take (i + 1) xs) % 16
sum_on {X = X} f xs i x n m at so next =
    let more : sum_by f (take (i + 1) xs) ≡ sum_by f (take i xs) + f (get_or xs i x) = sum_by_more f xs i x (slice_get_within xs i x at) in
    let here : get_or xs i x ≡ x = get_or_from_slice_get xs i x x at in
    next ∙ ap (λ (k : ℕ). (k + f x % 16) % 16) so ∙ both (sum_by f (take i xs)) (f x) ∙ ap (λ (y : X). (sum_by f (take i xs) + f y) % 16) (sym here) ∙ ap (λ (k : ℕ). k % 16) (sym more)

pub below_16 : (n : ℕ) → n % 16 < 16
below_16 n = omega arith
