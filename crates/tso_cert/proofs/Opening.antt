-- One layer of a tree.
use Rattle.std.proofs.Common.{◌≡◌, ℕ, zero, suc, ◌-◌, List, [], ◌∷◌, refl, ap, ◌∙◌, false, ◌≤◌, length, take, drop, get_or, arith}
use Rattle.std.proofs.lemmas.List.{take_all}
use lib.Dec.{eqb-suc-zero}
use Rattle.std.specs.Prelude.{◌==◌}
use Rattle.tso_rec.specs.declared.basis.Grain.{Grain}
use Rattle.tso_cert.specs.Certificates.{leaf_at, fork_at, tree_at, opened_at}

pub tree_opens : (g : Grain) (depth room : ℕ) (bytes : List ℕ) → tree_at g depth room bytes ≡ opened_at g depth room bytes
unfolding tree_at
tree_opens g zero room [] = refl
tree_opens g zero room (zero ∷ rest) = refl
tree_opens g zero room (suc zero ∷ rest) = refl
tree_opens g zero room (suc (suc b) ∷ rest) = refl
tree_opens g (suc d) room [] = refl
tree_opens g (suc d) room (zero ∷ rest) = refl
tree_opens g (suc d) room (suc zero ∷ rest) =
    let less : suc d - 1 ≡ d = omega arith in
    let test : (suc d == 0) ≡ false = eqb-suc-zero d in
    rw (test, less) refl
tree_opens g (suc d) room (suc (suc b) ∷ rest) = refl

rest_is : (b : ℕ) (rest : List ℕ) → take (length (b ∷ rest) - 1) (drop 1 (b ∷ rest)) ≡ rest
rest_is b rest = take_all (length (b ∷ rest) - 1) rest (omega arith)

-- behind the byte of a leaf
pub opens_leaf : (g : Grain) (depth room : ℕ) (bytes : List ℕ) → 1 ≤ length bytes → get_or bytes 0 0 ≡ 0 → tree_at g depth room bytes ≡ leaf_at g room (take (length bytes - 1) (drop 1 bytes))
opens_leaf g depth room [] le e = absurd (omega arith)
opens_leaf g depth room (b ∷ rest) le e = rw (rest_is b rest) (ap (λ (c : ℕ). tree_at g depth room (c ∷ rest)) e ∙ tree_opens g depth room (0 ∷ rest))

not_zero : (n : ℕ) → (n ≡ 0 → ⊥) → (n == 0) ≡ false
not_zero zero h = absurd (h refl)
not_zero (suc n) h = eqb-suc-zero n

-- behind the byte of a fork
pub opens_fork : (g : Grain) (depth room : ℕ) (bytes : List ℕ) → 1 ≤ length bytes → get_or bytes 0 0 ≡ 1 → (depth ≡ 0 → ⊥) → tree_at g depth room bytes ≡ fork_at (tree_at g (depth - 1)) room (take (length bytes - 1) (drop 1 bytes))
opens_fork g depth room [] le e deep = absurd (omega arith)
opens_fork g depth room (b ∷ rest) le e deep = rw (rest_is b rest) (ap (λ (c : ℕ). tree_at g depth room (c ∷ rest)) e ∙ tree_opens g depth room (1 ∷ rest) ∙ rw (not_zero depth deep) refl)
