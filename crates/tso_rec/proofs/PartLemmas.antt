-- Counting the parts that differ.
use Rattle.std.proofs.Common.{◌≡◌, ℕ, zero, suc, ◌<◌, ◌≤◌, min, Bool, List, [], ◌∷◌, length, drop, get_or, Option, Some, None, refl, sym, ◌∙◌, arith}
use Rattle.std.proofs.lemmas.Bool.Decides.{nat_tests}
use Rattle.std.specs.Cmp.Lexicographic.{slice_cmp}
use Rattle.std.specs.Ordering.{nat_cmp}
use Rattle.std.specs.declared.cmp.Ordering.{Ordering}
use Rattle.std.specs.declared.cmp.Ordering.TheVariants.{Less, Greater}
use Rattle.tso_rec.specs.Keeping.{record_of, records_of}
use Rattle.tso_rec.specs.Parts.{differing, kept_after, kept_from, part_count}
use Rattle.tso_rec.specs.declared.kept.Kept.{Kept}
use Rattle.tso_state.specs.declared.state.State.{State}

nothing : {X : Type 0} (same : X → X → Bool) (zs : List X) → differing same zs [] ≡ 0
nothing same [] = refl
nothing same (z ∷ zs) = refl

-- nothing is left behind the shorter of the two
pub done : {X : Type 0} (same : X → X → Bool) (xs ys : List X) (i : ℕ) → min (length xs) (length ys) ≤ i → differing same (drop i xs) (drop i ys) ≡ 0
done same [] ys zero over = refl
done same [] ys (suc i) over = refl
done same (x ∷ xs) [] zero over = refl
done same (x ∷ xs) [] (suc i) over = nothing same (drop i xs)
done same (x ∷ xs) (y ∷ ys) zero over = absurd (omega arith)
done same (x ∷ xs) (y ∷ ys) (suc i) over = done same xs ys i (omega arith)

-- a record after another keeps what differs from it
pub kept_at : (before : Option State) (ks : List Kept) (k : ℕ) (d e : Kept) → suc k < length ks → kept_from before (records_of ks) (suc k) ≡ Some (kept_after (record_of (get_or ks k d)).state (record_of (get_or ks (suc k) e)).state)
kept_at before [] k d e lt = absurd (omega arith)
kept_at before (x ∷ []) k d e lt = absurd (omega arith)
kept_at before (x ∷ y ∷ rest) zero d e lt = refl
kept_at before (x ∷ y ∷ rest) (suc k) d e lt = kept_at (Some (record_of x).state) (y ∷ rest) k d e (omega arith)

-- the first one keeps all
pub kept_first : (ks : List Kept) (d : Kept) → 0 < length ks → kept_from None (records_of ks) 0 ≡ Some (part_count (record_of (get_or ks 0 d)).state)
kept_first [] d lt = absurd (omega arith)
kept_first (x ∷ rest) d lt = refl

-- two lists of which one has ended are ordered by their lengths
below_suc : (n : ℕ) → nat_cmp 0 (suc n) ≡ Less
below_suc n = grind (arith, nat_tests)

above_zero : (n : ℕ) → nat_cmp (suc n) 0 ≡ Greater
above_zero n = grind (arith, nat_tests)

both_suc : (m n : ℕ) → nat_cmp (suc m) (suc n) ≡ nat_cmp m n
both_suc m n = grind (arith, nat_tests)

pub ended : {A B : Type 0} (R : A → B → Ordering) (xs : List A) (ys : List B) (i : ℕ) → i ≡ min (length xs) (length ys) → slice_cmp R (drop i xs) (drop i ys) ≡ nat_cmp (length xs) (length ys)
ended R [] [] zero e = refl
ended R [] [] (suc i) e = absurd (omega (arith, e))
ended R [] (y ∷ ys) zero e = sym (below_suc (length ys))
ended R [] (y ∷ ys) (suc i) e = absurd (omega (arith, e))
ended R (x ∷ xs) [] zero e = sym (above_zero (length xs))
ended R (x ∷ xs) [] (suc i) e = absurd (omega (arith, e))
ended R (x ∷ xs) (y ∷ ys) zero e = absurd (omega (arith, e))
ended R (x ∷ xs) (y ∷ ys) (suc i) e = ended R xs ys i (omega (arith, e)) ∙ sym (both_suc (length xs) (length ys))
