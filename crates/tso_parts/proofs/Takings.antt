-- Values of another catalog that are taken in.
use Rattle.std.proofs.Common.{◌≡◌, ◌∙◌, ℕ, ◌+◌, ◌≤◌, List, [], ◌∷◌, ◌++◌, length, Some, refl, sym, ap, subst, arith, slice_get}
use Rattle.std.proofs.lemmas.List.{length_push}
use Rattle.std.proofs.lemmas.Option.{same_Some}
use Rattle.tso_parts.proofs.Marked.{new_item, of_longer, old_item}
use Rattle.tso_parts.specs.Marks.{AreMarked, mark}
use Rattle.tso_parts.specs.Numbers.{AreNumbersIn, Extends}
use Rattle.tso_parts.specs.declared.mark.Mark.{Mark}

-- the value that comes next stands behind those that came
pub next_at : {X : Type 0} (came rest all : List X) (x : X) → came ++ x ∷ rest ≡ all → slice_get all (length came) ≡ Some x
next_at {X = X} came rest all x e = subst (λ (xs : List X). slice_get xs (length came) ≡ Some x) e (there came)
  where
    there : (ys : List X) → slice_get (ys ++ x ∷ rest) (length ys) ≡ Some x
    there [] = refl
    there (y ∷ ys) = there ys

-- the mark at a value's number has its hash
pub mark_of : {X : Type 0} (hash : X → ℕ) (items : List X) (marks : List Mark) (n : ℕ) (x : X) (m : Mark) → AreMarked hash items marks → slice_get items n ≡ Some x → slice_get marks n ≡ Some m → m.hash ≡ hash x
mark_of hash items marks n x m all at there =
    let is = all.marked n x at in
    ap (λ (v : Mark). v.hash) (same_Some m (mark (hash x) is.tie) (sym there ∙ is.at))

-- one more number of one more value
pub numbers_more : {X : Type 0} (old new : List X) (ns : List ℕ) (xs : List X) (n : ℕ) (x : X) → AreNumbersIn old ns xs → Extends old new → slice_get new n ≡ Some x → AreNumbersIn new (ns ++ n ∷ []) (xs ++ x ∷ [])
numbers_more old new ns xs n x are more at = record {
  wide = length_push ns n ∙ ap (λ (k : ℕ). k + 1) are.wide ∙ sym (length_push xs x);
  each = λ i y e. of_longer xs x y i e
      (λ was. let it = are.each i y was in (it.0, old_item ns n it.0 i it.1, more it.0 y it.2))
      (λ last same. (n, ap (slice_get (ns ++ n ∷ [])) (last ∙ sym are.wide) ∙ new_item ns n, at ∙ ap Some same));
}

-- one more value behind those that came
pub one_more : {X : Type 0} (now first next : ℕ) (xs : List X) (x : X) → now ≤ first + length xs → next ≤ now + 1 → next ≤ first + length (xs ++ x ∷ [])
one_more now first next xs x before one = omega (arith, before, one, length_push xs x)
