-- Parts that are told by their spellings.
use Rattle.std.proofs.Common.{◌≡◌, ℕ, suc, zero, ◌<◌, ◌≤◌, List, [], ◌∷◌, ◌++◌, length, Some, refl, sym, ap, subst, ◌∙◌, arith, slice_get, true, eqb, take, drop, inl, inr}
use Rattle.std.specs.Cmp.Lexicographic.{pointwise}
use Rattle.std.proofs.lemmas.Bool.{cases_lt}
use Rattle.std.proofs.lemmas.Option.{same_Some}
use Rattle.tso_code.specs.Numbers.{Reading}
use Rattle.tso_parts.specs.Numbers.{Extends}
use Rattle.tso_rec.specs.Fronts.{ReadsFronts}
use Rattle.tso_rec.proofs.FrontLemmas.{reads_behind}
use Rattle.tso_scan.specs.Scrolls.{AreSpelled, IsReadAs}

module _ {X : Type 0} {s : X → List ℕ} {r : Reading X} where
  -- what begins with a spelling is read as the part
  pub told : ReadsFronts s r → (parts : List X) (spellings : List (List ℕ)) (n : ℕ) (spelled bytes rest : List ℕ) → AreSpelled r parts spellings → slice_get spellings n ≡ Some spelled
      → pointwise eqb (take (length spelled) bytes) spelled ≡ true → rest ≡ drop (length spelled) bytes → IsReadAs r parts n bytes rest
  told reads parts spellings n spelled bytes rest are at same is =
      let one = are.each n spelled at in
      record { part = one.part; at = one.at; reads = reads_behind reads spelled bytes rest one.part one.reads same is }

at_end : (xs : List (List ℕ)) (x b : List ℕ) (n : ℕ) → slice_get (xs ++ x ∷ []) n ≡ Some b → length xs ≤ n → (n ≡ length xs) × (x ≡ b)
at_end [] x b zero at le = (refl, same_Some x b at)
at_end [] x b (suc n) at le = absurd cc
at_end (y ∷ ys) x b zero at le = absurd (omega (arith, le))
at_end (y ∷ ys) x b (suc n) at le = let e = at_end ys x b n at (omega (arith, le)) in (ap suc e.0, e.1)

before_end : (xs : List (List ℕ)) (x b : List ℕ) (n : ℕ) → slice_get (xs ++ x ∷ []) n ≡ Some b → n < length xs → slice_get xs n ≡ Some b
before_end [] x b n at lt = absurd (omega (arith, lt))
before_end (y ∷ ys) x b zero at lt = at
before_end (y ∷ ys) x b (suc n) at lt = before_end ys x b n at (omega (arith, lt))

module _ {X : Type 0} {r : Reading X} where
  pub read_still : (old new : List X) (n : ℕ) (bytes rest : List ℕ) → Extends old new → IsReadAs r old n bytes rest → IsReadAs r new n bytes rest
  read_still old new n bytes rest more is = record { part = is.part; at = more n is.part is.at; reads = is.reads }

  pub spelled_still : (old new : List X) (spellings : List (List ℕ)) → Extends old new → AreSpelled r old spellings → AreSpelled r new spellings
  spelled_still old new spellings more are = record { each = λ n b at. read_still old new n b [] more (are.each n b at) }

  -- one more spelling, that of the part with the next number
  pub spelled_more : (parts : List X) (spellings : List (List ℕ)) (n : ℕ) (spelled : List ℕ) → AreSpelled r parts spellings → n ≡ length spellings → IsReadAs r parts n spelled [] → AreSpelled r parts (spellings ++ spelled ∷ [])
  spelled_more parts spellings n spelled are next is = record {
    each = λ k b at. elim (cases_lt k (length spellings)) [
      | inl less ↦ are.each k b (before_end spellings spelled b k at less)
      | inr ge ↦
          let e = at_end spellings spelled b k at ge in
          subst (λ m. IsReadAs r parts m b []) (next ∙ sym e.0) (subst (λ l. IsReadAs r parts n l []) e.1 is)
    ];
  }
