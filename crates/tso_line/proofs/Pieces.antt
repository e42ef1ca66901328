-- The front of a list with commas.
use Rattle.std.proofs.Common.{◌≡◌, ℕ, suc, ◌+◌, ◌<◌, Bool, true, false, cond, not, List, [], ◌∷◌, length, take, drop, Option, Some, None, refl, sym, ap, subst, ◌≤◌, ◌∙◌, arith}
use Rattle.std.specs.Prelude.{option_and_then}
use Rattle.std.specs.List.{prefix_len}
use Rattle.tso_line.specs.declared.lexeme.Lexeme.{Lexeme}
use Rattle.tso_line.specs.declared.shape.Operand.{Operand}
use Rattle.tso_line.specs.declared.shape.Operands.{Operands}
use Rattle.tso_line.specs.Lexemes.{onto, split_by, operand_of, and_operand, operands_after}

module _ {A : Type 0} (p : A → Bool) where
  -- how many stand before the first that passes
  abbrev pub front : List A → ℕ
  front ls = prefix_len (λ l. not (p l)) ls

  end_step : (c : Bool) (l : A) (ls : List A) → (front ls ≡ length ls → split_by p ls ≡ ls ∷ []) → cond (not c) (1 + front ls) 0 ≡ suc (length ls) → cond c ([] ∷ split_by p ls) (onto l (split_by p ls)) ≡ (l ∷ ls) ∷ []
  end_step true l ls again e = absurd (omega arith)
  end_step false l ls again e = ap (onto l) (again (omega arith))

  pub split_at_end : (ls : List A) → front ls ≡ length ls → split_by p ls ≡ ls ∷ []
  unfolding split_by
  split_at_end [] e = refl
  split_at_end (l ∷ ls) e = end_step (p l) l ls (split_at_end ls) e

  abbrev pub Cut : ℕ → List A → Type 0
  Cut n ls = split_by p ls ≡ take n ls ∷ split_by p (drop (n + 1) ls)

  shifted : (n : ℕ) (l : A) (ls : List A) → onto l (take n ls ∷ split_by p (drop (n + 1) ls)) ≡ take (1 + n) (l ∷ ls) ∷ split_by p (drop (1 + n + 1) (l ∷ ls))
  shifted n l ls =
      let e : 1 + n ≡ suc n = omega arith in
      let f : 1 + n + 1 ≡ suc (n + 1) = omega arith in
      let a : take (1 + n) (l ∷ ls) ≡ l ∷ take n ls = ap (λ (k : ℕ). take k (l ∷ ls)) e in
      let b : drop (1 + n + 1) (l ∷ ls) ≡ drop (n + 1) ls = ap (λ (k : ℕ). drop k (l ∷ ls)) f in
      ap (λ (x : List A). x ∷ split_by p (drop (n + 1) ls)) (sym a) ∙ ap (λ (y : List A). take (1 + n) (l ∷ ls) ∷ split_by p y) (sym b)

  cut_step : (c : Bool) (l : A) (ls : List A) → (front ls < length ls → Cut (front ls) ls) → cond (not c) (1 + front ls) 0 < suc (length ls) → let n = cond (not c) (1 + front ls) 0 in cond c ([] ∷ split_by p ls) (onto l (split_by p ls)) ≡ take n (l ∷ ls) ∷ split_by p (drop (n + 1) (l ∷ ls))
  cut_step true l ls again h = refl
  cut_step false l ls again h = ap (onto l) (again (omega arith)) ∙ shifted (front ls) l ls

  pub split_at_first : (ls : List A) → front ls < length ls → Cut (front ls) ls
  unfolding split_by
  split_at_first [] h = absurd (omega arith)
  split_at_first (l ∷ ls) h = cut_step (p l) l ls (split_at_first ls) h

  pub split_cut : (n : ℕ) (ls : List A) → n ≡ front ls → n ≤ length ls → (n ≡ length ls → ⊥) → Cut n ls
  split_cut n ls e le ne =
      let lt : front ls < length ls = omega arith in
      subst (λ (k : ℕ). Cut k ls) (sym e) (split_at_first ls lt)

-- an operand more
pub operands_more : (found : Operands) (p : List Lexeme) (ps : List (List Lexeme)) (o : Operand) (all : Option Operands) → operand_of p ≡ Some o → operands_after found (p ∷ ps) ≡ all → operands_after (and_operand found o) ps ≡ all
unfolding operands_after
operands_more found p ps o all e so_far = sym (ap (option_and_then (λ o. operands_after (and_operand found o) ps)) e) ∙ so_far

pub operands_stop : (found : Operands) (p : List Lexeme) (ps : List (List Lexeme)) (all : Option Operands) → operand_of p ≡ None → operands_after found (p ∷ ps) ≡ all → all ≡ None
unfolding operands_after
operands_stop found p ps all e so_far = sym so_far ∙ ap (option_and_then (λ o. operands_after (and_operand found o) ps)) e

pub operands_end : (found : Operands) → operands_after found [] ≡ Some found
unfolding operands_after
operands_end found = refl
