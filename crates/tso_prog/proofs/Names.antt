-- A set of names as more come.
use Rattle.std.proofs.Common.{◌≡◌, Bool, true, false, List, [], ◌∷◌, refl, sym, ap, ◌∙◌}
use Rattle.std.specs.Prelude.{◌||◌, ◌++◌}
use Rattle.std.specs.declared.cmp.Ordering.{Ordering}
use Rattle.std.specs.declared.cmp.Ordering.TheVariants.{Less, Equal, Greater}
use Rattle.std.specs.Ordering.{match_ordering, nat_cmp, is_eq}
use Rattle.std.specs.Cmp.Lexicographic.{slice_cmp}
use Rattle.std.specs.List.{list_any}
use Rattle.std.specs.Str.{bytes_eq}
use Rattle.std.specs.BTreeSet.{BTreeSet, insert_key}
use Rattle.std.proofs.Math.Bool.{or_comm}
use Rattle.std.proofs.lemmas.List.Folds.{list_any-append}
use Rattle.std.proofs.lemmas.Map.Text.{is_eq-slice_cmp}
use Rattle.std.proofs.lemmas.Slice.Eq.{bytes_eq-Decides}
use Rattle.tso_line.specs.Lines.{Name}
use Rattle.tso_prog.specs.Names.{AreNamed}
use Rattle.tso_prog.specs.declared.named.Target.{Target}

twice : (a b : Bool) → (a || (a || b)) ≡ (a || b)
twice true b = refl
twice false b = refl

past : (a b c d : Bool) → c ≡ (a || d) → (b || c) ≡ (a || (b || d))
past true true c d e = refl
past true false c d e = e
past false b c d e = ap (λ (x : Bool). b || x) e

same_eq : (a b : Name) → slice_cmp nat_cmp a b ≡ Equal → a ≡ b
same_eq a b e = (bytes_eq-Decides a b).0 (sym (is_eq-slice_cmp a b) ∙ ap is_eq e)

both_ways : (a b : Bool) → (a ≡ true → b ≡ true) → (b ≡ true → a ≡ true) → a ≡ b
both_ways true b there back = sym (there refl)
both_ways false true there back = back refl
both_ways false false there back = refl

bytes_swap : (a b : Name) → bytes_eq a b ≡ bytes_eq b a
bytes_swap a b = both_ways (bytes_eq a b) (bytes_eq b a) (λ e. (bytes_eq-Decides b a).1 (sym ((bytes_eq-Decides a b).0 e))) (λ e. (bytes_eq-Decides a b).1 (sym ((bytes_eq-Decides b a).0 e)))

or_false : (a : Bool) → a ≡ (a || false)
or_false true = refl
or_false false = refl

module _ {K : Type 0} (bytes : K → Name) where
  abbrev at : Name → K → Bool
  at name k = is_eq (slice_cmp nat_cmp name (bytes k))

  -- a name is in the larger set where it is the new one, or was there
  inserted : (name : Name) (k : K) (ks : List K) → list_any (at name) (insert_key (λ x y. slice_cmp nat_cmp (bytes x) (bytes y)) ks k) ≡ (at name k || list_any (at name) ks)
  inserted name k [] = refl
  inserted name k (x ∷ xs) = by (slice_cmp nat_cmp (bytes k) (bytes x)) refl (inserted name k xs) where
    by : (o : Ordering) → slice_cmp nat_cmp (bytes k) (bytes x) ≡ o → list_any (at name) (insert_key (λ x y. slice_cmp nat_cmp (bytes x) (bytes y)) xs k) ≡ (at name k || list_any (at name) xs) → list_any (at name) (match_ordering o (k ∷ x ∷ xs) (x ∷ xs) (x ∷ insert_key (λ x y. slice_cmp nat_cmp (bytes x) (bytes y)) xs k)) ≡ (at name k || (at name x || list_any (at name) xs))
    by Less e again = refl
    by Equal e again = sym (twice (at name x) (list_any (at name) xs)) ∙ ap (λ (b : Bool). b || (at name x || list_any (at name) xs)) (ap (λ (bs : Name). is_eq (slice_cmp nat_cmp name bs)) (sym (same_eq (bytes k) (bytes x) e)))
    by Greater e again = past (at name k) (at name x) (list_any (at name) (insert_key (λ x y. slice_cmp nat_cmp (bytes x) (bytes y)) xs k)) (list_any (at name) xs) again

  -- a set of names stays one as a label and its name come
  pub more_are_named : (s n : BTreeSet K) (ts : List Target) (k : K) (t : Target) → bytes k ≡ t.name.now → AreNamed bytes s ts → n.keys ≡ insert_key (λ x y. slice_cmp nat_cmp (bytes x) (bytes y)) s.keys k → AreNamed bytes n (ts ++ t ∷ [])
  more_are_named s n ts k t same were more name =
      let has : Target → Bool = λ l. bytes_eq l.name.now name in
      let new : at name k ≡ (has t || false) = is_eq-slice_cmp name (bytes k) ∙ ap (bytes_eq name) same ∙ bytes_swap name t.name.now ∙ or_false (has t) in
      ap (list_any (at name)) more ∙ inserted name k s.keys ∙ ap (λ (b : Bool). at name k || b) (were name) ∙ or_comm (at name k) (list_any has ts) ∙ ap (λ (b : Bool). list_any has ts || b) new ∙ sym (list_any-append has ts (t ∷ []))
