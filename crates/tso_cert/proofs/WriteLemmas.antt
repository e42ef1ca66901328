-- Forks that are written part by part.
use Rattle.std.proofs.Common.{◌≡◌, ℕ, List, [], ◌∷◌, ◌++◌, Option, Result, Ok, Err, sym, ap, ◌∙◌, append_assoc}
use Rattle.std.proofs.KnownBytes.{Appends-nil}
use Rattle.std.proofs.lemmas.List.{append-nil}
use Rattle.std.specs.Io.KnownBytes.{Appends}
use Rattle.std.specs.Prelude.{OnErr}
use Rattle.tso_list.proofs.BeginningLemmas.{beginning_behind, beginning_of_part}
use Rattle.tso_list.specs.Beginnings.{AppendsBeginning}

pub on_err : {A E : Type 0} {P : Type 0} (r : Result A E) → P → OnErr r P
on_err (Ok x) p = tt
on_err (Err e) p = p

-- what waits, a fork's byte and its left half, and then its state and its right half
parted : (p q L L' S R : List ℕ) → q ≡ p ++ 1 ∷ [] → L' ≡ L → p ++ (1 ∷ (L ++ (S ++ R))) ≡ (q ++ L') ++ (S ++ R)
parted p q L L' S R e l =
    sym (append_assoc p (1 ∷ []) (L ++ (S ++ R)))
    ∙ sym (append_assoc (p ++ 1 ∷ []) L (S ++ R))
    ∙ ap (λ (w : List ℕ). (w ++ L) ++ (S ++ R)) (sym e)
    ∙ ap (λ (w : List ℕ). (q ++ w) ++ (S ++ R)) (sym l)

module _ (a b : Option (List ℕ)) (p q L L' S R : List ℕ) (e : q ≡ p ++ 1 ∷ []) (l : L' ≡ L) where
  -- its left half went out in part
  pub left_failed : AppendsBeginning a b (q ++ L') → AppendsBeginning a b (p ++ (1 ∷ (L ++ (S ++ R))))
  left_failed h = beginning_behind a a b (p ++ (1 ∷ (L ++ (S ++ R)))) [] (q ++ L') (S ++ R) (parted p q L L' S R e l) (Appends-nil a) h

  -- its left half went out, and no more
  pub state_failed : Appends a b (q ++ L') → AppendsBeginning a b (p ++ (1 ∷ (L ++ (S ++ R))))
  state_failed h = beginning_of_part a b b (p ++ (1 ∷ (L ++ (S ++ R)))) (q ++ L') (S ++ R) (parted p q L L' S R e l) h

  -- its left half went out, and a part of what is behind
  pub right_failed : (c : Option (List ℕ)) (none w R' : List ℕ) → none ≡ [] → w ≡ none ++ S → R' ≡ R → Appends a b (q ++ L') → AppendsBeginning b c (w ++ R') → AppendsBeginning a c (p ++ (1 ∷ (L ++ (S ++ R))))
  right_failed c none w R' n is r h k =
      let rest : S ++ R ≡ (w ++ R') ++ [] =
      ap (λ (x : List ℕ). (x ++ S) ++ R) (sym n) ∙ ap (λ (x : List ℕ). x ++ R) (sym is) ∙ ap (λ (x : List ℕ). w ++ x) (sym r) ∙ sym (append-nil (w ++ R')) in
      beginning_behind a b c (p ++ (1 ∷ (L ++ (S ++ R)))) (q ++ L') (w ++ R') [] (parted p q L L' S R e l ∙ ap (λ (x : List ℕ). (q ++ L') ++ x) rest) h k
