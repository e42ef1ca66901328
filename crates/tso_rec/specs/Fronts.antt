-- What a reading takes from the front of bytes: what it takes whole it takes whatever follows, and it takes the spelling of
-- what it takes whole.
use Rattle.std.specs.Prelude.{◌≡◌, ℕ, List, [], ◌++◌, Some}
use Rattle.std.proofs.Common.{ap, sym, ◌∙◌}
use Rattle.std.proofs.lemmas.List.{append-nil}
use Rattle.tso_code.proofs.Codes.{IsCode}
use Rattle.tso_code.specs.Numbers.{Reading}

pub record ReadsFronts {X : Type 0} (spell : X → List ℕ) (read : Reading X) : Type 0 where
  pub more : (spelled rest : List ℕ) (x : X) → read spelled ≡ Some (x, []) → read (spelled ++ rest) ≡ Some (x, rest)
  pub own : (bytes rest : List ℕ) (x : X) → read bytes ≡ Some (x, rest) → read (spell x) ≡ Some (x, [])

-- a code reads so
pub fronts : {X : Type 0} {F : X → Type 0} {s : X → List ℕ} {r : Reading X} → IsCode F s r → ReadsFronts s r
fronts {X} {F} {s} {r} code = record {
  more = λ spelled rest x e.
      let t = code.takes spelled (x, []) e in
      ap (λ (l : List ℕ). r (l ++ rest)) (t.0 ∙ append-nil (s x)) ∙ code.again x rest t.1;
  own = λ bytes rest x e.
      let t = code.takes bytes (x, rest) e in
      ap r (sym (append-nil (s x))) ∙ code.again x [] t.1;
}
