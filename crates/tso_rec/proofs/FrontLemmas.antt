-- Readings that take a part again by its bytes.
use Rattle.std.proofs.Common.{◌≡◌, ℕ, ◌-◌, true, eqb, List, [], ◌∷◌, ◌++◌, length, take, drop, None, Some, refl, sym, ap, ◌∙◌}
use Rattle.std.proofs.Math.Dec.{eqb-suc-zero}
use Rattle.std.proofs.lemmas.Bool.{false≢true}
use Rattle.std.proofs.lemmas.Bool.Decides.{Decides-eqb}
use Rattle.std.proofs.lemmas.List.{take-append-drop}
use Rattle.std.specs.Cmp.Lexicographic.{pointwise}
use Rattle.tso_code.specs.Fields.{list_at}
use Rattle.tso_code.specs.Numbers.{Reading, digits_at, number_at}
use Rattle.tso_code.specs.States.{state_at}
use Rattle.tso_rec.specs.Fronts.{ReadsFronts}
use Rattle.tso_rec.specs.Spelling.{record_at}
use Rattle.tso_rec.specs.declared.basis.Grain.{Grain}
use lib.Pointwise.{pointwise_decides}

pub reads_behind : {X : Type 0} {s : X → List ℕ} {r : Reading X} → ReadsFronts s r → (spelled bytes rest : List ℕ) (x : X) → r spelled ≡ Some (x, []) → pointwise eqb (take (length spelled) bytes) spelled ≡ true → rest ≡ drop (length spelled) bytes → r bytes ≡ Some (x, rest)
reads_behind {X} {s} {r} reads spelled bytes rest x e same is =
    let front : take (length spelled) bytes ≡ spelled = (pointwise_decides Decides-eqb (take (length spelled) bytes) spelled).0 same in
    let whole : spelled ++ rest ≡ bytes = ap (λ (l : List ℕ). l ++ rest) (sym front) ∙ ap (λ (l : List ℕ). take (length spelled) bytes ++ l) is ∙ take-append-drop (length spelled) bytes in
    ap r (sym whole) ∙ reads.more spelled rest x e

-- no record is spelled by no bytes
no_record : (g : Grain) → record_at g [] ≡ None
unfolding record_at state_at list_at number_at digits_at
no_record g = refl

pub nothing_read : (g : Grain) (bytes : List ℕ) → eqb (length bytes) 0 ≡ true → record_at g bytes ≡ None
nothing_read g [] e = no_record g
nothing_read g (b ∷ bytes) e = absurd (false≢true (sym (eqb-suc-zero (length bytes)) ∙ e))
