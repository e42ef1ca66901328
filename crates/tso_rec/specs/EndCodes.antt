-- Ends: what is read is spelled so, and what is spelled so is read.
use Rattle.std.specs.Prelude.{◌≡◌, ℕ, zero, suc, List, [], ◌∷◌, ◌++◌, Some}
use Rattle.std.proofs.Common.{refl, sym, ap, subst}
use Rattle.tso_choose.specs.declared.choice.Choice.{Choice}
use Rattle.tso_code.proofs.Codes.{IsCode, list_code}
use Rattle.tso_code.proofs.EndCodes.{choice_code, placed_code}
use Rattle.tso_code.proofs.NumberCode.{word_code}
use Rattle.tso_code.proofs.StateCodes.{held}
use Rattle.tso_rec.specs.Spelling.{chosen, chosen_at, ChosenFit, ending, ending_at, EndFits}
use Rattle.tso_rec.specs.declared.basis.Grain.{Grain}
use Rattle.tso_rec.specs.declared.basis.Grain.TheVariants.{Steps, Crossings}
use Rattle.tso_rec.specs.declared.record.End.{End}
use Rattle.tso_rec.specs.declared.record.End.TheVariants.{Choices, Order}

nothing_takes : (bytes : List ℕ) (x : List Choice × List ℕ) → chosen_at Crossings bytes ≡ Some x → (bytes ≡ chosen Crossings x.0 ++ x.1) × ChosenFit Crossings x.0
nothing_takes bytes x e =
    let made : List Choice × List ℕ = ([], bytes) in
    let is : made ≡ x = cc in
    (ap (λ (y : List Choice × List ℕ). y.1) is, sym (ap (λ (y : List Choice × List ℕ). y.0) is))

nothing_again : (cs : List Choice) (rest : List ℕ) → ChosenFit Crossings cs → chosen_at Crossings (chosen Crossings cs ++ rest) ≡ Some (cs, rest)
nothing_again cs rest none = ap (λ (l : List Choice). Some (l, rest)) (sym none)

chosen_code : (g : Grain) → IsCode (ChosenFit g) (chosen g) (chosen_at g)
chosen_code Steps = list_code word_code choice_code
chosen_code Crossings = record { takes = nothing_takes; again = nothing_again }

ending_take : (g : Grain) (bytes : List ℕ) (x : End × List ℕ) → ending_at g bytes ≡ Some x → (bytes ≡ ending g x.0 ++ x.1) × EndFits g x.0
unfolding ending_at
ending_take g [] x e = absurd cc
ending_take g (zero ∷ rest) x e =
    let h = held (chosen_code g) Choices rest x e in
    subst (λ (y : End). (0 ∷ rest ≡ ending g y ++ x.1) × EndFits g y) (sym h.1) (ap (λ (w : List ℕ). 0 ∷ w) h.2, h.3)
ending_take g (suc zero ∷ rest) x e =
    let h = held (list_code word_code placed_code) Order rest x e in
    subst (λ (y : End). (1 ∷ rest ≡ ending g y ++ x.1) × EndFits g y) (sym h.1) (ap (λ (w : List ℕ). 1 ∷ w) h.2, h.3)
ending_take g (suc (suc b) ∷ rest) x e = absurd cc

ending_again : (g : Grain) (d : End) (rest : List ℕ) → EndFits g d → ending_at g (ending g d ++ rest) ≡ Some (d, rest)
unfolding ending_at
ending_again g (Choices cs) rest fits = rw ((chosen_code g).again cs rest fits) refl
ending_again g (Order os) rest fits = rw ((list_code word_code placed_code).again os rest fits) refl

pub ending_code : (g : Grain) → IsCode (EndFits g) (ending g) (ending_at g)
ending_code g = record { takes = ending_take g; again = ending_again g }
