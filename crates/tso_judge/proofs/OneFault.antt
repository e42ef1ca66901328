-- A record has one first fault, or meets all conditions.
use Rattle.std.proofs.Common.{◌≡◌, ◌∙◌, ℕ, zero, suc, inl, inr, refl, sym, ap, arith}
use Rattle.std.proofs.lemmas.Bool.{cases_lt}
use Rattle.tso_judge.specs.Codes.{code_number}
use Rattle.tso_judge.specs.Judging.{IsFirstFault, Meets}
use Rattle.tso_rec.specs.Conditions.{AreMet}
use Rattle.tso_judge.specs.declared.code.Code.{Code}
use Rattle.tso_judge.specs.declared.code.Code.TheVariants as faults
use Rattle.tso_prog.specs.declared.client.Client.{Client}
use Rattle.tso_rec.specs.declared.basis.Basis.{Basis}
use Rattle.tso_rec.specs.declared.record.End.{End}
use Rattle.tso_state.specs.declared.state.State.{State}

-- ---- codes

abbrev code_at : ℕ → Code
code_at zero = faults.K01
code_at (suc zero) = faults.K01
code_at (suc (suc zero)) = faults.K02
code_at (suc (suc (suc zero))) = faults.K03
code_at (suc (suc (suc (suc zero)))) = faults.K04
code_at (suc (suc (suc (suc (suc zero))))) = faults.K05
code_at (suc (suc (suc (suc (suc (suc zero)))))) = faults.K06
code_at (suc (suc (suc (suc (suc (suc (suc zero))))))) = faults.K07
code_at (suc (suc (suc (suc (suc (suc (suc (suc zero)))))))) = faults.K08
code_at (suc (suc (suc (suc (suc (suc (suc (suc (suc zero))))))))) = faults.K09
code_at (suc (suc (suc (suc (suc (suc (suc (suc (suc (suc zero)))))))))) = faults.K10
code_at (suc (suc (suc (suc (suc (suc (suc (suc (suc (suc (suc zero))))))))))) = faults.K11
code_at (suc (suc (suc (suc (suc (suc (suc (suc (suc (suc (suc (suc rest)))))))))))) = faults.K12

code_is : (k : Code) → code_at (code_number k) ≡ k
code_is faults.K01 = refl
code_is faults.K02 = refl
code_is faults.K03 = refl
code_is faults.K04 = refl
code_is faults.K05 = refl
code_is faults.K06 = refl
code_is faults.K07 = refl
code_is faults.K08 = refl
code_is faults.K09 = refl
code_is faults.K10 = refl
code_is faults.K11 = refl
code_is faults.K12 = refl

same_code : (j k : Code) → code_number j ≡ code_number k → j ≡ k
same_code j k e = sym (code_is j) ∙ ap code_at e ∙ code_is k

-- ---- one record

module _ (c : Client) (t : Basis) (Kept Within : Type 0) (s : State) (e : End) where
  met : AreMet c t Kept Within s e → (k : Code) → Meets c t Kept Within s e k
  met m faults.K01 = tt
  met m faults.K02 = tt
  met m faults.K03 = tt
  met m faults.K04 = tt
  met m faults.K05 = m.well_formed
  met m faults.K06 = m.fits
  met m faults.K07 = m.reasons
  met m faults.K08 = m.successors
  met m faults.K09 = tt
  met m faults.K10 = m.unstopped
  met m faults.K11 = m.explained
  met m faults.K12 = m.within

  -- what meets all conditions has no fault
  pub not_both : (k : Code) → AreMet c t Kept Within s e → IsFirstFault c t Kept Within s e k → ⊥
  not_both k m f = f.broken (met m k)

  -- there is one first fault
  pub one_fault : (j k : Code) → IsFirstFault c t Kept Within s e j → IsFirstFault c t Kept Within s e k → j ≡ k
  one_fault j k f g = elim (cases_lt (code_number j) (code_number k)) [
    | inl less ↦ absurd (f.broken (g.before j less))
    | inr ge ↦ elim (cases_lt (code_number k) (code_number j)) [
      | inl more ↦ absurd (g.broken (f.before k more))
      | inr le ↦ same_code j k (omega (arith, ge, le))
    ]
  ]
