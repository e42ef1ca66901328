-- What certificates are spelled as, and that reading answers one thing.
use Rattle.std.proofs.Common.{◌≡◌, ℕ, List, Result, Ok, Err, refl, sym, ap, ◌∙◌}
use Rattle.tso_rec.specs.declared.basis.Basis.{Basis}
use Rattle.tso_cert.proofs.LimitPassed.{beyond, passed}
use Rattle.tso_cert.proofs.TreeCode.{certificate_again, certificate_take}
use Rattle.tso_cert.specs.Certificates.{certificate_at, Spells}
use Rattle.tso_cert.specs.Limits.{IsNoCertificate, SpellingsAreUnique}
use Rattle.tso_cert.specs.Trees.{Tree, IsWithinLimits}
use Rattle.tso_cert.specs.declared.fault.Fault.{Fault}
use Rattle.tso_cert.specs.declared.fault.Fault.TheVariants.{K01, K02}

pub reads : (bytes : List ℕ) (b : Basis) (c : Tree) → Spells bytes b c → IsWithinLimits c → certificate_at bytes ≡ Ok (b, c)
reads bytes b c spells within = ap certificate_at spells.1 ∙ certificate_again b c spells.0 within

same_reading : (bytes : List ℕ) (x y : Basis × Tree) → certificate_at bytes ≡ Ok x → certificate_at bytes ≡ Ok y → x ≡ y
same_reading bytes x y e f = cc

pub unique : SpellingsAreUnique
unique = record {
  one_value = λ bytes a b c d p within q within'.
      let e = same_reading bytes (a, c) (b, d) (reads bytes a c p within) (reads bytes b d q within') in
      (ap (λ (x : Basis × Tree). x.0) e, ap (λ (x : Basis × Tree). x.1) e);
  one_spelling = λ bytes others b c p q. p.1 ∙ sym q.1;
  not_both = λ bytes b c p within passes. let e = reads bytes b c p within in let f = beyond bytes passes in cc;
}

-- what spells nothing and passes no limit is K01
pub malformed : (bytes : List ℕ) → IsNoCertificate bytes → certificate_at bytes ≡ Err K01
malformed bytes none = by_result (certificate_at bytes) refl
  where
    by_result : (r : Result (Basis × Tree) Fault) → certificate_at bytes ≡ r → certificate_at bytes ≡ Err K01
    by_result (Ok x) e = let found = certificate_take bytes x e in absurd (none.0 x.0 x.1 found.0 found.1)
    by_result (Err K01) e = e
    by_result (Err K02) e = absurd (none.1 (passed bytes e))
