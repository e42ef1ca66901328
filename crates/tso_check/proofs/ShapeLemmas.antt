-- From the shape of bytes that are no certificate to the verdict.
use Rattle.std.proofs.Common.{◌≡◌, ◌∙◌, ℕ, List, Option, Some, None, Result, Ok, Err, sym}
use Rattle.tso_cert.proofs.LimitPassed.{beyond, passed}
use Rattle.tso_cert.proofs.Uniqueness.{reads}
use Rattle.tso_cert.specs.Certificates.{certificate_at}
use Rattle.tso_cert.specs.Trees.{Tree}
use Rattle.tso_cert.specs.declared.fault.Fault.{Fault}
use Rattle.tso_cert.specs.declared.fault.Fault.TheVariants as limits
use Rattle.tso_check.specs.Verdicts.{IsVerdict, no_certificate, past_limit}
use Rattle.tso_check.specs.declared.verdict.Verdict.{Verdict}
use Rattle.tso_check.specs.declared.verdict.Verdict.TheVariants.{Rejected}
use Rattle.tso_rec.specs.declared.basis.Basis.{Basis}
use Rattle.tso_judge.specs.declared.code.Code.TheVariants as faults
use Rattle.tso_prog.specs.declared.client.Client.{Client}
use Rattle.tso_skim.specs.Skips.{fault_in}

abbrev faulted : Fault → Result (Basis × Tree) Fault
faulted f = Err f

abbrev decoded : Basis → Tree → Result (Basis × Tree) Fault
decoded t tree = Ok (t, tree)

fault_is : (r : Result (Basis × Tree) Fault) (f : Fault) → Some f ≡ fault_in r → r ≡ faulted f
fault_is (Ok x) f h = absurd cc
fault_is (Err g) f h = cc

-- the verdict on bytes that are no certificate
pub broken : (bytes : List ℕ) → Some limits.K01 ≡ fault_in (certificate_at bytes) → (c : Client) → IsVerdict c bytes (Rejected faults.K01 None)
broken bytes h c =
    let exact = fault_is (certificate_at bytes) limits.K01 h in
    no_certificate (
      (λ t tree spelled within. let clash : decoded t tree ≡ faulted limits.K01 = sym (reads bytes t tree spelled within) ∙ exact in cc),
      (λ p. let clash : faulted limits.K02 ≡ faulted limits.K01 = sym (beyond bytes p) ∙ exact in cc),
    )

-- the verdict on bytes that pass a limit first
pub too_large : (bytes : List ℕ) → Some limits.K02 ≡ fault_in (certificate_at bytes) → (c : Client) → IsVerdict c bytes (Rejected faults.K02 None)
too_large bytes h c = past_limit (passed bytes (fault_is (certificate_at bytes) limits.K02 h))
