-- What verdicts are good for.
use Rattle.std.specs.Prelude.{◌≡◌, ◌⊎◌, ℕ, Err, List, Result}
use Rattle.tso_client.specs.Headline.{EachRunIsGood}
use Rattle.tso_judge.specs.Valid.{IsValidCertificate}
use Rattle.tso_check.specs.Verdicts.{IsAnswer, IsVerdict}
use Rattle.tso_client.specs.declared.error.CheckError.{CheckError}
use Rattle.tso_client.specs.declared.error.CheckError.TheVariants.{Memory}
use Rattle.tso_check.specs.declared.verdict.Verdict.{Verdict}
use Rattle.tso_prog.specs.declared.client.Client.{Client}

-- where bytes are a valid certificate, each run is good
abbrev pub AcceptedRunsAreGood : Client → Type 0
AcceptedRunsAreGood c = (bytes : List ℕ) → IsValidCertificate c bytes → EachRunIsGood c

-- bytes have one verdict
abbrev pub VerdictsAreUnique : Client → Type 0
VerdictsAreUnique c = (bytes : List ℕ) (v w : Verdict) → IsVerdict c bytes v → IsVerdict c bytes w → v ≡ w

-- two answers are the same, or one of them is want of memory
abbrev pub IsSameButMemory : Result Verdict CheckError → Result Verdict CheckError → Type 0
IsSameButMemory a b = (a ≡ b) ⊎ (a ≡ Err Memory) ⊎ (b ≡ Err Memory)

-- a text and bytes have one answer, want of memory aside
abbrev pub AnswersAreUnique : List ℕ → List ℕ → Type 0
AnswersAreUnique text bytes = (a b : Result Verdict CheckError) → IsAnswer text bytes a → IsAnswer text bytes b → IsSameButMemory a b
