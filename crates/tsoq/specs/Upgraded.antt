-- What comes of an upgrade.
use Rattle.std.specs.Prelude.{◌≡◌, ℕ, List, Ok}
use Rattle.tso_check.specs.Upgrades.{HasRecords, IsNoAcceptance, IsUpgraded}
use Rattle.tso_check.specs.Verdicts.{IsAnswer}
use Rattle.tso_check.specs.declared.upgrading.UpgradeError.{UpgradeError}
use Rattle.tso_check.specs.declared.upgrading.UpgradeError.TheVariants.{NotAccepted}
use Rattle.tsoq.specs.declared.upgrade.Upgraded.{Upgraded}
use Rattle.tsoq.specs.declared.upgrade.Upgraded.TheVariants.{Refused, Written}

-- a file has taken these bytes, and it is said that they have so many records
abbrev pub IsWritten : List ℕ → ℕ → Upgraded → Type 0
IsWritten bytes count (Written records taken) = (taken.which.numbers ≡ bytes) × (records ≡ count)
IsWritten bytes count (Refused verdict) = ⊥

-- it is not upgraded, and this is the verdict
abbrev pub IsRefusal : UpgradeError → Upgraded → Type 0
IsRefusal error (Written records taken) = ⊥
IsRefusal error (Refused verdict) = error ≡ NotAccepted (Ok verdict)

-- a file has taken the certificate with a table of intervals, the check accepts both for the client of the text, and they have so many records; or
-- the check gives this verdict, which accepts nothing
abbrev pub IsUpgrade : List ℕ → List ℕ → Upgraded → Type 0
IsUpgrade text bytes (Written records taken) = IsUpgraded text bytes taken.which.numbers × HasRecords taken.which.numbers records
IsUpgrade text bytes (Refused verdict) = IsAnswer text bytes (Ok verdict) × IsNoAcceptance (Ok verdict)
