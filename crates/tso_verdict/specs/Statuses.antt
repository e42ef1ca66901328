-- The status with which a verdict ends.
use Rattle.std.specs.Prelude.{ℕ}
use Rattle.tso_check.specs.declared.verdict.Verdict.{Verdict}
use Rattle.tso_check.specs.declared.verdict.Verdict.TheVariants.{Accepted, Rejected}

-- on a certificate
abbrev pub status_of_verdict : Verdict → ℕ
status_of_verdict Accepted = 0
status_of_verdict (Rejected code place) = 3
