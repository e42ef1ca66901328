-- The status with which a search ends.
use Rattle.std.specs.Prelude.{ℕ, None, Option, Some}
use Rattle.tso_front.specs.Statuses.{status_of}
use Rattle.tso_front.specs.declared.failure.Failure.{Failure}
use Rattle.tso_replay.specs.declared.report.Report.{Report}
use Rattle.tso_replay.specs.declared.report.Report.TheVariants.{Certified, Violated}

-- by what is reported of it
abbrev pub status_of_report : Report → ℕ
status_of_report (Certified records bytes) = 0
status_of_report (Violated violation labels bytes) = 1

-- by the failure of a file that it should have written, or else by what is reported
abbrev pub status_of_search : Option Failure → Report → ℕ
status_of_search None report = status_of_report report
status_of_search (Some failure) report = status_of failure
