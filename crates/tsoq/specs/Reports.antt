-- What a report of a search says of the program text.
use Rattle.std.specs.Prelude.{◌≡◌, ℕ, List, Option, Some, None, length}
use Rattle.tso_client.specs.Headline.{DenotesChecked, IsVerified}
use Rattle.tso_machine.specs.declared.label.Label.{Label}
use Rattle.tso_prog.specs.declared.client.Client.{Client}
use Rattle.tso_replay.specs.declared.report.Report.{Report}
use Rattle.tso_replay.specs.declared.report.Report.TheVariants.{Certified, Violated}
use Rattle.tso_trace.specs.Runs.{IsErrorTrace, first_fault, violation_of}
use Rattle.tso_trace.specs.declared.trace.Trace.{Trace}
use Rattle.tso_trace.specs.declared.trace.Violation.{Violation}

-- the text denotes a client that has a run with a fault, or with calls that no order explains
pub record IsErring (text : List ℕ) : Type 0 where
  pub erring : Client
  pub denotes : DenotesChecked text erring
  pub labels : List Label
  pub run : ∥ IsErrorTrace erring labels ∥₁

-- a certificate is reported only where all runs are good, and a violation only where one is not
abbrev pub IsReport : List ℕ → Report → Type 0
IsReport text (Certified records bytes) = IsVerified text
IsReport text (Violated violation labels bytes) = IsErring text

-- a certificate of so many records
abbrev pub IsOfRecords : ℕ → Report → Type 0
IsOfRecords count (Certified records bytes) = records ≡ count
IsOfRecords count (Violated violation labels bytes) = ⊥

-- a trace of so many labels, and what is wrong with its run
abbrev pub IsOfLabels : Violation → ℕ → Report → Type 0
IsOfLabels wrong count (Certified records bytes) = ⊥
IsOfLabels wrong count (Violated violation labels bytes) = (violation ≡ wrong) × (labels ≡ count)

-- beside a certificate no trace is handed out, and beside a violation the one whose run and labels are reported
abbrev pub IsTold : Report → Option Trace → Type 0
IsTold (Certified records bytes) trace = trace ≡ None
IsTold (Violated violation labels bytes) None = ⊥
IsTold (Violated violation labels bytes) (Some trace) = (violation ≡ violation_of (first_fault trace.labels)) × (labels ≡ length trace.labels)
