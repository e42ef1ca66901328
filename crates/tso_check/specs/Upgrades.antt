-- Certificates that are spelled anew with a table of intervals.
use Rattle.std.specs.Prelude.{◌≡◌, ℕ, Err, List, Ok, Result}
use Rattle.tso_cells.specs.declared.table.IntervalTable.{IntervalTable}
use Rattle.tso_cells.specs.Inductive.{IsInductive}
use Rattle.tso_cert.specs.Certificates.{Spells, certificate}
use Rattle.tso_cert.specs.Lookup.{tree_states}
use Rattle.tso_cert.specs.Seen.{AreWithin}
use Rattle.tso_cert.specs.Trees.{IsWithinLimits, Tree, record_count}
use Rattle.tso_check.specs.Verdicts.{IsAnswer, IsVerdict}
use Rattle.tso_check.specs.declared.upgrading.UpgradeError.{UpgradeError}
use Rattle.tso_check.specs.declared.upgrading.UpgradeError.TheVariants.{Memory, NotAccepted}
use Rattle.tso_check.specs.declared.verdict.Verdict.{Verdict}
use Rattle.tso_check.specs.declared.verdict.Verdict.TheVariants.{Accepted, Rejected}
use Rattle.tso_client.specs.declared.error.CheckError.{CheckError}
use Rattle.tso_client.specs.declared.error.CheckError.TheVariants as errors
use Rattle.tso_foot.specs.Narrower.{IsNarrowerThanClosed}
use Rattle.tso_foot.specs.declared.table.Table.{Table}
use Rattle.tso_foot.specs.declared.table.Table.TheVariants.{Intervals}
use Rattle.tso_judge.specs.Valid.{IsValidCertificate}
use Rattle.tso_prog.specs.declared.client.Client.{Client}
use Rattle.tso_rec.specs.Bases.{basis, by_steps}
use Rattle.tso_rec.specs.declared.basis.Basis.{Basis}
use Rattle.tso_rec.specs.declared.basis.Grain.{Grain}

-- the second bytes spell the tree of the first, with a table of intervals; where the first have one too, they are the same
pub record IsSpelledAnew (bytes upgraded : List ℕ) : Type 0 where
  pub grain : Grain
  pub table : Table
  pub tree : Tree
  pub intervals : IntervalTable
  pub before : Spells bytes (basis grain table) tree
  pub after : Spells upgraded (basis grain (Intervals intervals)) tree
  pub same : (t : IntervalTable) → table ≡ Intervals t → upgraded ≡ bytes

-- bytes that spell the tree with an inductive table of intervals in which the running registers of all its states lie, and which names only
-- arrays that every closed table of arrays has
pub record IsMadeFor (c : Client) (tree : Tree) (bytes : List ℕ) : Type 0 where
  pub intervals : IntervalTable
  pub inductive : IsInductive c intervals
  pub within : AreWithin (Intervals intervals) (tree_states tree)
  pub narrow : IsNarrowerThanClosed c intervals
  pub written : bytes ≡ certificate (by_steps (Intervals intervals)) tree

-- so it is, they spell this tree, and both are valid for the client
pub record IsRenewed (c : Client) (tree : Tree) (bytes upgraded : List ℕ) : Type 0 where
  pub before : IsValidCertificate c bytes
  pub after : IsValidCertificate c upgraded
  pub spelled : IsSpelledAnew bytes upgraded
  pub same : spelled.tree ≡ tree

-- the bytes spell a certificate, within the limits, of so many records
pub record HasRecords (bytes : List ℕ) (count : ℕ) : Type 0 where
  pub basis : Basis
  pub tree : Tree
  pub spelled : Spells bytes basis tree
  pub within : IsWithinLimits tree
  pub counted : count ≡ record_count tree

-- the same, and the tree has so many records
pub record IsRenewedWith (c : Client) (bytes upgraded : List ℕ) (count : ℕ) : Type 0 where
  pub tree : Tree
  pub within : IsWithinLimits tree
  pub renewed : IsRenewed c tree bytes upgraded
  pub counted : count ≡ record_count tree

-- why there are no upgraded bytes for the client: its verdict does not accept
abbrev pub IsNotRenewed : Client → List ℕ → UpgradeError → Type 0
IsNotRenewed c bytes (NotAccepted (Ok Accepted)) = ⊥
IsNotRenewed c bytes (NotAccepted (Ok (Rejected code place))) = IsVerdict c bytes (Rejected code place)
IsNotRenewed c bytes (NotAccepted (Err e)) = ⊥
IsNotRenewed c bytes Memory = Unit {0}

-- so it is, and both are accepted for the client of the text
pub record IsUpgraded (text bytes upgraded : List ℕ) : Type 0 where
  pub before : IsAnswer text bytes (Ok Accepted)
  pub after : IsAnswer text upgraded (Ok Accepted)
  pub spelled : IsSpelledAnew bytes upgraded

-- an answer of the check that does not accept, and is not want of memory
pub record IsNoAcceptance (answer : Result Verdict CheckError) : Type 0 where
  pub not_accepted : answer ≡ Ok Accepted → ⊥
  pub not_memory : answer ≡ Err errors.Memory → ⊥

-- why there are no upgraded bytes: this is what the check answers
abbrev pub IsNotUpgraded : List ℕ → List ℕ → UpgradeError → Type 0
IsNotUpgraded text bytes (NotAccepted answer) = IsAnswer text bytes answer × IsNoAcceptance answer
IsNotUpgraded text bytes Memory = Unit {0}
