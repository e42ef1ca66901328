-- What the check of a certificate answers: that it is valid, or the first condition that fails.
use Rattle.std.specs.Prelude.{◌≡◌, ◌+◌, ◌<◌, ◌++◌, ℕ, List, None, Option, Some, codes, decimal, slice_get, Result, Ok, Err}
use Rattle.tso_cert.specs.Certificates.{Spells}
use Rattle.tso_cert.specs.declared.fault.DecodeError.{DecodeError}
use Rattle.tso_cert.specs.declared.fault.DecodeError.TheVariants as errors
use Rattle.tso_cert.specs.declared.fault.Fault.{Fault}
use Rattle.tso_cert.specs.declared.fault.Fault.TheVariants as limits
use Rattle.tso_cert.specs.Limits.{IsNoCertificate, PassesLimit}
use Rattle.tso_cert.specs.Lookup.{IsOrdered, tree_states}
use Rattle.tso_cert.specs.Trees.{IsWithinLimits, Tree, records_of}
use Rattle.tso_client.specs.Headline.{DenotesChecked}
use Rattle.tso_client.specs.Programs.{IsNoVerdict}
use Rattle.tso_judge.specs.Valid.{AreValidRecords, HasInitial, IsValidCertificate, IsValidRecord, IsValidTree}
use Rattle.tso_client.specs.declared.error.CheckError.{CheckError}
use Rattle.tso_check.specs.declared.verdict.Verdict.{Verdict}
use Rattle.tso_check.specs.declared.verdict.Verdict.TheVariants.{Accepted, Rejected}
use Rattle.tso_check.specs.declared.judging.Bad.{Bad}
use Rattle.tso_foot.specs.Closed.{IsClosed}
use Rattle.tso_foot.specs.Within.{IsWithin}
use Rattle.tso_judge.specs.Codes.{code_text}
use Rattle.tso_rec.specs.Conditions.{SuccessorsAreKept}
use Rattle.tso_judge.specs.Judging.{IsFirstFault}
use Rattle.tso_judge.specs.declared.code.Code.{Code}
use Rattle.tso_judge.specs.declared.code.Code.TheVariants as faults
use Rattle.tso_prog.specs.declared.client.Client.{Client}
use Rattle.tso_rec.specs.declared.basis.Basis.{Basis}
use Rattle.tso_rec.specs.declared.record.Record.{Record}
use Rattle.tso_state.specs.declared.state.State.{State}

-- a verdict as it is printed: accepted; or rejected, the code, and the number of the record, if there is one
abbrev pub verdict_text : Verdict → List ℕ
verdict_text Accepted = codes "accepted"
verdict_text (Rejected code None) = codes "rejected " ++ code_text code
verdict_text (Rejected code (Some place)) = codes "rejected " ++ (code_text code ++ (codes " at record " ++ decimal place))

-- the code of a fault of bytes
abbrev pub code_of : Fault → Code
code_of limits.K01 = faults.K01
code_of limits.K02 = faults.K02

-- the verdict on bytes with this fault
abbrev pub IsOfFault : DecodeError → Verdict → Type 0
IsOfFault e v = (f : Fault) × (e ≡ errors.Fault f) × (v ≡ Rejected (code_of f) None)

-- of these records, the one at this place is the first that is not valid, with its first fault
pub record IsFirstBadRecord (c : Client) (b : Basis) (states : List State) (records : List Record) (place : ℕ) (code : Code) : Type 0 where
  pub bad : Record
  pub at : slice_get records place ≡ Some bad
  pub before : (k : ℕ) (r : Record) → k < place → slice_get records k ≡ Some r → IsValidRecord c b states r
  pub fault : IsFirstFault c b (SuccessorsAreKept c b states bad.state bad.end) (IsWithin b.table bad.state) bad.state bad.end code

-- the first condition of a basis and a tree that fails, and the number of its record, if it is one of a record
pub data IsTreeFault (c : Client) (b : Basis) (tree : Tree) : Code → Option ℕ → Type 0 where
  not_ordered : (IsOrdered tree → ⊥) → IsTreeFault c b tree faults.K03 None
  not_closed : IsOrdered tree → (IsClosed c b.table → ⊥) → IsTreeFault c b tree faults.K04 None
  no_initial : IsOrdered tree → IsClosed c b.table → (HasInitial c b (tree_states tree) → ⊥) → IsTreeFault c b tree faults.K09 None
  of_record : (code : Code) (place : ℕ) → IsOrdered tree → IsClosed c b.table → HasInitial c b (tree_states tree)
      → IsFirstBadRecord c b (tree_states tree) (records_of tree) place code → IsTreeFault c b tree code (Some place)

-- the first condition of a certificate that fails
pub data IsFault (c : Client) (bytes : List ℕ) : Code → Option ℕ → Type 0 where
  no_certificate : IsNoCertificate bytes → IsFault c bytes faults.K01 None
  past_limit : PassesLimit bytes → IsFault c bytes faults.K02 None
  of_tree : (code : Code) (place : Option ℕ) (b : Basis) (tree : Tree) → Spells bytes b tree → IsWithinLimits tree → IsTreeFault c b tree code place → IsFault c bytes code place

-- records that are judged from left to right, of which the first has this number in the tree: all are valid, or this is the
-- first that is not, by its number
abbrev pub AreJudged : Client → Basis → List State → List Record → ℕ → Option Bad → Type 0
AreJudged c b states records start None = AreValidRecords c b states records
AreJudged c b states records start (Some bad) = (k : ℕ) × (bad.place ≡ start + k) × IsFirstBadRecord c b states records k bad.code

-- the verdict on a basis and a tree
abbrev pub IsTreeVerdict : Client → Basis → Tree → Verdict → Type 0
IsTreeVerdict c b tree Accepted = IsValidTree c b tree
IsTreeVerdict c b tree (Rejected code place) = IsTreeFault c b tree code place

-- the verdict on bytes as a certificate for the client
abbrev pub IsVerdict : Client → List ℕ → Verdict → Type 0
IsVerdict c bytes Accepted = IsValidCertificate c bytes
IsVerdict c bytes (Rejected code place) = IsFault c bytes code place

-- what a check of a program text and bytes answers: the verdict for the checked client that the text denotes, or why there is none
abbrev pub IsAnswer : List ℕ → List ℕ → Result Verdict CheckError → Type 0
IsAnswer text bytes (Ok v) = (c : Client) × DenotesChecked text c × IsVerdict c bytes v
IsAnswer text bytes (Err e) = IsNoVerdict text e
