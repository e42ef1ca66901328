-- Records of a certificate that are judged by their numbers. Nothing here need be believed: it serves the code.
use Rattle.std.specs.Prelude.{◌≡◌, ◌<◌, ◌≤◌, ℕ, List, [], ◌∷◌, length, None, Option, Some, slice_get}
use Rattle.tso_cert.specs.Lookup.{IsOrdered, tree_states}
use Rattle.tso_state.specs.Rising.{IsRising}
use Rattle.tso_cert.specs.Trees.{Tree, record_count, records_of}
use Rattle.tso_check.specs.Verdicts.{IsTreeFault, IsTreeVerdict}
use Rattle.tso_check.specs.declared.judging.Bad.{Bad}
use Rattle.tso_check.specs.declared.verdict.Verdict.{Verdict}
use Rattle.tso_foot.specs.Closed.{IsClosed}
use Rattle.tso_foot.specs.Within.{IsWithin}
use Rattle.tso_rec.specs.Conditions.{SuccessorsAreKept}
use Rattle.tso_judge.specs.Judging.{IsFirstFault}
use Rattle.tso_judge.specs.Valid.{HasInitial, IsValidRecord}
use Rattle.tso_judge.specs.declared.code.Code.{Code}
use Rattle.tso_prog.specs.declared.client.Client.{Client}
use Rattle.tso_rec.specs.Bases.{by_steps}
use Rattle.tso_rec.specs.Records.{states_of}
use Rattle.tso_rec.specs.declared.basis.Basis.{Basis}
use Rattle.tso_rec.specs.declared.record.End.{End}
use Rattle.tso_rec.specs.declared.record.Record.{Record}
use Rattle.tso_scan.specs.Scanned.{IsScannedTree, shape_count}
use Rattle.tso_scan.specs.declared.scanned.Scanned.{Scanned}
use Rattle.tso_state.specs.declared.state.State.{State}

-- ---- the conditions of the tree and the table as wholes

pub record IsWhole (c : Client) (b : Basis) (tree : Tree) : Type 0 where
  pub ordered : IsOrdered tree
  pub closed : IsClosed c b.table
  pub initial : HasInitial c b (tree_states tree)

-- they hold, or this is the code of the first that fails
abbrev pub IsWholeFault : Client → Basis → Tree → Option Code → Type 0
IsWholeFault c b tree None = IsWhole c b tree
IsWholeFault c b tree (Some code) = IsTreeFault c b tree code None

-- ---- records from one number up to another

-- some of the records of a client's certificate
pub record Span : Type 0 where
  pub client : Client
  pub basis : Basis
  -- all of them
  pub records : List Record
  pub from : ℕ
  pub to : ℕ

abbrev pub AreValidBetween : Client → Basis → List Record → ℕ → ℕ → Type 0
AreValidBetween c b records from to = (k : ℕ) (r : Record) → from ≤ k → k < to → slice_get records k ≡ Some r → IsValidRecord c b (states_of records) r

-- the first that is not valid
pub record IsFirstBadBetween (c : Client) (b : Basis) (records : List Record) (from to : ℕ) (bad : Bad) : Type 0 where
  pub begins : from ≤ bad.place
  pub ends : bad.place < to
  pub found : Record
  pub at : slice_get records bad.place ≡ Some found
  pub before : AreValidBetween c b records from bad.place
  pub fault : IsFirstFault c b (SuccessorsAreKept c b (states_of records) found.state found.end) (IsWithin b.table found.state) found.state found.end bad.code

-- all are valid, or this is the first that is not
abbrev pub IsSpanJudged : Span → Option Bad → Type 0
IsSpanJudged s None = AreValidBetween s.client s.basis s.records s.from s.to
IsSpanJudged s (Some bad) = IsFirstBadBetween s.client s.basis s.records s.from s.to bad

-- the records of one up to a number, and those of the other from there on
pub record AreHalves (whole left right : Span) : Type 0 where
  pub middle : ℕ
  pub begins : whole.from ≤ middle
  pub ends : middle ≤ whole.to
  pub left_is : left ≡ record { client = whole.client; basis = whole.basis; records = whole.records; from = whole.from; to = middle }
  pub right_is : right ≡ record { client = whole.client; basis = whole.basis; records = whole.records; from = middle; to = whole.to }

-- all records of a tree
abbrev pub whole_span : Client → Basis → Tree → Span
whole_span c b tree = record { client = c; basis = b; records = records_of tree; from = 0; to = record_count tree }

-- ---- certificates in a store

-- states with their ends
abbrev pub records_with : List State → List End → List Record
records_with [] es = []
records_with (s ∷ ss) [] = []
records_with (s ∷ ss) (e ∷ es) = record { state = s; end = e } ∷ records_with ss es

-- each state of the client's certificate has an end, they are as many as the shape says, and rise
pub record IsStored (c : Client) (s : Scanned) : Type 0 where
  pub client : s.store.client ≡ c
  pub long : length s.store.states ≡ length s.ends
  pub count : shape_count s.shape ≡ length s.ends
  pub few : length s.store.states ≤ 4194304
  pub rising : IsRising s.store.states

abbrev pub stored_span : Client → Scanned → ℕ → ℕ → Span
stored_span c s from to = record { client = c; basis = by_steps s.table; records = records_with s.store.states s.ends; from = from; to = to }

-- what is found of the tree as a whole, whatever tree this is
abbrev pub IsWholeFaultOf : Client → Scanned → Option Code → Type 0
IsWholeFaultOf c s code = (tree : Tree) → IsScannedTree c tree s → IsWholeFault c (by_steps s.table) tree code

abbrev pub IsVerdictOn : Client → Scanned → Verdict → Type 0
IsVerdictOn c s v = (tree : Tree) → IsScannedTree c tree s → IsTreeVerdict c (by_steps s.table) tree v
