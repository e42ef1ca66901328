-- A certificate that is read straight into a store. Nothing here need be believed: it serves the code.
use Rattle.std.specs.Prelude.{◌≡◌, ◌+◌, ◌<◌, ◌^◌, ◌++◌, ◌∷◌, ℕ, List, [], length, Ok, Some, slice_get}
use Rattle.tso_cert.specs.Certificates.{Branch, certificate_at, tree_at}
use Rattle.tso_cert.specs.Lookup.{tree_states}
use Rattle.tso_rec.specs.declared.basis.Grain.TheVariants.{Steps}
use Rattle.tso_state.specs.Rising.{IsRising}
use Rattle.tso_cert.specs.Trees.{Tree, fork, leaf, records_of}
use Rattle.tso_code.specs.Fields.{items_at}
use Rattle.tso_code.specs.States.{state_at}
use Rattle.tso_foot.specs.declared.table.Table.{Table}
use Rattle.tso_prog.specs.declared.client.Client.{Client}
use Rattle.tso_rec.specs.Bases.{by_steps}
use Rattle.tso_rec.specs.Records.{ends_of, states_of}
use Rattle.tso_rec.specs.Spelling.{ending_at, record_at}
use Rattle.tso_rec.specs.declared.record.End.{End}
use Rattle.tso_rec.specs.declared.record.Record.{Record}
use Rattle.tso_scan.specs.Sources.{AreRows, parts_of}
use Rattle.tso_scan.specs.declared.scanned.Scanned.{Scanned}
use Rattle.tso_scan.specs.declared.shape.Shape.{Shape, Leaf, Fork'}
use Rattle.tso_scan.specs.declared.states.Scan.{Scan}
use Rattle.tso_state.specs.declared.state.State.{State}
use Rattle.tso_keys.specs.Keys.{AreKept, Grows, states_at}

abbrev pub scanned_states : Scan → List State
scanned_states s = states_at (parts_of s.sources) s.keys

-- the keys are those of states that fit the client
pub record IsScan (c : Client) (s : Scan) : Type 0 where
  pub kept : AreKept c (parts_of s.sources) s.keys
  pub small : length s.sources.threads < 2 ^ 32
  pub rows : AreRows s.sources.lists s.sources.histories s.sources.rows

-- what was read before is there, and these are the states and ends after it
pub record HasMore (c : Client) (old new : Scan) (ss : List State) (es : List End) : Type 0 where
  pub scan : IsScan c new
  pub grows : Grows (parts_of old.sources) (parts_of new.sources)
  pub states : scanned_states new ≡ scanned_states old ++ ss
  pub ends : new.ends ≡ old.ends ++ es

-- the state at the front of the bytes is the last one
pub record IsStateScanned (c : Client) (old new : Scan) (bytes rest : List ℕ) : Type 0 where
  pub state : State
  pub reads : state_at bytes ≡ Some (state, rest)
  pub more : HasMore c old new (state ∷ []) []

-- the end at the front of the bytes is the last one
pub record IsEndScanned (old new : Scan) (bytes rest : List ℕ) : Type 0 where
  pub end : End
  pub reads : ending_at Steps bytes ≡ Some (end, rest)
  pub ends : new.ends ≡ old.ends ++ end ∷ []
  pub sources : new.sources ≡ old.sources
  pub keys : new.keys ≡ old.keys

-- the record at the front of the bytes is the last one
pub record IsRecordScanned (c : Client) (old new : Scan) (bytes rest : List ℕ) : Type 0 where
  pub last : Record
  pub reads : record_at Steps bytes ≡ Some (last, rest)
  pub more : HasMore c old new (last.state ∷ []) (last.end ∷ [])

-- the last ones are the records at the front of the bytes, so many
pub record AreRecordsScanned (c : Client) (old new : Scan) (many : ℕ) (bytes rest : List ℕ) : Type 0 where
  pub records : List Record
  pub count : length records ≡ many
  pub reads : items_at (record_at Steps) many bytes ≡ Some (records, rest)
  pub more : HasMore c old new (states_of records) (ends_of records)

-- ---- trees

abbrev pub shape_count : Shape → ℕ
shape_count (Leaf n) = n
shape_count (Fork' p left q right) = shape_count left + shape_count right

-- the leaves have so many records, and the forks these halves
abbrev pub IsShapeOf : Shape → Tree → Type 0
IsShapeOf (Leaf n) (leaf records) = n ≡ length records
IsShapeOf (Leaf n) (fork left s right) = ⊥
IsShapeOf (Fork' p one q two) (leaf records) = ⊥
IsShapeOf (Fork' p one q two) (fork left s right) = IsShapeOf one left × IsShapeOf two right

-- each fork's state is the first of its right half
abbrev pub ForksBegin : Tree → Type 0
ForksBegin (leaf records) = Unit {0}
ForksBegin (fork left s right) = ForksBegin left × ForksBegin right × (slice_get (tree_states right) 0 ≡ Some s)

-- what is read is a tree of the last records, of which this is the shape
pub record IsBranchScanned (c : Client) (old new : Scan) (reading : Branch) (sh : Shape) (left : ℕ) (rest : List ℕ) : Type 0 where
  pub tree : Tree
  pub reads : reading ≡ Ok (tree, left, rest)
  pub shape : IsShapeOf sh tree
  pub forks : ForksBegin tree
  pub more : HasMore c old new (tree_states tree) (ends_of (records_of tree))

-- the states and the ends are those of the tree's records, for this client, and the states rise
pub record IsScannedTree (c : Client) (tree : Tree) (s : Scanned) : Type 0 where
  pub client : s.store.client ≡ c
  pub states : s.store.states ≡ tree_states tree
  pub rising : IsRising s.store.states
  pub ends : s.ends ≡ ends_of (records_of tree)
  pub shape : IsShapeOf s.shape tree
  pub forks : ForksBegin tree

-- the bytes behind a table are read as such a tree
pub record IsScannedBehind (c : Client) (t : Table) (bytes : List ℕ) (s : Scanned) : Type 0 where
  pub table : s.table ≡ t
  pub tree : Tree
  pub left : ℕ
  pub reads : tree_at Steps 64 4194304 bytes ≡ Ok (tree, left, [])
  pub scanned : IsScannedTree c tree s

-- the bytes are read as a certificate of steps, of this table and such a tree
pub record IsScanned (c : Client) (bytes : List ℕ) (s : Scanned) : Type 0 where
  pub tree : Tree
  pub reads : certificate_at bytes ≡ Ok (by_steps s.table, tree)
  pub scanned : IsScannedTree c tree s
