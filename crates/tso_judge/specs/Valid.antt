-- Valid certificates of a client.
use Rattle.std.specs.Prelude.{◌≡◌, ℕ, Contains, List, Some, slice_get}
use Rattle.tso_cert.specs.Certificates.{Spells}
use Rattle.tso_cert.specs.Lookup.{IsOrdered, tree_states}
use Rattle.tso_cert.specs.Trees.{IsWithinLimits, Tree, records_of}
use Rattle.tso_compact.specs.Laws.{initial_of}
use Rattle.tso_foot.specs.Closed.{IsClosed}
use Rattle.tso_foot.specs.Within.{IsWithin}
use Rattle.tso_foot.specs.declared.table.ArrayTable.{ArrayTable}
use Rattle.tso_foot.specs.declared.table.Table.{Table}
use Rattle.tso_move.specs.Crossed.{IsMetFrom}
use Rattle.tso_rec.specs.Conditions.{AreMet, IsLeast, SuccessorsAreKept}
use Rattle.tso_prog.specs.declared.client.Client.{Client}
use Rattle.tso_rec.specs.declared.basis.Basis.{Basis}
use Rattle.tso_rec.specs.declared.basis.Grain.{Grain}
use Rattle.tso_rec.specs.declared.basis.Grain.TheVariants.{Steps, Crossings}
use Rattle.tso_rec.specs.declared.record.Record.{Record}
use Rattle.tso_state.specs.Views.{state_of}
use Rattle.tso_state.specs.declared.state.State.{State}

-- one of the states is the initial one
pub record ContainsInitial (c : Client) (states : List State) : Type 0 where
  pub initial : State
  pub first : state_of initial ≡ initial_of c
  pub there : Contains states initial

-- the run from the initial state stops in one of the states
pub record MeetsInitial (c : Client) (t : Table) (states : List State) : Type 0 where
  pub own : ArrayTable
  pub least : IsLeast c own
  pub initial : State
  pub first : state_of initial ≡ initial_of c
  pub met : IsMetFrom c own t states initial

abbrev pub HasInitialBy : Client → Grain → Table → List State → Type 0
HasInitialBy c Steps t states = ContainsInitial c states
HasInitialBy c Crossings t states = MeetsInitial c t states

abbrev pub HasInitial : Client → Basis → List State → Type 0
HasInitial c b states = HasInitialBy c b.grain b.table states

-- a record meets all conditions, where these are the states of the records
abbrev pub IsValidRecord : Client → Basis → List State → Record → Type 0
IsValidRecord c b states r = AreMet c b (SuccessorsAreKept c b states r.state r.end) (IsWithin b.table r.state) r.state r.end

-- each of these records is so
abbrev pub AreValidRecords : Client → Basis → List State → List Record → Type 0
AreValidRecords c b states records = (k : ℕ) (r : Record) → slice_get records k ≡ Some r → IsValidRecord c b states r

-- what a basis and a tree have to meet beside their spelling
pub record IsValidTree (c : Client) (b : Basis) (tree : Tree) : Type 0 where
  -- the states rise strictly from record to record, and each fork's state is above those of its left half and at most those
  -- of its right half
  pub ordered : IsOrdered tree
  pub closed : IsClosed c b.table
  pub initial : HasInitial c b (tree_states tree)
  pub records : AreValidRecords c b (tree_states tree) (records_of tree)

-- the bytes are a valid certificate for the client: they spell a basis and a tree, within the limits, which are valid
pub record IsValidCertificate (c : Client) (bytes : List ℕ) : Type 0 where
  pub basis : Basis
  pub tree : Tree
  pub spelled : Spells bytes basis tree
  pub within : IsWithinLimits tree
  pub valid : IsValidTree c basis tree
