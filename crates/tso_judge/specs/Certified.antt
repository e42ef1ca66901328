-- Certificates whose numbers are in the ranges of their spelling.
use Rattle.std.specs.Prelude.{◌≡◌, ℕ, List, [], Some, slice_get}
use Rattle.tso_cert.specs.Certificates.{Fits}
use Rattle.tso_cert.specs.Lookup.{tree_states}
use Rattle.tso_cert.specs.Trees.{IsWithin, Tree, fork, leaf, records_of}
use Rattle.tso_compact.specs.Laws.{initial_of}
use Rattle.tso_foot.specs.Closed.{IsClosed}
use Rattle.tso_foot.specs.declared.table.Table.{Table}
use Rattle.tso_foot.specs.declared.table.Table.TheVariants.{Arrays, Intervals}
use Rattle.tso_judge.specs.Valid.{IsValidRecord}
use Rattle.tso_machine.specs.Programs.{program_of}
use Rattle.tso_model.specs.Reduce as model
use Rattle.tso_model.specs.Steps.{Actor, step}
use Rattle.tso_prog.specs.declared.client.Client.{Client}
use Rattle.tso_rec.specs.declared.basis.Basis.{Basis}
use Rattle.tso_rec.specs.declared.basis.Grain.{Grain}
use Rattle.tso_rec.specs.declared.basis.Grain.TheVariants.{Steps, Crossings}
use Rattle.tso_rec.specs.declared.record.End.{End}
use Rattle.tso_rec.specs.declared.record.End.TheVariants.{Choices, Order}
use Rattle.tso_rec.specs.declared.record.Record.{Record}
use Rattle.tso_state.specs.Views.{state_of}
use Rattle.tso_state.specs.declared.state.State.{State}

-- each fork's state is that of the first record of its right half
abbrev pub ForksAreFirsts : Tree → Type 0
ForksAreFirsts (leaf records) = Unit {0}
ForksAreFirsts (fork left s right) = (slice_get (tree_states right) 0 ≡ Some s) × ForksAreFirsts left × ForksAreFirsts right

-- at a crossing no choices are written
abbrev pub IsBare : Grain → End → Type 0
IsBare Steps e = Unit {0}
IsBare Crossings (Choices choices) = choices ≡ []
IsBare Crossings (Order order) = Unit {0}

-- a valid record of a certificate, where these are the states of all, of a state that steps reach
pub record IsReachedRecord (c : Client) (b : Basis) (states : List State) (r : Record) : Type 0 where
  pub valid : IsValidRecord c b states r
  pub bare : IsBare b.grain r.end
  pub actors : List Actor
  pub steps : model.Steps (step (program_of c)) (initial_of c) actors (state_of r.state)

-- certificates of crossings have tables of intervals alone
abbrev pub HasTable : Grain → Table → Type 0
HasTable Steps t = Unit {0}
HasTable Crossings (Arrays t) = ⊥
HasTable Crossings (Intervals t) = Unit {0}

-- the numbers of a closed table and of a tree of such records are in range
abbrev pub CertificatesFit : Client → Type 0
CertificatesFit c = (b : Basis) (tree : Tree) (states : List State) → IsClosed c b.table → HasTable b.grain b.table → IsWithin 64 tree → ForksAreFirsts tree
    → ((k : ℕ) (r : Record) → slice_get (records_of tree) k ≡ Some r → IsReachedRecord c b states r) → Fits b tree
