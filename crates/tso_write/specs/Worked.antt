-- Worked states, and what is written of them.
use Rattle.std.specs.Io.KnownBytes.{Appends}
use Rattle.std.specs.Prelude.{◌≡◌, ◌++◌, ◌≤◌, ℕ, List, length, Option, Some, slice_get}
use Rattle.tso_cert.specs.Certificates.{Fits, certificate, magic, table_of}
use Rattle.tso_cert.specs.Lookup.{tree_states}
use Rattle.tso_cert.specs.Trees.{IsWithinLimits, Tree, record_count}
use Rattle.tso_foot.specs.declared.table.Table.{Table}
use Rattle.tso_search.specs.declared.ground.Ground.{Ground}
use Rattle.tso_judge.specs.Valid.{IsValidCertificate, IsValidTree}
use Rattle.tso_list.specs.Beginnings.{AppendsBeginning}
use Rattle.tso_prog.specs.declared.client.Client.{Client}
use Rattle.tso_rec.specs.Bases.{basis}
use Rattle.tso_search.specs.Grounds.{HasLeastTable, IsGround, basis_of, grain_of}
use Rattle.tso_search.specs.Searched.{AreSearched}
use Rattle.tso_state.specs.declared.state.State.{State}
use Rattle.tso_keys.specs.Orders.{IsRising}
use Rattle.tso_write.specs.Cutting.{IsHalved}
use Rattle.tso_write.specs.Spelling.{IsFront}
use Rattle.tso_write.specs.Tasks.{uncut}
use Rattle.tso_write.specs.declared.worked.Worked.{Worked}

-- ---- what is worked

-- a store of this client, whose states are worked; by steps with the least closed table
pub record AreWorkedOut (c : Client) (w : Worked) : Type 0 where
  pub client : w.store.client ≡ c
  pub closed : IsGround c w.ground
  pub least : HasLeastTable c w.ground
  pub searched : AreSearched c w.ground w.store.states
  pub few : length w.store.states ≤ 4194304

-- ---- what is written

-- what a search went by and a tree that are valid for the client, within the limits, with each number in its range, with at most so many
-- records, cut in halves; by steps no closed table has less than this one; and their spelling is a valid certificate of the client
pub record IsCertificate (c : Client) (limit : ℕ) (g : Ground) (tree : Tree) : Type 0 where
  pub valid : IsValidTree c (basis_of g) tree
  pub least : HasLeastTable c g
  pub within : IsWithinLimits tree
  pub fits : Fits (basis_of g) tree
  pub few : record_count tree ≤ limit
  pub halved : IsHalved tree
  pub bytes : IsValidCertificate c (certificate (basis_of g) tree)

-- a tree of one record for each of the worked states, and of no others, that is valid with their table
pub record IsTreeOf (c : Client) (w : Worked) (tree : Tree) : Type 0 where
  pub good : IsCertificate c (length w.store.states) w.ground tree
  pub count : record_count tree ≡ length w.store.states
  pub states : (k : ℕ) (s : State) → slice_get (tree_states tree) k ≡ Some s → (n : ℕ) × (slice_get w.store.states n ≡ Some s)

-- there is such a tree
pub record HasTree (c : Client) (w : Worked) : Type 0 where
  pub tree : Tree
  pub made : IsTreeOf c w tree

-- known bytes grow by the spelling of such a tree with a table
pub record IsWritten (c : Client) (w : Worked) (t : Table) (old new : Option (List ℕ)) : Type 0 where
  pub tree : Tree
  pub made : IsTreeOf c w tree
  pub appended : Appends old new (certificate (basis (grain_of w.ground) t) tree)

-- they grow by a beginning of one, as far as it was made: one of all the states, in their order
pub record IsWrittenInPart (c : Client) (w : Worked) (t : Table) (old new : Option (List ℕ)) : Type 0 where
  pub numbers : List ℕ
  pub rising : IsRising w.store.states numbers
  pub front : List ℕ
  pub begun : IsFront (uncut c w.ground w.store.states numbers) front
  pub appended : AppendsBeginning old new (magic (grain_of w.ground) ++ (table_of (grain_of w.ground) t ++ front))
