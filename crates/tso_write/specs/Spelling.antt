-- Worked states that are spelled as the records of a tree, before there is one. Nothing here need be believed but for the fronts.
use Rattle.std.specs.Io.KnownBytes.{Appends}
use Rattle.std.specs.List.{flat_map}
use Rattle.std.specs.Prelude.{◌≡◌, ℕ, List, [], ◌∷◌, ◌++◌, get_or, Option, Some, slice_get, take}
use Rattle.tso_cert.specs.Trees.{Tree, spelling_of}
use Rattle.tso_code.specs.States.{state}
use Rattle.tso_rec.specs.declared.basis.Grain.{Grain}
use Rattle.tso_search.specs.Grounds.{grain_of}
use Rattle.tso_write.specs.Cutting.{AreRecordsOf, IsRecordOf}
use Rattle.tso_write.specs.Tasks.{AreHalvesCut, CanBeCut, IsCutOf, Numbered, uncut}
use Rattle.tso_list.specs.Beginnings.{AppendsBeginning}
use Rattle.tso_prog.specs.declared.client.Client.{Client}
use Rattle.tso_rec.specs.Spelling.{a_record}
use Rattle.tso_rec.specs.declared.record.End.{End}
use Rattle.tso_rec.specs.declared.record.Record.{Record}
use Rattle.tso_state.specs.declared.state.State.{State}

-- ---- fronts

-- The beginning of the spelling of a tree that is cut of states, as far as it was made: nothing, a whole tree, or a fork whose left half
-- begins so, or whose left half is whole and whose right half begins so.
pub data IsFront : Numbered → List ℕ → Type 0 where
  Nothing : (u : Numbered) → IsFront u []
  Whole : (u : Numbered) (tree : Tree) → IsCutOf u tree → IsFront u (spelling_of (grain_of u.ground) tree)
  InLeft : (u left right : Numbered) (front : List ℕ) → AreHalvesCut u left right → IsFront left front → IsFront u (1 ∷ front)
  InRight : (u left right : Numbered) (tree : Tree) (s : State) (front : List ℕ) → AreHalvesCut u left right → IsCutOf left tree
      → slice_get u.states (get_or right.numbers 0 0) ≡ Some s → IsFront right front → IsFront u (1 ∷ (spelling_of (grain_of u.ground) tree ++ (state s ++ front)))

-- ---- bytes

-- the spelling of a tree that is cut of these states stands behind bytes
pub record IsSpelledBehind (u : Numbered) (old new : List ℕ) : Type 0 where
  pub tree : Tree
  pub cut : IsCutOf u tree
  pub spelled : new ≡ old ++ spelling_of (grain_of u.ground) tree

-- these bytes are such a spelling
pub record IsSpelledCut (u : Numbered) (bytes : List ℕ) : Type 0 where
  pub tree : Tree
  pub cut : IsCutOf u tree
  pub spelled : bytes ≡ spelling_of (grain_of u.ground) tree

-- the spelling of the state with this number stands behind bytes
pub record IsStateBehind (states : List State) (n : ℕ) (old new : List ℕ) : Type 0 where
  pub spelled : State
  pub at : slice_get states n ≡ Some spelled
  pub is : new ≡ old ++ state spelled

-- the spelling of the record of the state with this number and this end stands behind bytes
pub record IsEndedBehind (g : Grain) (states : List State) (n : ℕ) (e : End) (old new : List ℕ) : Type 0 where
  pub spelled : State
  pub at : slice_get states n ≡ Some spelled
  pub is : new ≡ old ++ a_record g (record { state = spelled; end = e })

-- the spelling of a valid record of the state with this number stands behind bytes
pub record IsRecordBehind (u : Numbered) (n : ℕ) (old new : List ℕ) : Type 0 where
  pub spelled : Record
  pub valid : IsRecordOf u.client u.ground u.states n spelled
  pub is : new ≡ old ++ a_record (grain_of u.ground) spelled

-- the spellings of the records of the first k of these states stand behind bytes
pub record AreSpelledBehind (u : Numbered) (k : ℕ) (old new : List ℕ) : Type 0 where
  pub records : List Record
  pub are : AreRecordsOf u.client u.ground u.states (take k u.numbers) records
  pub is : new ≡ old ++ flat_map (a_record (grain_of u.ground)) records

-- ---- writers

-- known bytes grow by the spelling of a tree that is cut of these states
pub record IsPut (u : Numbered) (old new : Option (List ℕ)) : Type 0 where
  pub tree : Tree
  pub cut : IsCutOf u tree
  pub appended : Appends old new (spelling_of (grain_of u.ground) tree)

-- they grow by a beginning of one, as far as it was made
pub record IsPutInPart (u : Numbered) (old new : Option (List ℕ)) : Type 0 where
  pub front : List ℕ
  pub begun : IsFront u front
  pub appended : AppendsBeginning old new front

-- ---- spelling

-- a store of this client has such states, which can be cut, and these are the spellings of their parts
pub record CanBeSpelled (u : Numbered) (kept : Client) (spelled : List State) : Type 0 where
  pub client : kept ≡ u.client
  pub cut : CanBeCut u
  pub same : spelled ≡ u.states

-- ---- slabs

-- some of the states that threads spell for one another, without their numbers
abbrev pub AreOf : Option Numbered → Numbered → Type 0
AreOf source u = source ≡ Some (uncut u.client u.ground u.states [])

-- a slab of them
pub record IsSlab (source : Option Numbered) (u : Numbered) (kept : Client) (spelled : List State) : Type 0 where
  pub of : AreOf source u
  pub ready : CanBeSpelled u kept spelled

-- the bytes of those with these numbers
abbrev pub AreBytesFor : Option Numbered → List ℕ → List ℕ → Type 0
AreBytesFor source ns bytes = (u : Numbered) → AreOf source u → u.numbers ≡ ns → IsSpelledCut u bytes
