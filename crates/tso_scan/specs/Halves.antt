-- Trees that are read by themselves and put together. Nothing here need be believed: it serves the code.
use Rattle.std.specs.Prelude.{◌≡◌, ◌+◌, ◌-◌, ◌≤◌, ◌++◌, ◌∷◌, ℕ, Bool, IsTrue, List, [], false, length, Ok, Some, slice_get, true}
use Rattle.tso_cert.specs.Certificates.{tree_at}
use Rattle.tso_cert.specs.Lookup.{tree_states}
use Rattle.tso_rec.specs.declared.basis.Grain.TheVariants.{Steps}
use Rattle.tso_state.specs.Rising.{IsRising}
use Rattle.tso_cert.specs.Trees.{Tree, fork, records_of}
use Rattle.tso_code.specs.States.{state_at}
use Rattle.tso_foot.specs.declared.table.Table.{Table}
use Rattle.tso_prog.specs.declared.client.Client.{Client}
use Rattle.tso_rec.specs.Records.{ends_of}
use Rattle.tso_scan.specs.Scanned.{ForksBegin, IsBranchScanned, IsShapeOf, scanned_states}
use Rattle.tso_scan.specs.declared.halves.Half.{Half}
use Rattle.tso_scan.specs.declared.halves.Records.{Records}
use Rattle.tso_scan.specs.declared.halves.Twig.{Twig}
use Rattle.tso_scan.specs.declared.halves.Unread.{Unread}
use Rattle.tso_scan.specs.Parts.{text_of}
use Rattle.tso_scan.specs.declared.whole.Whole.{Whole}
use Rattle.tso_scan.specs.declared.scanned.Scanned.{Scanned}
use Rattle.tso_scan.specs.declared.shape.Shape.{Shape}
use Rattle.tso_scan.specs.declared.states.Scan.{Scan}
use Rattle.tso_state.specs.declared.state.State.{State}
use Rattle.tso_store.specs.Gathering.{Gathering}

-- these are the bytes behind some of the others
pub record IsEnd (bytes end : List ℕ) : Type 0 where
  pub front : List ℕ
  pub is : bytes ≡ front ++ end

-- ---- a tree that is read

-- a tree with at most room records, in which at most depth forks are inside one another, is read at the front of the bytes
pub record Stretch : Type 0 where
  pub client : Client
  pub depth : ℕ
  pub room : ℕ
  pub bytes : List ℕ

abbrev pub stretch_of : Client → ℕ → ℕ → List ℕ → Stretch
stretch_of c depth room bytes = record { client = c; depth = depth; room = room; bytes = bytes }

-- what an unread tree is read from
abbrev pub stretch_at : Unread → Stretch
stretch_at u = stretch_of u.checked.now.client u.depth u.room (text_of u.bytes.now u.more.now)

abbrev pub are_some : List (List ℕ) → Bool
are_some [] = false
are_some (part ∷ parts) = true

-- whether it lies in several parts
abbrev pub is_apart : Unread → Bool
is_apart u = are_some u.more.now

-- half of what is behind a fork's byte, which lies there
abbrev pub IsHalfAt : Unread → List ℕ → Unread → Type 0
IsHalfAt u text half = stretch_at half ≡ stretch_of u.checked.now.client (u.depth - 1) u.room text

-- the left half is all that is behind a fork's byte, and the right one begins somewhere in it
pub record AreWithin (u : Unread) (behind : List ℕ) (halves : Unread × Unread) : Type 0 where
  pub left : IsHalfAt u behind halves.0
  pub second : List ℕ
  pub right : IsHalfAt u second halves.1
  pub ends : IsEnd behind second

-- the halves are what is behind a fork's byte
pub record AreApart (u : Unread) (behind : List ℕ) (halves : Unread × Unread) : Type 0 where
  pub first : List ℕ
  pub left : IsHalfAt u first halves.0
  pub second : List ℕ
  pub right : IsHalfAt u second halves.1
  pub are : text_of behind u.more.now ≡ first ++ second

-- what lies behind the byte of a fork; where its halves lie apart, they are what lies there, and else the left half is all of that, and
-- the right half begins somewhere further on
abbrev pub AreBehind : Bool → (behind left right : List ℕ) → Type 0
AreBehind false behind left right = (left ≡ behind) × IsEnd behind right
AreBehind true behind left right = behind ≡ left ++ right

-- a fork stands at the front, behind whose byte the halves lie
pub record AreHalvesOf (apart : Bool) (whole left right : Stretch) : Type 0 where
  pub deep : whole.depth ≡ 0 → ⊥
  pub behind : List ℕ
  pub fork : whole.bytes ≡ 1 ∷ behind
  pub left_is : left ≡ stretch_of whole.client (whole.depth - 1) whole.room left.bytes
  pub right_is : right ≡ stretch_of whole.client (whole.depth - 1) whole.room right.bytes
  pub are : AreBehind apart behind left.bytes right.bytes

-- the tree at the front of the bytes, so many of which are behind it, is that of the last records
pub record IsTwig (c : Client) (old new : Scan) (depth room : ℕ) (bytes : List ℕ) (t : Twig) : Type 0 where
  pub rest : List ℕ
  pub behind : t.behind ≡ length rest
  pub is : IsBranchScanned c old new (tree_at Steps depth room bytes) t.shape t.room rest

-- all that was read, as one tree
pub record IsHalfOf (c : Client) (scan : Scan) (t : Twig) (h : Half) : Type 0 where
  pub client : h.states.client ≡ c
  pub states : h.states.states ≡ scanned_states scan
  pub rises : IsTrue h.rises → IsRising h.states.states
  pub ends : h.records.ends ≡ scan.ends
  pub shape : h.records.shape ≡ t.shape
  pub room : h.records.room ≡ t.room
  pub behind : h.records.behind ≡ t.behind

-- the states and the ends are those of the records of the tree at the front of the bytes; the states rise where that is known
pub record IsTreeRead (s : Stretch) (h : Half) : Type 0 where
  pub tree : Tree
  pub rest : List ℕ
  pub behind : h.records.behind ≡ length rest
  pub reads : tree_at Steps s.depth s.room s.bytes ≡ Ok (tree, h.records.room, rest)
  pub client : h.states.client ≡ s.client
  pub states : h.states.states ≡ tree_states tree
  pub rises : IsTrue h.rises → IsRising h.states.states
  pub ends : h.records.ends ≡ ends_of (records_of tree)
  pub shape : IsShapeOf h.records.shape tree
  pub forks : ForksBegin tree

-- ---- halves that are put together

-- the states of another store are behind those that were there, and the middle is the first of them
pub record AreTakenIn (old others : List State) (middle : State) (new : List State) : Type 0 where
  pub states : new ≡ old ++ others
  pub at : slice_get new (length old) ≡ Some middle

-- so many records may still come behind a half, where all of these could come
pub record IsRoom (all first second room : ℕ) : Type 0 where
  pub enough : second ≤ all
  pub is : first ≡ room + (all - second)

-- where halves lie apart, nothing is left of the left one, and else as much as there is of the right one
abbrev pub Meet : Bool → (rest right : List ℕ) → Type 0
Meet false rest right = length rest ≡ length right
Meet true rest right = rest ≡ []

-- where a fork's halves meet stands its state, and so many records may still come
pub record IsSeam (apart : Bool) (left right : Stretch) (first second : Records) (middle : State) (room : ℕ) : Type 0 where
  pub end : List ℕ
  pub ends : IsEnd left.bytes end
  pub long : length end ≡ first.behind
  pub rest : List ℕ
  pub reads : state_at end ≡ Some (middle, rest)
  pub meet : Meet apart rest right.bytes
  pub fits : IsRoom right.room first.room second.room room

-- a fork's state stands between what the halves were read from, and the states of the second are behind those of the first
pub record AreGrafted (apart : Bool) (left right : Stretch) (first : Records) (second : Half) (old new : Gathering) (room : ℕ) : Type 0 where
  pub middle : State
  pub seam : IsSeam apart left right first second.records middle room
  pub client : new.client ≡ old.client
  pub taken : AreTakenIn old.states second.states.states middle new.states

-- a fork of trees of these shapes has this one
abbrev pub IsForkShape : Shape → Shape → Shape → Type 0
IsForkShape one two whole = (left right : Tree) (s : State) → IsShapeOf one left → IsShapeOf two right → IsShapeOf whole (fork left s right)

-- the ends are those of both halves, and behind is what is behind the second
pub record IsForkOf (first second : Records) (room : ℕ) (all : Records) : Type 0 where
  pub ends : all.ends ≡ first.ends ++ second.ends
  pub shape : IsForkShape first.shape second.shape all.shape
  pub room_is : all.room ≡ room
  pub behind : all.behind ≡ second.behind

-- ---- a whole tree

-- what was read of a tree, with its states in a store, where they rise
pub record IsStored (h : Half) (w : Whole) : Type 0 where
  pub client : w.store.client ≡ h.states.client
  pub states : w.store.states ≡ h.states.states
  pub rising : IsRising w.store.states
  pub records : w.records ≡ h.records

-- a table, and what was read behind it
pub record IsOfWhole (t : Table) (w : Whole) (s : Scanned) : Type 0 where
  pub table : s.table ≡ t
  pub client : s.store.client ≡ w.store.client
  pub states : s.store.states ≡ w.store.states
  pub ends : s.ends ≡ w.records.ends
  pub shape : s.shape ≡ w.records.shape
