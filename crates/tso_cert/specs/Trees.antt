-- Trees of records: how they are spelled, what the spelling has room for, and the limits.
use Rattle.std.specs.Prelude.{ℕ, zero, suc, ◌+◌, ◌≤◌, List, ◌∷◌, ◌++◌, length}
use Rattle.tso_code.specs.Fields.{list, ListFits}
use Rattle.tso_code.specs.States.{state, StateFits}
use Rattle.tso_rec.specs.Spelling.{a_record, RecordFits}
use Rattle.tso_rec.specs.declared.basis.Grain.{Grain}
use Rattle.tso_rec.specs.declared.record.Record.{Record}
use Rattle.tso_state.specs.declared.state.State.{State}
use Rattle.tso_cert.specs.declared.cert.Cert.{Cert, Leaf, Fork'}

-- a tree without where it lies in memory
pub data Tree : Type 0 where
  leaf : List Record → Tree
  fork : Tree → State → Tree → Tree

abbrev pub tree_of : Cert → Tree
tree_of (Leaf records) = leaf records
tree_of (Fork' p left s q right) = fork (tree_of left) s (tree_of right)

-- the records, left to right
abbrev pub records_of : Tree → List Record
records_of (leaf records) = records
records_of (fork left s right) = records_of left ++ records_of right

-- how many there are
abbrev pub record_count : Tree → ℕ
record_count (leaf records) = length records
record_count (fork left s right) = record_count left + record_count right

-- 00, list of records; or 01, left tree, state, right tree
abbrev pub spelling_of : Grain → Tree → List ℕ
spelling_of g (leaf records) = 0 ∷ list (a_record g) records
spelling_of g (fork left s right) = 1 ∷ (spelling_of g left ++ (state s ++ spelling_of g right))

-- each number is in its range, and at a crossing no actor is chosen
abbrev pub TreeFits : Grain → Tree → Type 0
TreeFits g (leaf records) = ListFits (RecordFits g) records
TreeFits g (fork left s right) = TreeFits g left × StateFits s × TreeFits g right

-- a leaf has at most 64 records, and at most so many forks are inside one another
abbrev pub IsWithin : ℕ → Tree → Type 0
IsWithin depth (leaf records) = length records ≤ 64
IsWithin zero (fork left s right) = ⊥
IsWithin (suc depth) (fork left s right) = IsWithin depth left × IsWithin depth right

-- at most 64 records in a leaf, 4,194,304 in all, and no fork inside 64 others
abbrev pub IsWithinLimits : Tree → Type 0
IsWithinLimits c = IsWithin 64 c × (record_count c ≤ 4194304)
