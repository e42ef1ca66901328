-- Certificates as bytes: what spells one, and how bytes are read from the front up to the first fault.
use Rattle.std.specs.Prelude.{◌≡◌, ℕ, zero, suc, ◌-◌, List, [], ◌∷◌, ◌++◌, length, take, drop, min, Option, Some, None, Result, Ok, Err, nat_lt, nat_eq, ◌==◌, if◌then◌else◌}
use Rattle.std.specs.Cmp.Lexicographic.{pointwise}
use Rattle.tso_code.specs.Fields.{at1, items_at}
use Rattle.tso_code.specs.Numbers.{number_at, Reading}
use Rattle.tso_code.specs.States.{state_at}
use Rattle.tso_code.specs.Tables.{array_table, interval_table, interval_table_at, IntervalTableFits, table, table_at, TableFits}
use Rattle.tso_foot.specs.declared.table.Table.{Table}
use Rattle.tso_foot.specs.declared.table.Table.TheVariants.{Arrays, Intervals}
use Rattle.tso_rec.specs.Spelling.{record_at}
use Rattle.tso_rec.specs.declared.basis.Basis.{Basis}
use Rattle.tso_rec.specs.declared.basis.Grain.{Grain}
use Rattle.tso_rec.specs.declared.basis.Grain.TheVariants.{Steps, Crossings}
use Rattle.tso_cert.specs.Trees.{Tree, leaf, fork, tree_of, spelling_of, TreeFits}
use Rattle.tso_cert.specs.declared.cert.Cert.{Cert}
use Rattle.tso_cert.specs.declared.fault.DecodeError.{DecodeError}
use Rattle.tso_cert.specs.declared.fault.DecodeError.TheVariants as errors
use Rattle.tso_cert.specs.declared.fault.Fault.{Fault}
use Rattle.tso_cert.specs.declared.fault.Fault.TheVariants.{K01, K02}

-- ---- the grammar

-- TSOC, or TSOX where records are crossings
abbrev pub magic : Grain → List ℕ
magic Steps = 84 ∷ 83 ∷ 79 ∷ 67 ∷ []
magic Crossings = 84 ∷ 83 ∷ 79 ∷ 88 ∷ []

-- the table with its version; among crossings the version of intervals is 1, and no table of arrays stands
abbrev pub table_of : Grain → Table → List ℕ
table_of Steps t = table t
table_of Crossings (Arrays t) = 1 ∷ array_table t
table_of Crossings (Intervals t) = 1 ∷ interval_table t

abbrev pub TableFitsBy : Grain → Table → Type 0
TableFitsBy Steps t = TableFits t
TableFitsBy Crossings (Arrays t) = ⊥
TableFitsBy Crossings (Intervals t) = IntervalTableFits t

-- what stands between the four bytes and the tree
abbrev pub front : Basis → List ℕ
front b = table_of b.grain b.table

abbrev pub FrontFits : Basis → Type 0
FrontFits b = TableFitsBy b.grain b.table

-- the four bytes, the table with its version, the tree
abbrev pub certificate : Basis → Tree → List ℕ
certificate b c = magic b.grain ++ (front b ++ spelling_of b.grain c)

-- each number is in its range
abbrev pub Fits : Basis → Tree → Type 0
Fits b c = FrontFits b × TreeFits b.grain c

-- the bytes, all of them, spell this grain, this table and this tree
abbrev pub Spells : List ℕ → Basis → Tree → Type 0
Spells bytes b c = Fits b c × (bytes ≡ certificate b c)

-- ---- reading from the front, up to the first fault

infixl 10 ◌>>=◌
abbrev pub ◌>>=◌ : {A B : Type 0} → Result A Fault → (A → Result B Fault) → Result B Fault
(Ok x) >>= f = f x
(Err e) >>= f = Err e

-- bytes that do not begin as a field are no beginning of a certificate
abbrev pub field : {X : Type 0} → Option X → Result X Fault
field (Some x) = Ok x
field None = Err K01

-- a tree, how many records may still come, and the bytes after it
abbrev pub Branch : Type 0
Branch = Result (Tree × ℕ × List ℕ) Fault

-- a limit is passed at the last byte of the count that goes beyond it, whatever follows
unfoldable pub leaf_at : Grain → ℕ → List ℕ → Branch
leaf_at g room bytes = do
  n ← field (number_at bytes)
  if nat_lt (min 64 room) n.0 then Err K02 else (field (items_at (record_at g) n.0 n.1) >>= λ records. Ok (leaf records.0, room - n.0, records.1))

abbrev pub fork_at : (ℕ → List ℕ → Branch) → ℕ → List ℕ → Branch
fork_at deeper room bytes = do
  left ← deeper room bytes
  s ← field (state_at left.2)
  right ← deeper left.1 s.1
  Ok (fork left.0 s.0 right.0, right.1, right.2)

abbrev pub branch_at : Grain → (ℕ → List ℕ → Branch) → ℕ → List ℕ → Branch
branch_at g forks room [] = Err K01
branch_at g forks room (zero ∷ rest) = leaf_at g room rest
branch_at g forks room (suc zero ∷ rest) = forks room rest
branch_at g forks room (suc (suc b) ∷ rest) = Err K01

-- at most depth forks are inside one another, and at most room records come
unfoldable pub tree_at : Grain → ℕ → ℕ → List ℕ → Branch
tree_at g zero room bytes = branch_at g (λ _ _. Err K02) room bytes
tree_at g (suc depth) room bytes = branch_at g (fork_at (tree_at g depth)) room bytes

-- the four bytes
unfoldable pub magic_at : List ℕ → Result (Grain × List ℕ) Fault
magic_at bytes =
    if nat_lt (length bytes) 4 then Err K01
    else (if pointwise nat_eq (take 4 bytes) (magic Steps) then Ok (Steps, drop 4 bytes)
    else (if pointwise nat_eq (take 4 bytes) (magic Crossings) then Ok (Crossings, drop 4 bytes) else Err K01))

-- the table with its version
abbrev pub table_by : Grain → Reading Table
table_by Steps bytes = table_at bytes
table_by Crossings [] = None
table_by Crossings (zero ∷ rest) = None
table_by Crossings (suc zero ∷ rest) = at1 Intervals interval_table_at rest
table_by Crossings (suc (suc b) ∷ rest) = None

-- the four bytes and the table
abbrev pub front_at : List ℕ → Result (Basis × List ℕ) Fault
front_at bytes = do
  m ← magic_at bytes
  t ← field (table_by m.0 m.1)
  Ok (record { grain = m.0; table = t.0 }, t.1)

unfoldable pub certificate_at : List ℕ → Result (Basis × Tree) Fault
certificate_at bytes = do
  b ← front_at bytes
  c ← tree_at b.0.grain 64 4194304 b.1
  if length c.2 == 0 then Ok (b.0, c.0) else Err K01

-- ---- what a call of the code gave, against what reading gives, unless memory ran out

abbrev pub Fails : {Y : Type 0} → DecodeError → Result Y Fault → Type 0
Fails errors.Memory reading = Unit {0}
Fails (errors.Fault f) reading = reading ≡ Err f

abbrev pub Gives : {X Y : Type 0} → (X → Y) → Result X DecodeError → Result Y Fault → Type 0
Gives view (Ok x) reading = reading ≡ Ok (view x)
Gives view (Err e) reading = Fails e reading

-- wherever the tree lies in memory
abbrev pub Decodes : Result (Basis × Cert) DecodeError → Result (Basis × Tree) Fault → Type 0
Decodes = Gives (λ x. (x.0, tree_of x.1))

-- one layer of tree_at, by a test of the depth
abbrev pub opened_at : Grain → ℕ → ℕ → List ℕ → Branch
opened_at g depth room bytes = branch_at g (λ room rest. if depth == 0 then Err K02 else fork_at (tree_at g (depth - 1)) room rest) room bytes
