-- When a table of intervals is inductive.
use Rattle.std.specs.Prelude.{◌≡◌, ℕ, ◌+◌, ◌<◌, ◌≤◌, ◌^◌, List, length, replicate, Option, Some, None, slice_get, IsTrue}
use Rattle.tso_cells.specs.Cells.{holds_all, own_reads, own_writes, size_of}
use Rattle.tso_cells.specs.declared.table.Cells.{Cells}
use Rattle.tso_cells.specs.declared.table.IntervalTable.{IntervalTable}
use Rattle.tso_cells.specs.declared.table.Item.{Item}
use Rattle.tso_flow.specs.Accesses.{register_number}
use Rattle.tso_flow.specs.Calls.{calls_of_client}
use Rattle.tso_flow.specs.Paths.{goes_on}
use Rattle.tso_flow.specs.declared.location.ProcedureKind.{ProcedureKind}
use Rattle.tso_flow.specs.declared.location.ProcedureKind.TheVariants as procedures
use Rattle.tso_cells.specs.Intervals.{IsInside, all_words, has}
use Rattle.tso_cells.specs.IntervalLaws.{AreFirst}
use Rattle.tso_cells.specs.Moved.{moved}
use Rattle.tso_cells.specs.declared.interval.Interval.{Interval}
use Rattle.tso_line.specs.declared.instruction.CallKind.{CallKind}
use Rattle.tso_line.specs.declared.instruction.CallKind.TheVariants.{Push, Pop}
use Rattle.tso_line.specs.declared.instruction.Instruction.{Instruction}
use Rattle.tso_line.specs.declared.instruction.Register.TheVariants.{Rdi}
use Rattle.tso_prog.specs.declared.client.Array.{Array}
use Rattle.tso_prog.specs.declared.client.Client.{Client}

-- arrays rise strictly from one to the next
abbrev pub AreRising : List Cells → Type 0
AreRising cells = (n : ℕ) (c d : Cells) → slice_get cells n ≡ Some c → slice_get cells (n + 1) ≡ Some d → c.array < d.array

-- there are cells, and they lie inside their array
abbrev pub IsInArray : List Array → Cells → Type 0
IsInArray arrays c = (c.lo ≤ c.hi) × (c.hi < size_of (slice_get arrays c.array))

-- arrays rise strictly, and the cells of each lie inside it
pub record AreCells (arrays : List Array) (cells : List Cells) : Type 0 where
  pub rising : AreRising cells
  pub inside : (n : ℕ) (c : Cells) → slice_get cells n ≡ Some c → IsInArray arrays c

-- the least word of an interval is at most its greatest
abbrev pub IsInterval : Interval → Type 0
IsInterval i = (i.lo ≤ i.hi) × (i.hi < 2 ^ 64)

-- the least word of each interval is at most its greatest
abbrev pub AreIntervals : List Interval → Type 0
AreIntervals xs = (n : ℕ) (i : Interval) → slice_get xs n ≡ Some i → IsInterval i

-- each interval lies in that of its place
abbrev pub AreInside : List Interval → List Interval → Type 0
AreInside xs ys = (n : ℕ) (i j : Interval) → slice_get xs n ≡ Some i → slice_get ys n ≡ Some j → IsInside i j

-- an item by itself: fifteen intervals, and lists of cells
pub record IsProper (arrays : List Array) (item : Item) : Type 0 where
  pub count : length item.registers ≡ 15
  pub intervals : AreIntervals item.registers
  pub reads : AreCells arrays item.reads
  pub writes : AreCells arrays item.writes

-- an item and the one of a successor: these intervals lie in the successor's, and the item's lists have the cells of the successor's
abbrev pub HandsOn : List Interval → Item → Item → Type 0
HandsOn after item next = AreInside after next.registers × IsTrue (holds_all item.reads next.reads) × IsTrue (holds_all item.writes next.writes)

-- an item's lists have the cells that the instruction itself accesses
abbrev pub HasOwn : List Array → Instruction ℕ ℕ → Item → Type 0
HasOwn arrays step item = IsTrue (holds_all item.reads (own_reads arrays item.registers step)) × IsTrue (holds_all item.writes (own_writes arrays item.registers step))

-- so it is with the item of the instruction at i, its intervals once moved, and each successor inside the procedure
abbrev pub HasSuccessors : List Item → ℕ → Instruction ℕ ℕ → Item → Type 0
HasSuccessors items i step item = (j : ℕ) (next : Item) → IsTrue (goes_on step i j) → slice_get items j ≡ Some next → HandsOn (moved item.registers step) item next

-- The item of the instruction at i foresees what may follow: its lists have the instruction's own cells and those of its successors' lists,
-- and its intervals, once the instruction has moved them, lie in those of its successors inside the procedure.
pub record Foresees (arrays : List Array) (items : List Item) (i : ℕ) (step : Instruction ℕ ℕ) (item : Item) : Type 0 where
  pub own : HasOwn arrays step item
  pub successors : HasSuccessors items i step item

-- the item of the instruction at i
pub record IsItem (arrays : List Array) (items : List Item) (i : ℕ) (step : Instruction ℕ ℕ) (item : Item) : Type 0 where
  pub proper : IsProper arrays item
  pub foresees : Foresees arrays items i step item

-- an item for each instruction of a procedure
pub record IsListInductive (arrays : List Array) (steps : List (Instruction ℕ ℕ)) (items : List Item) : Type 0 where
  pub lengths : length items ≡ length steps
  pub each : (i : ℕ) (step : Instruction ℕ ℕ) (item : Item) → slice_get steps i ≡ Some step → slice_get items i ≡ Some item → IsItem arrays items i step item

-- the items of a procedure
abbrev pub items_of : IntervalTable → ProcedureKind → List Item
items_of t procedures.Push = t.push
items_of t procedures.Pop = t.pop

-- the words of the registers at a position; anywhere behind the last item
abbrev pub registers_if : Option Item → List Interval
registers_if None = replicate 15 all_words
registers_if (Some item) = item.registers

abbrev pub registers_at : List Item → ℕ → List Interval
registers_at items i = registers_if (slice_get items i)

-- the interval of a register has 0, unless it is RDI
abbrev pub HasZero : ℕ → Interval → Type 0
HasZero n i = (n ≡ register_number Rdi → ⊥) → IsTrue (has i 0)

-- so it is with each
abbrev pub HaveZeros : List Interval → Type 0
HaveZeros xs = (n : ℕ) (i : Interval) → slice_get xs n ≡ Some i → HasZero n i

-- the intervals have what a call begins with
abbrev pub HasArgument : List Interval → CallKind → Type 0
HasArgument xs (Push v) = AreFirst xs v
HasArgument xs Pop = Unit {0}

-- they have what each push of these threads begins with
abbrev pub HaveArguments : List Interval → List (List CallKind) → Type 0
HaveArguments xs threads = (i n v : ℕ) (calls : List CallKind) → slice_get threads i ≡ Some calls → slice_get calls n ≡ Some (Push v) → AreFirst xs v

-- the intervals at the first instructions have what calls begin with: 0, but that of RDI in push, which has each argument that the client
-- pushes
pub record AreStarts (c : Client) (t : IntervalTable) : Type 0 where
  pub zeros : HaveZeros (registers_at t.push 0)
  pub push : HaveArguments (registers_at t.push 0) (calls_of_client c)
  pub pop : AreFirst (registers_at t.pop 0) 0

-- both procedures' items are so, and their first ones have what calls begin with
pub record IsInductive (c : Client) (t : IntervalTable) : Type 0 where
  pub push : IsListInductive c.arrays c.push.instructions t.push
  pub pop : IsListInductive c.arrays c.pop.instructions t.pop
  pub starts : AreStarts c t
