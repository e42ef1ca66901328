-- Items of settled rows and columns are inductive, hold what was given, and name only arrays that are needed.
use Rattle.std.proofs.Common.{◌≡◌, ◌∙◌, ℕ, zero, suc, ◌≤◌, ◌<◌, inl, inr, Bool, true, if◌then◌else◌, List, [], ◌∷◌, length, add-one, get_or, Option, Some, slice_get, refl, sym, ap, subst, arith}
use Rattle.std.proofs.lemmas.Bool.{and_from, eq-eqb}
use Rattle.std.proofs.lemmas.Option.{slice_get-get_or, slice_get_within}
use Rattle.tso_cells.specs.Cells.{holds, holds_all, size_of}
use Rattle.tso_cells.specs.Inductive.{AreCells, AreStarts, IsInductive, IsItem, registers_at}
use Rattle.tso_cells.specs.declared.table.Cells.{Cells}
use Rattle.tso_cells.specs.declared.table.IntervalTable.{IntervalTable}
use Rattle.tso_cells.specs.declared.table.Item.{Item}
use Rattle.tso_flow.specs.Calls.{calls_of_client}
use Rattle.tso_flow.specs.Paths.{goes_on}
use Rattle.tso_cells.specs.Intervals.{IsInside, alone, has}
use Rattle.tso_cells.specs.declared.interval.Interval.{Interval}
use Rattle.tso_line.specs.declared.instruction.Instruction.{Instruction}
use Rattle.tso_line.specs.declared.instruction.CallKind.{CallKind}
use Rattle.tso_prog.specs.declared.client.Array.{Array}
use Rattle.tso_prog.specs.declared.client.Client.{Client}
use Rattle.tso_cells.proofs.CellLists.{IsCellOf, holds_cell, holds_each, named, rising}
use Rattle.tso_cells.proofs.OwnSpans.{own_is, whole_bounds}
use Rattle.tso_cells.proofs.SpanLemmas.{span_at}
use Rattle.tso_cells.proofs.StartLemmas.{first_of_entry, zeros_in}
use Rattle.tso_cells.specs.Columns.{AreAssembled, AreColumns, IsNeed, cells_from, own_array, own_cells, own_span, whole_of}
use Rattle.tso_cells.specs.Growing.{empty, interval_at}
use Rattle.tso_cells.specs.Rows.{AreSettled, IsRowInside}
use Rattle.tso_cells.specs.Spans.{IsSpan}
use Rattle.tso_cells.specs.Widened.{AreWidened, Holds, NamesOnlyNeeded}
use Rattle.tso_cells.specs.Starts.{HasArguments, entry_row}
use Rattle.tso_cells.specs.declared.hulls.Hull.{Hull}
use Rattle.tso_cells.specs.declared.access.Access.{Access}
use Rattle.tso_cells.specs.declared.access.Access.TheVariants.{Read, Write}

-- ---- cells of columns

-- a span with cells is no empty one
span_some : (w : Interval) (n : Bool) (s : Interval) → s.lo ≤ s.hi → IsSpan w n s → IsInside s w × (n ≡ true)
span_some w n s le (inl e) = let low = ap (λ (x : Interval). x.lo) e in let high = ap (λ (x : Interval). x.hi) e in absurd (omega (arith, le, low, high))
span_some w n s le (inr p) = (p.1, p.2)

cell_span : (access : Access) (arrays : List Array) (steps : List (Instruction ℕ ℕ)) (rows columns : List (List Interval)) (i : ℕ) (c : Cells) (needs : ℕ → ℕ → Bool) → AreColumns access arrays steps rows columns
    → IsNeed (own_array access) steps needs → IsCellOf columns 0 i c → (c.hi < size_of (slice_get arrays c.array)) × (needs i c.array ≡ true)
cell_span access arrays steps rows columns i c needs all need is =
    let column = all.each is.number is.column is.there in
    let spans = column.needed needs need in
    let low = is.low in
    let high = is.high in
    let le = is.some in
    let of = is.of in
    let same : is.number ≡ c.array = omega (arith, of) in
    let some = span_some (whole_of arrays is.number) (needs i is.number) (interval_at is.column i) (omega (arith, low, high, le)) (span_at (whole_of arrays is.number) (λ n. needs n is.number) is.column i spans) in
    let bound = whole_bounds (size_of (slice_get arrays is.number)) (interval_at is.column i) (omega (arith, low, high, le)) some.0 in
    subst (λ k. (c.hi < size_of (slice_get arrays k)) × (needs i k ≡ true)) same (omega (arith, bound, high), some.1)

-- each test that is true everywhere is one of what is needed
any_need : (own : Instruction ℕ ℕ → Option ℕ) (steps : List (Instruction ℕ ℕ)) → IsNeed own steps (λ i a. true)
any_need own steps = record { own_is = λ i a step at e. refl; successors = λ i j a step at goes lt h. refl }

cells_are : (access : Access) (arrays : List Array) (steps : List (Instruction ℕ ℕ)) (rows columns : List (List Interval)) (i : ℕ) → AreColumns access arrays steps rows columns → AreCells arrays (cells_from 0 columns i)
cells_are access arrays steps rows columns i all = record {
  rising = λ n c d at next. rising columns 0 i n c d at (subst (λ m. slice_get (cells_from 0 columns i) m ≡ Some d) (add-one n) next);
  inside = λ n c at.
      let is = named columns 0 i n c at in
      let span = cell_span access arrays steps rows columns i c (λ i a. true) all (any_need (own_array access) steps) is in
      (is.some, span.0);
}

-- an array with cells is one of the arrays
there_is : (arrays : List Array) (a n : ℕ) → n < size_of (slice_get arrays a) → a < length arrays
there_is [] a n lt = absurd (omega (arith, lt))
there_is (x ∷ xs) zero n lt = omega arith
there_is (x ∷ xs) (suc a) n lt = let h = there_is xs a n lt in omega (arith, h)

own_held : (access : Access) (arrays : List Array) (steps : List (Instruction ℕ ℕ)) (rows columns : List (List Interval)) (i : ℕ) (step : Instruction ℕ ℕ) (row : List Interval) → AreColumns access arrays steps rows columns
    → slice_get steps i ≡ Some step → slice_get rows i ≡ Some row → holds_all (cells_from 0 columns i) (own_cells access arrays row step) ≡ true
own_held access arrays steps rows columns i step row all at there = elim (own_is access arrays row step) [
  | inl none ↦ subst (λ (x : List Cells). holds_all (cells_from 0 columns i) x ≡ true) (sym none) refl
  | inr own ↦
      let c = own.cell in
      let size = all.count in
      let within = there_is arrays c.array c.hi own.inside in
      let column = get_or columns c.array [] in
      let is : slice_get columns c.array ≡ Some column = slice_get-get_or columns c.array [] (omega (arith, within, size)) in
      let settled = all.each c.array column is in
      let count = settled.count in
      let lt = slice_get_within steps i step at in
      let s = interval_at column i in
      let here : slice_get column i ≡ Some s = slice_get-get_or column i empty (omega (arith, lt, count)) in
      let holds_own : IsInside (own_span (own_cells access arrays row step) c.array) s = settled.owns i step row s at there here in
      let inside : IsInside (own_span (c ∷ []) c.array) s = subst (λ (x : List Cells). IsInside (own_span x c.array) s) own.is holds_own in
      let ends : IsInside (record { lo = c.lo; hi = c.hi }) s = subst (λ (b : Bool). let x : Interval = if b then record { lo = c.lo; hi = c.hi } else empty in IsInside x s) (eq-eqb c.array c.array refl) inside in
      subst (λ (x : List Cells). holds_all (cells_from 0 columns i) x ≡ true) (sym own.is)
      (and_from (holds (cells_from 0 columns i) c) true (holds_cell columns 0 i c.array column c is (omega arith) own.some ends.0 ends.1) refl)
]

next_held : (access : Access) (arrays : List Array) (steps : List (Instruction ℕ ℕ)) (rows columns : List (List Interval)) (i j : ℕ) (step : Instruction ℕ ℕ) → AreColumns access arrays steps rows columns → slice_get steps i ≡ Some step
    → goes_on step i j ≡ true → j < length steps → holds_all (cells_from 0 columns i) (cells_from 0 columns j) ≡ true
next_held access arrays steps rows columns i j step all at goes inside = holds_each (cells_from 0 columns i) (cells_from 0 columns j) (λ n c is.
    let cell = named columns 0 j n c is in
    let settled = all.each cell.number cell.column cell.there in
    let count = settled.count in
    let lt = slice_get_within steps i step at in
    let s = interval_at cell.column j in
    let t = interval_at cell.column i in
    let one : slice_get cell.column j ≡ Some s = slice_get-get_or cell.column j empty (omega (arith, inside, count)) in
    let two : slice_get cell.column i ≡ Some t = slice_get-get_or cell.column i empty (omega (arith, lt, count)) in
    let within : IsInside s t = settled.taken i step lt at j s t goes one two in
    let low = cell.low in
    let high = cell.high in
    let from = within.0 in
    let to = within.1 in
    holds_cell columns 0 i cell.number cell.column c cell.there cell.of cell.some (omega (arith, low, from)) (omega (arith, high, to)))

-- ---- items

pub item_is : (arrays : List Array) (steps : List (Instruction ℕ ℕ)) (given : List (List Interval)) (entry : List Interval) (rows reads writes : List (List Interval)) (items : List Item) → AreSettled steps given entry rows
    → AreColumns Read arrays steps rows reads → AreColumns Write arrays steps rows writes → AreAssembled rows reads writes items → (i : ℕ) (step : Instruction ℕ ℕ) (item : Item) → slice_get steps i ≡ Some step
    → slice_get items i ≡ Some item → IsItem arrays items i step item
item_is arrays steps given entry rows reads writes items settled r w made i step item at is =
    let parts = made.each i item is in
    let row = settled.each i item.registers parts.0 in
    record {
      proper = record {
        count = row.0;
        intervals = row.1;
        reads = subst (λ (x : List Cells). AreCells arrays x) (sym parts.1) (cells_are Read arrays steps rows reads i r);
        writes = subst (λ (x : List Cells). AreCells arrays x) (sym parts.2) (cells_are Write arrays steps rows writes i w);
      };
      foresees = record {
        own = (
          subst (λ (x : List Cells). holds_all x (own_cells Read arrays item.registers step) ≡ true) (sym parts.1) (own_held Read arrays steps rows reads i step item.registers r at parts.0),
          subst (λ (x : List Cells). holds_all x (own_cells Write arrays item.registers step) ≡ true) (sym parts.2) (own_held Write arrays steps rows writes i step item.registers w at parts.0),
        );
        successors = λ j next goes there.
            let others = made.each j next there in
            let lt = slice_get_within items j next there in
            let count = made.count in
            let lengths = settled.lengths in
            let inside : j < length steps = omega (arith, lt, count, lengths) in
            let own = slice_get_within steps i step at in (
              settled.passed i step own at j item.registers next.registers goes parts.0 others.0,
              subst (λ (x : List Cells). holds_all item.reads x ≡ true) (sym others.1) (subst (λ (x : List Cells). holds_all x (cells_from 0 reads j) ≡ true) (sym parts.1) (next_held Read arrays steps rows reads i j step r at goes inside)),
              subst (λ (x : List Cells). holds_all item.writes x ≡ true) (sym others.2) (subst (λ (x : List Cells). holds_all x (cells_from 0 writes j) ≡ true) (sym parts.2) (next_held Write arrays steps rows writes i j step w at goes inside)),
            );
      };
    }

needed_by : (access : Access) (arrays : List Array) (steps : List (Instruction ℕ ℕ)) (rows columns : List (List Interval)) (cells : List Cells) (i n : ℕ) (c : Cells) (needs : ℕ → ℕ → Bool)
    → AreColumns access arrays steps rows columns → IsNeed (own_array access) steps needs → cells ≡ cells_from 0 columns i → slice_get cells n ≡ Some c → needs i c.array ≡ true
needed_by access arrays steps rows columns cells i n c needs all need is at =
    (cell_span access arrays steps rows columns i c needs all need (named columns 0 i n c (subst (λ (x : List Cells). slice_get x n ≡ Some c) is at))).1

pub widened_is : (arrays : List Array) (steps : List (Instruction ℕ ℕ)) (given : List (List Interval)) (entry : List Interval) (rows reads writes : List (List Interval)) (items : List Item) → AreSettled steps given entry rows
    → AreColumns Read arrays steps rows reads → AreColumns Write arrays steps rows writes → AreAssembled rows reads writes items → AreWidened arrays steps given entry items
widened_is arrays steps given entry rows reads writes items settled r w made = record {
  inductive = record { lengths = made.count ∙ settled.lengths; each = item_is arrays steps given entry rows reads writes items settled r w made };
  held = λ n xs item at is m i j here there le. (settled.held n xs item.registers at (made.each n item is).0).1 m i j here there;
  needed = record {
    reads = λ needs need i n item c is at. needed_by Read arrays steps rows reads item.reads i n c needs r need (made.each i item is).1 at;
    writes = λ needs need i n item c is at. needed_by Write arrays steps rows writes item.writes i n c needs w need (made.each i item is).2 at;
  };
  first = λ item is. settled.first item.registers (made.each 0 item is).0;
}

-- ---- the first intervals

pub first_registers : (items : List Item) (entry : List Interval) → 1 ≤ length items → ((item : Item) → slice_get items 0 ≡ Some item → IsRowInside entry item.registers) → IsRowInside entry (registers_at items 0)
first_registers [] entry some h = absurd (omega (arith, some))
first_registers (item ∷ items) entry some h = h item refl

pub widened_as : (arrays others : List Array) (steps more : List (Instruction ℕ ℕ)) (given rows : List (List Interval)) (entry row : List Interval) (items : List Item) → arrays ≡ others → steps ≡ more → given ≡ rows → entry ≡ row
    → AreWidened arrays steps given entry items → AreWidened others more rows row items
widened_as arrays others steps more given rows entry row items a s g e made =
    subst (λ (x : List Interval). AreWidened others more rows x items) e
    (subst (λ (x : List (List Interval)). AreWidened others more x entry items) g
    (subst (λ (x : List (Instruction ℕ ℕ)). AreWidened others x given entry items) s (subst (λ (x : List Array). AreWidened x steps given entry items) a made)))

-- the first intervals of a client's two procedures
starts_are : (c : Client) (t : IntervalTable) (argument : Interval) → IsRowInside (entry_row argument) (registers_at t.push 0) → IsRowInside (entry_row (alone 0)) (registers_at t.pop 0) → has argument 0 ≡ true
    → ((i : ℕ) (calls : List CallKind) → slice_get (calls_of_client c) i ≡ Some calls → HasArguments argument calls) → AreStarts c t
starts_are c t argument push pop none arguments = record {
  zeros = zeros_in argument (registers_at t.push 0) push;
  push = λ i n v calls at there. first_of_entry argument (registers_at t.push 0) v push (arguments i calls at n v there);
  pop = first_of_entry (alone 0) (registers_at t.pop 0) 0 pop refl;
}

pub table_is : (c : Client) (push pop : List Item) (hull : Hull) (argument : Interval) → AreWidened c.arrays c.push.instructions hull.push (entry_row argument) push
    → AreWidened c.arrays c.pop.instructions hull.pop (entry_row (alone 0)) pop → has argument 0 ≡ true → ((i : ℕ) (calls : List CallKind) → slice_get (calls_of_client c) i ≡ Some calls → HasArguments argument calls)
    → record { inductive : IsInductive c (record { push = push; pop = pop }); held : Holds (record { push = push; pop = pop }) hull; needed : NamesOnlyNeeded c (record { push = push; pop = pop }) }
table_is c push pop hull argument one other none arguments =
    let some = c.push.nonempty in
    let more = c.pop.nonempty in
    let size = one.inductive.lengths in
    let count = other.inductive.lengths in
    record {
      inductive = record {
        push = one.inductive;
        pop = other.inductive;
        starts = starts_are c (record { push = push; pop = pop }) argument (first_registers push (entry_row argument) (omega (arith, some, size)) one.first) (first_registers pop (entry_row (alone 0)) (omega (arith, more, count)) other.first) none arguments;
      };
      held = record { push = one.held; pop = other.held };
      needed = record { push = one.needed; pop = other.needed };
    }
