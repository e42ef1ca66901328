-- Numbers of closed tables are in the ranges of their spelling.
use Rattle.std.proofs.Common.{◌≡◌, ℕ, zero, suc, ◌+◌, ◌^◌, ◌≤◌, ◌<◌, List, [], ◌∷◌, length, Option, None, Some, inl, inr, slice_get, refl, ap, subst, arith}
use Rattle.std.specs.List.{sum_by}
use Rattle.std.proofs.lemmas.Bool.{cases_lt}
use Rattle.std.proofs.lemmas.List.Sums.{sum_by-cons}
use Rattle.std.proofs.lemmas.Option.{none-some, same_Some, slice_get_within}
use lib.Pow.{pow_mono}
use Rattle.tso_cells.specs.Cells.{size_of}
use Rattle.tso_cells.specs.Inductive.{AreCells, AreRising, IsInArray, IsListInductive, IsProper}
use Rattle.tso_cells.specs.declared.table.Cells.{Cells}
use Rattle.tso_cells.specs.declared.table.Item.{Item}
use Rattle.tso_code.specs.Fields.{ListFits}
use Rattle.tso_code.specs.Tables.{CellsFit, IntervalFits, ItemFits, MasksFit, TableFits}
use Rattle.tso_flow.specs.declared.location.ProcedureKind.TheVariants as procedures
use Rattle.tso_foot.specs.Closed.{IsClosed, IsListClosed}
use Rattle.tso_foot.specs.declared.masks.Masks.{Masks}
use Rattle.tso_foot.specs.declared.table.Table.{Table}
use Rattle.tso_foot.specs.declared.table.Table.TheVariants.{Arrays, Intervals}
use Rattle.tso_line.specs.declared.instruction.Instruction.{Instruction}
use Rattle.tso_prog.specs.declared.client.Array.{Array}
use Rattle.tso_prog.specs.declared.client.Client.{Client}
use Rattle.tso_judge.proofs.Fitting.{all_of, few_instructions, fits}

known : {X : Type 0} (xs : List X) (n : ℕ) → n < length xs → (x : X) × (slice_get xs n ≡ Some x)
known [] n lt = absurd (omega (arith, lt))
known (x ∷ xs) zero lt = (x, refl)
known (x ∷ xs) (suc n) lt = known xs n (omega (arith, lt))

-- ---- masks of arrays

wider : (n x : ℕ) → n ≤ 16 → x < 2 ^ n → x < 2 ^ 16
wider n x le lt = let m : 2 ^ n ≤ 2 ^ 16 = pow_mono le in omega (arith, lt, m)

masks_fit : (c : Client) (steps : List (Instruction ℕ ℕ)) (items : List Masks) → length steps ≤ 256 → IsListClosed (length c.arrays) steps items → ListFits MasksFit items
masks_fit c steps items few closed = fits MasksFit items 256 (omega (arith, closed.lengths, few)) (omega arith)
    (λ i item at.
    let within = slice_get_within items i item at in
    let there = known steps i (omega (arith, within, closed.lengths)) in
    let is = closed.each i there.0 item there.1 at in
    (wider (length c.arrays) item.reads c.few_arrays is.reads, wider (length c.arrays) item.writes c.few_arrays is.writes))

-- ---- cells

array_words : (arrays : List Array) (k : ℕ) (a : Array) → slice_get arrays k ≡ Some a → length a.words ≤ sum_by (λ (y : Array). length y.words) arrays
array_words [] k a e = absurd (none-some a e)
array_words (x ∷ rest) zero a e = let same : length x.words ≡ length a.words = ap (λ (y : Array). length y.words) (same_Some x a e) in let sums = sum_by-cons (λ (y : Array). length y.words) x rest in omega (arith, same, sums)
array_words (x ∷ rest) (suc k) a e = let le = array_words rest k a e in let sums = sum_by-cons (λ (y : Array). length y.words) x rest in omega (arith, le, sums)

in_array : (arrays : List Array) (x : Cells) (o : Option Array) → slice_get arrays x.array ≡ o → x.hi < size_of o → (x.array < length arrays) × (x.hi < sum_by (λ (y : Array). length y.words) arrays)
in_array arrays x None at lt = absurd (omega (arith, lt))
in_array arrays x (Some a) at lt = (slice_get_within arrays x.array a at, let le = array_words arrays x.array a at in omega (arith, lt, le))

inside : (arrays : List Array) (x : Cells) → IsInArray arrays x → (x.array < length arrays) × (x.hi < sum_by (λ (y : Array). length y.words) arrays)
inside arrays x is = in_array arrays x (slice_get arrays x.array) refl is.1

cell_fits : (c : Client) (x : Cells) → IsInArray c.arrays x → CellsFit x
cell_fits c x is =
    let (array, hi) = inside c.arrays x is in
    let le = is.0 in
    (omega (arith, array, c.few_arrays), omega (arith, le, hi, c.few_words), omega (arith, hi, c.few_words))

-- arrays rise, so at each place is at least the array of its number
at_least : (list : List Cells) → AreRising list → (n : ℕ) (x : Cells) → slice_get list n ≡ Some x → n ≤ x.array
at_least list rising zero x at = omega arith
at_least list rising (suc n) x at =
    let within = slice_get_within list (suc n) x at in
    let (y, before) = known list n (omega (arith, within)) in
    let next : suc n ≡ n + 1 = omega arith in
    let less = rising n y x before (subst (λ k. slice_get list k ≡ Some x) next at) in
    let le = at_least list rising n y before in
    omega (arith, less, le)

few_cells : (c : Client) (list : List Cells) → AreCells c.arrays list → length list ≤ 16
few_cells c list are = elim (cases_lt 16 (length list)) [
  | inl more ↦
      let (x, at) = known list 16 more in
      let le = at_least list are.rising 16 x at in
      let (array, hi) = inside c.arrays x (are.inside 16 x at) in
      absurd (omega (arith, le, array, c.few_arrays))
  | inr le ↦ le
]

cells_fit : (c : Client) (list : List Cells) → AreCells c.arrays list → ListFits CellsFit list
cells_fit c list are = fits CellsFit list 16 (few_cells c list are) (omega arith) (λ n x at. cell_fits c x (are.inside n x at))

-- ---- items

item_fits : (c : Client) (item : Item) → IsProper c.arrays item → ItemFits item
item_fits c item proper = (
  (proper.count, all_of IntervalFits item.registers (λ n i at. let (le, lt) = proper.intervals n i at in (omega (arith, le, lt), lt))),
  cells_fit c item.reads proper.reads,
  cells_fit c item.writes proper.writes,
)

items_fit : (c : Client) (steps : List (Instruction ℕ ℕ)) (items : List Item) → length steps ≤ 256 → IsListInductive c.arrays steps items → ListFits ItemFits items
items_fit c steps items few inductive = fits ItemFits items 256 (omega (arith, inductive.lengths, few)) (omega arith)
    (λ i item at.
    let within = slice_get_within items i item at in
    let there = known steps i (omega (arith, within, inductive.lengths)) in
    item_fits c item (inductive.each i there.0 item there.1 at).proper)

-- ---- tables

pub table_fits : (c : Client) (t : Table) → IsClosed c t → TableFits t
table_fits c (Arrays t) closed =
    (masks_fit c c.push.instructions t.push (few_instructions c procedures.Push) closed.push, masks_fit c c.pop.instructions t.pop (few_instructions c procedures.Pop) closed.pop)
table_fits c (Intervals t) closed =
    (items_fit c c.push.instructions t.push (few_instructions c procedures.Push) closed.push, items_fit c c.pop.instructions t.pop (few_instructions c procedures.Pop) closed.pop)
