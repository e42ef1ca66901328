-- Lists of cells that columns make at a position.
use Rattle.std.proofs.Common.{◌≡◌, ◌∙◌, ℕ, zero, suc, ◌+◌, ◌≤◌, ◌<◌, Bool, true, false, nat_le, if◌then◌else◌, List, [], ◌∷◌, ◌++◌, length, append_assoc, append-nil, drop, drop-cons, add-one, get_or, Some, slice_get, refl, sym, ap, subst, arith}
use Rattle.std.proofs.lemmas.Bool.{and_from, eq-eqb, false≢true, le-leb, leb-true, lt-leb, or_left, or_right}
use Rattle.std.proofs.lemmas.Option.{none-some, same_Some}
use Rattle.tso_cells.specs.Cells.{holds, holds_all}
use Rattle.tso_cells.specs.declared.table.Cells.{Cells}
use Rattle.tso_cells.specs.declared.interval.Interval.{Interval}
use Rattle.tso_cells.specs.Columns.{cells_from, cells_of}
use Rattle.tso_cells.specs.Growing.{interval_at}

-- ---- making them

pub cells_next : (columns : List (List Interval)) (a i : ℕ) (d : List Interval) → a < length columns
    → cells_from a (drop a columns) i ≡ cells_of a (interval_at (get_or columns a d) i) ++ cells_from (a + 1) (drop (a + 1) columns) i
cells_next columns a i d lt = ap (λ (x : List (List Interval)). cells_from a x i) (drop-cons columns a d lt) ∙ ap (λ n. cells_of a (interval_at (get_or columns a d) i) ++ cells_from (a + 1) (drop n columns) i) (sym (add-one a))

-- the list so far, with the cells of one column more
pub cells_on : (columns : List (List Interval)) (a i : ℕ) (d : List Interval) (cells more all : List Cells) → a < length columns → cells ++ cells_from a (drop a columns) i ≡ all
    → cells_of a (interval_at (get_or columns a d) i) ≡ more → (cells ++ more) ++ cells_from (a + 1) (drop (a + 1) columns) i ≡ all
cells_on columns a i d cells more all lt known is =
    append_assoc cells more _ ∙ (ap (λ (x : List Cells). cells ++ (x ++ cells_from (a + 1) (drop (a + 1) columns) i)) (sym is) ∙ (ap (λ (x : List Cells). cells ++ x) (sym (cells_next columns a i d lt)) ∙ known))

pub some_cells : (a : ℕ) (s : Interval) → s.lo ≤ s.hi → cells_of a s ≡ record { array = a; lo = s.lo; hi = s.hi } ∷ []
some_cells a s le = ap (λ (b : Bool). let x : List Cells = if b then record { array = a; lo = s.lo; hi = s.hi } ∷ [] else [] in x) (le-leb s.lo s.hi le)

pub no_cells : (a : ℕ) (s : Interval) → s.hi < s.lo → cells_of a s ≡ []
no_cells a s lt = ap (λ (b : Bool). let x : List Cells = if b then record { array = a; lo = s.lo; hi = s.hi } ∷ [] else [] in x) (lt-leb s.lo s.hi lt)

pub cells_skip : (columns : List (List Interval)) (a i : ℕ) (d : List Interval) (cells all : List Cells) → a < length columns → cells ++ cells_from a (drop a columns) i ≡ all
    → cells_of a (interval_at (get_or columns a d) i) ≡ [] → cells ++ cells_from (a + 1) (drop (a + 1) columns) i ≡ all
cells_skip columns a i d cells all lt known none =
    ap (λ (x : List Cells). cells ++ (x ++ cells_from (a + 1) (drop (a + 1) columns) i)) (sym none) ∙ (ap (λ (x : List Cells). cells ++ x) (sym (cells_next columns a i d lt)) ∙ known)

pub cells_end : (columns : List (List Interval)) (a i : ℕ) (cells all : List Cells) → length columns ≤ a → cells ++ cells_from a (drop a columns) i ≡ all → cells ≡ all
cells_end columns a i cells all past known = sym (append-nil cells) ∙ (ap (λ (x : List (List Interval)). cells ++ cells_from a x i) (sym (drop_past columns a past)) ∙ known)
  where
    drop_past : (xs : List (List Interval)) (n : ℕ) → length xs ≤ n → drop n xs ≡ []
    drop_past [] zero le = refl
    drop_past [] (suc n) le = refl
    drop_past (x ∷ xs) zero le = absurd (omega (arith, le))
    drop_past (x ∷ xs) (suc n) le = drop_past xs n (omega (arith, le))

-- ---- what they have

-- a cell of a list is of some column's span
pub record IsCellOf (columns : List (List Interval)) (first i : ℕ) (c : Cells) : Type 0 where
  pub number : ℕ
  pub column : List Interval
  pub there : slice_get columns number ≡ Some column
  pub of : c.array ≡ first + number
  pub low : c.lo ≡ (interval_at column i).lo
  pub high : c.hi ≡ (interval_at column i).hi
  pub some : c.lo ≤ c.hi

next_cell : (spans : List Interval) (columns : List (List Interval)) (first i : ℕ) (c : Cells) → IsCellOf columns (first + 1) i c → IsCellOf (spans ∷ columns) first i c
next_cell spans columns first i c is = record {
  number = suc is.number;
  column = is.column;
  there = is.there;
  of = let e = is.of in omega (arith, e);
  low = is.low;
  high = is.high;
  some = is.some;
}

here_cell : (spans : List Interval) (columns : List (List Interval)) (first i : ℕ) (c : Cells) → record { array = first; lo = (interval_at spans i).lo; hi = (interval_at spans i).hi } ≡ c → (interval_at spans i).lo ≤ (interval_at spans i).hi
    → IsCellOf (spans ∷ columns) first i c
here_cell spans columns first i c e le =
    let low = ap (λ (x : Cells). x.lo) (sym e) in
    let high = ap (λ (x : Cells). x.hi) (sym e) in
    record { number = zero; column = spans; there = refl; of = ap (λ (x : Cells). x.array) (sym e) ∙ omega arith; low = low; high = high; some = omega (arith, le, low, high) }

pub named : (columns : List (List Interval)) (first i n : ℕ) (c : Cells) → slice_get (cells_from first columns i) n ≡ Some c → IsCellOf columns first i c
named [] first i n c at = absurd (none-some c at)
named (spans ∷ columns) first i n c at =
    go (λ m is. next_cell spans columns first i c (named columns (first + 1) i m c is)) (nat_le (interval_at spans i).lo (interval_at spans i).hi) refl n at
  where
    go : ((m : ℕ) → slice_get (cells_from (first + 1) columns i) m ≡ Some c → IsCellOf (spans ∷ columns) first i c) → (b : Bool) → nat_le (interval_at spans i).lo (interval_at spans i).hi ≡ b → (n : ℕ)
        → slice_get ((let x : List Cells = if b then record { array = first; lo = (interval_at spans i).lo; hi = (interval_at spans i).hi } ∷ [] else [] in x) ++ cells_from (first + 1) columns i) n ≡ Some c
        → IsCellOf (spans ∷ columns) first i c
    go rest true e zero at = here_cell spans columns first i c (same_Some _ c at) (leb-true _ _ e)
    go rest true e (suc n) at = rest n at
    go rest false e n at = rest n at

-- what a column has is in the list
pub holds_cell : (columns : List (List Interval)) (first i k : ℕ) (column : List Interval) (c : Cells) → slice_get columns k ≡ Some column → c.array ≡ first + k → c.lo ≤ c.hi
    → (interval_at column i).lo ≤ c.lo → c.hi ≤ (interval_at column i).hi → holds (cells_from first columns i) c ≡ true
holds_cell [] first i k column c there of some low high = absurd (none-some column there)
holds_cell (spans ∷ columns) first i zero column c there of some low high =
    let same : spans ≡ column = same_Some spans column there in
    let from : (interval_at spans i).lo ≤ c.lo = subst (λ (x : List Interval). (interval_at x i).lo ≤ c.lo) (sym same) low in
    let to : c.hi ≤ (interval_at spans i).hi = subst (λ (x : List Interval). c.hi ≤ (interval_at x i).hi) (sym same) high in
    go (nat_le (interval_at spans i).lo (interval_at spans i).hi) (le-leb _ _ (omega (arith, from, to, some))) from to
  where
    go : (b : Bool) → b ≡ true → (interval_at spans i).lo ≤ c.lo → c.hi ≤ (interval_at spans i).hi
        → holds ((let x : List Cells = if b then record { array = first; lo = (interval_at spans i).lo; hi = (interval_at spans i).hi } ∷ [] else [] in x) ++ cells_from (first + 1) columns i) c ≡ true
    go false e from to = absurd (false≢true e)
    go true e from to =
        or_left _ _ (and_from _ _ (eq-eqb first c.array (omega (arith, of))) (and_from _ _ (le-leb _ c.lo from) (le-leb c.hi _ to)))
holds_cell (spans ∷ columns) first i (suc k) column c there of some low high =
    go (nat_le (interval_at spans i).lo (interval_at spans i).hi) (holds_cell columns (first + 1) i k column c there (omega (arith, of)) some low high)
  where
    go : (b : Bool) → holds (cells_from (first + 1) columns i) c ≡ true
        → holds ((let x : List Cells = if b then record { array = first; lo = (interval_at spans i).lo; hi = (interval_at spans i).hi } ∷ [] else [] in x) ++ cells_from (first + 1) columns i) c ≡ true
    go true h = or_right _ _ h
    go false h = h

pub holds_each : (ds cs : List Cells) → ((n : ℕ) (c : Cells) → slice_get cs n ≡ Some c → holds ds c ≡ true) → holds_all ds cs ≡ true
holds_each ds [] h = refl
holds_each ds (c ∷ cs) h = and_from (holds ds c) (holds_all ds cs) (h zero c refl) (holds_each ds cs (λ n. h (suc n)))

-- arrays rise
pub rising : (columns : List (List Interval)) (first i n : ℕ) (c d : Cells) → slice_get (cells_from first columns i) n ≡ Some c → slice_get (cells_from first columns i) (suc n) ≡ Some d → c.array < d.array
rising [] first i n c d at next = absurd (none-some c at)
rising (spans ∷ columns) first i n c d at next = go (λ m. rising columns (first + 1) i m c d) (nat_le (interval_at spans i).lo (interval_at spans i).hi) n at next
  where
    go : ((m : ℕ) → slice_get (cells_from (first + 1) columns i) m ≡ Some c → slice_get (cells_from (first + 1) columns i) (suc m) ≡ Some d → c.array < d.array) → (b : Bool) (n : ℕ)
        → slice_get ((let x : List Cells = if b then record { array = first; lo = (interval_at spans i).lo; hi = (interval_at spans i).hi } ∷ [] else [] in x) ++ cells_from (first + 1) columns i) n ≡ Some c
        → slice_get ((let x : List Cells = if b then record { array = first; lo = (interval_at spans i).lo; hi = (interval_at spans i).hi } ∷ [] else [] in x) ++ cells_from (first + 1) columns i) (suc n) ≡ Some d
        → c.array < d.array
    go rest true zero at next =
        let is = named columns (first + 1) i zero d next in
        let of = is.of in
        let own = ap (λ (x : Cells). x.array) (same_Some _ c at) in
        omega (arith, of, own)
    go rest true (suc n) at next = rest n at next
    go rest false n at next = rest n at next
