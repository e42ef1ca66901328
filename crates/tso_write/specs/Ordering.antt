-- States in their order, by rows that are ordered as they are. Nothing here need be believed: it serves the code.
use Rattle.std.specs.Prelude.{◌≡◌, ◌+◌, ◌<◌, ◌≤◌, ◌++◌, ◌^◌, ℕ, Bool, List, length, map, Some, option_map, slice_get}
use Rattle.std.specs.List.{flat_map}
use Rattle.std.specs.List.Sorted.{IsPermutation, IsSortedBy}
use Rattle.std.specs.Option.{option_cmp}
use Rattle.std.specs.Ordering.{is_lt}
use Rattle.tso_write.specs.declared.ordering.Placed.{Placed}
use Rattle.tso_keys.specs.Orders.{numbers_below}
use Rattle.tso_keys.specs.contracts.rank_rows.RowOrd.TheImpl as row_impl
use Rattle.tso_keys.specs.declared.rank_rows.Row.{Row}

-- there is a row with this number, whose memory has this rank
abbrev pub IsRankedAt : List Row → ℕ → ℕ → Type 0
IsRankedAt rows n rank = option_map (λ r. r.memory) (slice_get rows n) ≡ Some rank

-- there is a row with this number, and the rank of its memory lies between two
pub record IsAmong (rows : List Row) (low high n : ℕ) : Type 0 where
  pub row : Row
  pub at : slice_get rows n ≡ Some row
  pub least : low ≤ row.memory
  pub most : row.memory < high

abbrev pub AreAmong : List Row → ℕ → ℕ → List ℕ → Type 0
AreAmong rows low high ns = (i n : ℕ) → slice_get ns i ≡ Some n → IsAmong rows low high n

-- there is a row with each of these numbers
abbrev pub AreNumbered : List Row → List ℕ → Type 0
AreNumbered rows ns = (i n : ℕ) → slice_get ns i ≡ Some n → n < length rows

-- the row with the one number is less
abbrev pub row_lt : List Row → ℕ → ℕ → Bool
row_lt rows n m = is_lt (option_cmp row_impl.cmp-value.it (slice_get rows n) (slice_get rows m))

-- groups by the ranks of memories, from a rank on
abbrev pub AreGroups : List Row → ℕ → List (List ℕ) → Type 0
AreGroups rows first groups = (i : ℕ) (g : List ℕ) → slice_get groups i ≡ Some g → AreAmong rows (first + i) (first + i + 1) g

-- such groups, whose ranks are numbers of the code
pub record CanBeOrdered (rows : List Row) (first : ℕ) (groups : List (List ℕ)) : Type 0 where
  pub groups_are : AreGroups rows first groups
  pub small : first + length groups < 2 ^ 64

-- the first so many numbers, in such groups
pub record AreGrouped (rows : List Row) (count : ℕ) (groups : List (List ℕ)) : Type 0 where
  pub groups_are : AreGroups rows 0 groups
  pub all : IsPermutation (numbers_below count) (flat_map (λ g. g) groups)

-- each of these numbers with its row
pub record ArePlaced (rows : List Row) (ns : List ℕ) (all : List Placed) : Type 0 where
  pub numbers : map (λ (p : Placed). p.number) all ≡ ns
  pub rows_are : (i : ℕ) (p : Placed) → slice_get all i ≡ Some p → slice_get rows p.number ≡ Some p.row

-- these numbers, none before one with a lesser row
pub record AreOrdered (rows : List Row) (low high : ℕ) (given ns : List ℕ) : Type 0 where
  pub all : IsPermutation given ns
  pub among : AreAmong rows low high ns
  pub sorted : IsSortedBy (row_lt rows) ns

-- they stand so behind others
pub record IsOrderedBehind (rows : List Row) (low high : ℕ) (given old new : List ℕ) : Type 0 where
  pub ordered : List ℕ
  pub are : AreOrdered rows low high given ordered
  pub is : new ≡ old ++ ordered

-- groups in two, of the same rows
pub record AreHalvesGrouped (rows : List Row) (first : ℕ) (groups : List (List ℕ)) (lrows : List Row) (lfirst : ℕ) (left : List (List ℕ)) (rrows : List Row) (rfirst : ℕ) (right : List (List ℕ)) : Type 0 where
  pub left_rows : lrows ≡ rows
  pub left_first : lfirst ≡ first
  pub right_rows : rrows ≡ rows
  pub right_first : rfirst ≡ first + length left
  pub both : left ++ right ≡ groups
