-- Histories by the numbers of their lists of calls. Nothing here need be believed: it serves the code.
use Rattle.std.specs.Prelude.{◌≡◌, ℕ, List, length, Option, Some, option_map, slice_get}
use Rattle.tso_hist.specs.declared.call.Call.{Call}
use Rattle.tso_keys.specs.Numbers.{AreNumbersOf}
use Rattle.tso_keys.specs.Orders.{AreRanks, list_cmp, ranks_in}

-- a history of so many threads has this row
pub record IsListedAs (pool : List (List Call)) (width : ℕ) (h : List (List Call)) (row : List ℕ) : Type 0 where
  pub numbers : AreNumbersOf pool row h
  pub wide : length row ≡ 5
  pub threads : length h ≡ width

-- each of these histories has its row
pub record AreListed (pool : List (List Call)) (width : ℕ) (hs : List (List (List Call))) (rows : List (List ℕ)) : Type 0 where
  pub count : length rows ≡ length hs
  pub each : (n : ℕ) (h : List (List Call)) (row : List ℕ) → slice_get hs n ≡ Some h → slice_get rows n ≡ Some row → IsListedAs pool width h row

-- and the lists have ranks
pub record IsListing (pool : List (List Call)) (ranks : List ℕ) (hs : List (List (List Call))) (rows : List (List ℕ)) : Type 0 where
  pub width : ℕ
  pub listed : AreListed pool width hs rows
  pub ranked : AreRanks list_cmp pool ranks

-- the ranks of the lists of history number n, if there are so many
abbrev pub ranked_row : List ℕ → List (List ℕ) → ℕ → Option (List ℕ)
ranked_row ranks rows n = option_map (ranks_in ranks) (slice_get rows n)
