-- How kept values and states are ordered.
use Rattle.std.specs.Prelude.{◌≡◌, ℕ, zero, suc, List, [], ◌∷◌, ◌++◌, Option, Some, None, length, slice_get, slice_index_or}
use Rattle.std.specs.List.Sorted.{IsPermutation, IsSortedBy}
use Rattle.std.specs.Option.{option_cmp}
use Rattle.std.specs.Ordering.{is_lt, nat_cmp}
use Rattle.std.specs.Cmp.Lexicographic.{slice_cmp}
use Rattle.std.specs.declared.cmp.Ordering.{Ordering}
use Rattle.std.specs.declared.cmp.Ordering.TheVariants.{Less}
use Rattle.tso_state.specs.Order.{state_cmp}
use Rattle.tso_state.specs.declared.state.State.{State}
use Rattle.tso_hist.specs.contracts.call.CallOrd.TheImpl as call_impl
use Rattle.tso_hist.specs.declared.call.Call.{Call}
use Rattle.tso_state.specs.contracts.state.ThreadOrd.TheImpl as thread_impl
use Rattle.tso_keys.specs.contracts.rank_rows.RowOrd.TheImpl as row_impl
use Rattle.tso_keys.specs.Keys.{state_at}
use Rattle.tso_keys.specs.Numbers.{AreNumbersOf}
use Rattle.tso_keys.specs.declared.key.Key.{Key}
use Rattle.tso_keys.specs.declared.orders.Pair.{Pair}
use Rattle.tso_keys.specs.declared.parts.Parts.{Parts}
use Rattle.tso_keys.specs.declared.ranks.Ranks.{Ranks}
use Rattle.tso_keys.specs.declared.rank_rows.Row.{Row}

-- how the lists of calls of one thread are ordered
abbrev pub list_cmp : List Call → List Call → Ordering
list_cmp = slice_cmp call_impl.cmp-value.it

-- how histories are
abbrev pub history_cmp : List (List Call) → List (List Call) → Ordering
history_cmp = slice_cmp list_cmp

-- this is the order of the values with these numbers
abbrev pub IsOrderOfParts : {X : Type 0} → (X → X → Ordering) → List X → ℕ → ℕ → Ordering → Type 0
IsOrderOfParts {X} R pool n m o = (x y : X) → slice_get pool n ≡ Some x → slice_get pool m ≡ Some y → o ≡ R x y

-- this is the order of two lists of as many values with these numbers
abbrev pub IsOrderOfRows : {X : Type 0} → (X → X → Ordering) → List X → List ℕ → List ℕ → Ordering → Type 0
IsOrderOfRows {X} R pool ns ms o = (xs ys : List X) → AreNumbersOf pool ns xs → AreNumbersOf pool ms ys → length xs ≡ length ys → o ≡ slice_cmp R xs ys

-- states whose keys are alike in memory and in threads are ordered as their histories
abbrev pub AreOrderedBehind : Parts → Key → Key → Type 0
AreOrderedBehind p a b = (o : Ordering) → IsOrderOfParts history_cmp p.histories a.history b.history o → o ≡ state_cmp (state_at p a) (state_at p b)

-- of each of these pairs the first history is below the second
abbrev pub AreBelow : List (List (List Call)) → List (Option Pair) → Type 0
AreBelow histories pairs = (i : ℕ) (p : Pair) → slice_get pairs i ≡ Some (Some p) → IsOrderOfParts history_cmp histories p.low p.high Less

-- this is the order of the states with these numbers
pub record IsOrderOf (states : List State) (n m : ℕ) (o : Ordering) : Type 0 where
  pub first : State
  pub second : State
  pub first_at : slice_get states n ≡ Some first
  pub second_at : slice_get states m ≡ Some second
  pub order : o ≡ state_cmp first second

-- that order, or that one of the states is not there
abbrev pub IsCompared : List State → ℕ → ℕ → Option Ordering → Type 0
IsCompared states n m None = (s t : State) → slice_get states n ≡ Some s → slice_get states m ≡ Some t → ⊥
IsCompared states n m (Some o) = IsOrderOf states n m o

-- the state with this number is less than that of a key
pub record IsLessAt (p : Parts) (ks : List Key) (n : ℕ) (key : Key) : Type 0 where
  pub found : Key
  pub at : slice_get ks n ≡ Some found
  pub less : state_cmp (state_at p found) (state_at p key) ≡ Less

-- 0, 1, and so on, so many
abbrev pub numbers_below : ℕ → List ℕ
numbers_below zero = []
numbers_below (suc n) = numbers_below n ++ n ∷ []

-- all numbers of the states, none before one whose state is less
pub record IsRising (states : List State) (ns : List ℕ) : Type 0 where
  pub all : IsPermutation (numbers_below (length states)) ns
  pub rising : IsSortedBy (λ n m. is_lt (option_cmp state_cmp (slice_get states n) (slice_get states m))) ns

-- these numbers are those of a pool, none before one whose value is less
pub record IsInOrder {X : Type 0} (R : X → X → Ordering) (pool : List X) (ns : List ℕ) : Type 0 where
  pub all : IsPermutation (numbers_below (length pool)) ns
  pub rising : IsSortedBy (λ n m. is_lt (option_cmp R (slice_get pool n) (slice_get pool m))) ns

-- a number's rank is a place that it has in a list
pub record HasPlace (order ranks : List ℕ) (n : ℕ) : Type 0 where
  pub place : ℕ
  pub rank_is : slice_get ranks n ≡ Some place
  pub here : slice_get order place ≡ Some n

-- a number for each value of a pool, and values are ordered as these
pub record AreRanks {X : Type 0} (R : X → X → Ordering) (pool : List X) (ranks : List ℕ) : Type 0 where
  pub all : length ranks ≡ length pool
  pub alike : (n m r s : ℕ) → slice_get ranks n ≡ Some r → slice_get ranks m ≡ Some s → nat_cmp r s ≡ option_cmp R (slice_get pool n) (slice_get pool m)

-- these are ranks of the parts of states: of memories, of threads and of histories
pub record AreRanksBy (p : Parts) (ms ts hs : List ℕ) : Type 0 where
  pub memories : AreRanks (slice_cmp nat_cmp) p.memories ms
  pub threads : AreRanks thread_impl.cmp-value.it p.threads ts
  pub histories : AreRanks history_cmp p.histories hs

-- the rank of a number; 0 where it has none
abbrev pub rank_at : List ℕ → ℕ → ℕ
rank_at ranks n = slice_index_or ranks n 0

-- that of the number at a place
abbrev pub rank_of : List ℕ → List ℕ → ℕ → ℕ
rank_of ranks ns i = rank_at ranks (slice_index_or ns i 0)

-- those of the numbers of a row
abbrev pub ranks_in : List ℕ → List ℕ → List ℕ
ranks_in ranks ns = rank_of ranks ns 0 ∷ rank_of ranks ns 1 ∷ rank_of ranks ns 2 ∷ rank_of ranks ns 3 ∷ rank_of ranks ns 4 ∷ []

-- those of a state's parts, by the ranks of memories, of threads and of histories
abbrev pub row_by : List ℕ → List ℕ → List ℕ → Key → Row
row_by memories threads histories k = record {
  memory = rank_at memories k.memory;
  threads = ranks_in threads k.threads;
  history = rank_at histories k.history;
}

abbrev pub row_at : Ranks → Key → Row
row_at r k = row_by r.memories.now r.threads.now r.histories.now k

-- a row for each state, and the states are ordered as their rows
pub record AreRowsOf (states : List State) (rows : List Row) : Type 0 where
  pub count : length rows ≡ length states
  pub alike : (n m : ℕ) → option_cmp row_impl.cmp-value.it (slice_get rows n) (slice_get rows m) ≡ option_cmp state_cmp (slice_get states n) (slice_get states m)
