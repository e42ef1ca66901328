-- When one compact state is at least as strict as another: alike but for the counts, which say that more calls were before others.
use Rattle.std.specs.Prelude.{◌≡◌, ℕ, ◌≤◌, List, slice_index_or}
use Rattle.std.specs.List.{AllZip}
use Rattle.tso_model.specs.States.{Called, State}

-- each count is at least as large
abbrev pub SeenAtLeast : List ℕ → List ℕ → Type 0
SeenAtLeast xs ys = (k : ℕ) → slice_index_or ys k 0 ≤ slice_index_or xs k 0

-- the same call with the same answer, after at least as many returns
pub record CalledAtLeast (x y : Called) : Type 0 where
  pub kind : x.kind ≡ y.kind
  pub answer : x.answer ≡ y.answer
  pub seen : SeenAtLeast x.seen y.seen

-- call by call
abbrev pub HistoryAtLeast : List (List Called) → List (List Called) → Type 0
HistoryAtLeast = AllZip (AllZip CalledAtLeast)

-- the machine parts and the calls with their answers are equal, and all that was before in t was so in s
pub record AtLeast {F : Type 0} (s t : State F) : Type 0 where
  pub memory : s.memory ≡ t.memory
  pub threads : s.threads ≡ t.threads
  pub history : HistoryAtLeast s.history t.history
