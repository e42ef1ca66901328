-- Where a search by halves stands.
use Rattle.std.specs.Prelude.{◌≡◌, ℕ, ◌≤◌, ◌<◌, List, length, slice_get, Some}
use Rattle.std.specs.List.{AllByRecursion}
use Rattle.tso_rec.specs.Records.{states_of}
use Rattle.tso_state.specs.declared.state.State.{State}
use Rattle.tso_cert.specs.Lookup.{tree_states}
use Rattle.tso_state.specs.Rising.{IsAtMost, IsBelow, IsRising}
use Rattle.tso_cert.specs.Trees.{Tree, leaf, fork}

-- the states before low are below s, and those from high on are above it
pub record IsSplit (states : List State) (s : State) (low high : ℕ) : Type 0 where
  pub below : (k : ℕ) (x : State) → k < low → slice_get states k ≡ Some x → IsBelow x s
  pub above : (k : ℕ) (x : State) → high ≤ k → slice_get states k ≡ Some x → IsBelow s x
  pub bound : high ≤ length states

-- each leaf's states rise, and each fork's state tells which half may have a state
abbrev pub IsSearchable : Tree → Type 0
IsSearchable (leaf records) = IsRising (states_of records)
IsSearchable (fork left s right) = IsSearchable left × IsSearchable right × AllByRecursion (λ x. IsBelow x s) (tree_states left) × AllByRecursion (λ x. IsAtMost s x) (tree_states right)
