-- Trees whose states rise, and which states they have.
use Rattle.std.specs.Prelude.{List}
use Rattle.std.specs.List.{AllByRecursion}
use Rattle.tso_rec.specs.Records.{states_of}
use Rattle.tso_state.specs.Rising.{IsAtMost, IsBelow, IsRising}
use Rattle.tso_state.specs.declared.state.State.{State}
use Rattle.tso_cert.specs.Trees.{Tree, leaf, fork, records_of}

-- the states of a tree's records, left to right
abbrev pub tree_states : Tree → List State
tree_states t = states_of (records_of t)

-- each fork's state is above all of its left half, and at most all of its right half
abbrev pub ForksSplit : Tree → Type 0
ForksSplit (leaf records) = Unit {0}
ForksSplit (fork left s right) = ForksSplit left × ForksSplit right × AllByRecursion (λ x. IsBelow x s) (tree_states left) × AllByRecursion (λ x. IsAtMost s x) (tree_states right)

-- the records' states rise strictly, and the forks tell where
abbrev pub IsOrdered : Tree → Type 0
IsOrdered t = IsRising (tree_states t) × ForksSplit t
