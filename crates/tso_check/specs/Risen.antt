-- How the order of a tree's states is tested, from left to right. Nothing here need be believed: the test is exact.
use Rattle.std.specs.Prelude.{◌≡◌, ◌+◌, ◌++◌, ℕ, List, [], length, None, Option, Some, slice_get}
use Rattle.tso_state.specs.Rising.{IsAtMost, IsBelow, IsRising}
use Rattle.tso_cert.specs.Trees.{Tree, leaf, fork}
use Rattle.tso_check.specs.declared.rising.Risen.{Risen}
use Rattle.tso_check.specs.declared.rising.Risen.TheVariants.{To, Not}
use Rattle.tso_rec.specs.Records.{states_of}
use Rattle.tso_state.specs.declared.state.State.{State}

-- the last of these states, which rise strictly
pub record IsLast (states : List State) (last : State) : Type 0 where
  pub rising : IsRising states
  pub before : ℕ
  pub count : length states ≡ before + 1
  pub at : slice_get states before ≡ Some last

-- these states rise strictly, and the last one is this, if there is one
abbrev pub AreRisen : List State → Option State → Type 0
AreRisen states None = states ≡ []
AreRisen states (Some last) = IsLast states last

-- a state may stand behind the last one
abbrev pub GoesOn : Option State → State → Type 0
GoesOn None s = Unit {0}
GoesOn (Some last) s = IsBelow last s

-- what is found of some states and more of them
abbrev pub AreFound : List State → Risen → Type 0
AreFound states (To last) = AreRisen states last
AreFound states Not = IsRising states → ⊥

-- the same, behind all states of which this is the last
abbrev pub GoesOnTo : Option State → List State → Risen → Type 0
GoesOnTo last states found = (before : List State) → AreRisen before last → AreFound (before ++ states) found

-- ---- forks, by the ends of their leaves

abbrev pub IsLastBelow : List State → State → Type 0
IsLastBelow states s = (k : ℕ) (x : State) → length states ≡ k + 1 → slice_get states k ≡ Some x → IsBelow x s

abbrev pub IsFirstAtLeast : List State → State → Type 0
IsFirstAtLeast states s = (x : State) → slice_get states 0 ≡ Some x → IsAtMost s x

-- the last state of each leaf is below this one
abbrev pub EndsBelow : Tree → State → Type 0
EndsBelow (leaf records) s = IsLastBelow (states_of records) s
EndsBelow (fork left middle right) s = EndsBelow left s × EndsBelow right s

-- the first state of each leaf is not below this one
abbrev pub BeginsAbove : Tree → State → Type 0
BeginsAbove (leaf records) s = IsFirstAtLeast (states_of records) s
BeginsAbove (fork left middle right) s = BeginsAbove left s × BeginsAbove right s

abbrev pub ForksLook : Tree → Type 0
ForksLook (leaf records) = Unit {0}
ForksLook (fork left middle right) = ForksLook left × ForksLook right × EndsBelow left middle × BeginsAbove right middle
