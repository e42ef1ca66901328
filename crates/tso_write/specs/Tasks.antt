-- Trees of records that several threads cut by halves. Nothing here need be believed: it serves the code.
use Rattle.std.specs.Prelude.{◌≡◌, ◌/◌, ◌<◌, ℕ, List, drop, length, take}
use Rattle.tso_cert.specs.Trees.{Tree}
use Rattle.tso_search.specs.declared.ground.Ground.{Ground}
use Rattle.tso_prog.specs.declared.client.Client.{Client}
use Rattle.tso_search.specs.Grounds.{IsGround}
use Rattle.tso_search.specs.Searched.{AreSearched}
use Rattle.tso_state.specs.declared.state.State.{State}
use Rattle.tso_write.specs.Cutting.{AreNumbers, AreRising, IsCut}

-- states of a search whose records are to be cut, by their numbers
pub record Numbered : Type 0 where
  pub client : Client
  pub ground : Ground
  pub states : List State
  pub numbers : List ℕ

abbrev pub uncut : Client → Ground → List State → List ℕ → Numbered
uncut c g states ns = record { client = c; ground = g; states = states; numbers = ns }

-- all states are worked, and those with these numbers rise
pub record CanBeCut (u : Numbered) : Type 0 where
  pub searched : AreSearched u.client u.ground u.states
  pub closed : IsGround u.client u.ground
  pub numbers : AreNumbers u.states u.numbers
  pub rising : AreRising u.states u.numbers

abbrev pub IsCutOf : Numbered → Tree → Type 0
IsCutOf u tree = IsCut u.client u.ground u.states u.numbers tree

-- more than a leaf: one has the first half of the numbers, rounded down, the other the rest
pub record AreHalvesCut (whole left right : Numbered) : Type 0 where
  pub many : 64 < length whole.numbers
  pub left_is : left ≡ uncut whole.client whole.ground whole.states (take (length whole.numbers / 2) whole.numbers)
  pub right_is : right ≡ uncut whole.client whole.ground whole.states (drop (length whole.numbers / 2) whole.numbers)
