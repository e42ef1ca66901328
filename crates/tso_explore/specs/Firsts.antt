-- What the first states of a search tell.
use Rattle.std.specs.Prelude.{◌≡◌, ◌<◌, ◌≤◌, ℕ, Bool, List, length}
use Rattle.tso_search.specs.Goodness.{AllGood}
use Rattle.tso_explore.specs.Outcomes.{IsStopped}
use Rattle.tso_explore.specs.Findings.{IsFinding}
use Rattle.tso_rec.specs.declared.basis.Grain.{Grain}
use Rattle.tso_regions.specs.Regions.{AreSound}
use Rattle.tso_search.specs.Grounds.{HasRoom}
use Rattle.tso_search.specs.Searched.{AreDone, HasBegun, IsDone, IsSearched}
use Rattle.tso_explore.specs.declared.first.First.{First}
use Rattle.tso_explore.specs.declared.first.First.TheVariants as firsts
use Rattle.tso_explore.specs.declared.first.Soon.{Soon}
use Rattle.tso_explore.specs.declared.first.Soon.TheVariants as soons
use Rattle.tso_search.specs.declared.origin.Origin.{Origin}
use Rattle.tso_search.specs.declared.ground.Ground.{Ground}
use Rattle.tso_prog.specs.declared.client.Client.{Client}
use Rattle.tso_store.specs.Sheets.{Sheet}

-- states that are worked up to this number, and those that are marked, all of them good
pub record IsPaused (c : Client) (limit : ℕ) (g : Ground) (store : Sheet) (origins : List Origin) (marks : List Bool) (number : ℕ) : Type 0 where
  pub client : store.client ≡ c
  pub searched : IsSearched c g store.states origins number
  pub good : AllGood c store.states
  pub done : AreDone c g store.states marks
  pub low : number ≤ length store.states
  pub few : length store.states ≤ limit
  pub room : HasRoom g store.kept 4000000000

-- why the search stopped, or that it goes on
abbrev pub IsFirstOf : Client → ℕ → Ground → Sheet → List Origin → List Bool → First → Type 0
IsFirstOf c limit g store origins marks (firsts.Stopped why) = IsStopped c limit why
IsFirstOf c limit g store origins marks (firsts.GoesOn number) = IsPaused c limit g store origins marks number

-- why it stopped
abbrev pub IsFound : Client → ℕ → First → Type 0
IsFound c limit (firsts.Stopped why) = IsStopped c limit why
IsFound c limit (firsts.GoesOn number) = ⊥

-- states that one worker has searched up to this number, all of them good, and no more than the limit
pub record IsBegunAlone (c : Client) (limit : ℕ) (g : Ground) (store : Sheet) (number : ℕ) : Type 0 where
  pub client : store.client ≡ c
  pub begun : HasBegun c g store.states
  pub few : length store.states ≤ limit
  pub sound : AreSound c store.states
  pub worked : (n : ℕ) → n < number → IsDone c g store.states n

-- why the search of the first states stopped, or how far it has come
abbrev pub IsFirstAlone : Client → ℕ → Ground → Sheet → First → Type 0
IsFirstAlone c limit g store (firsts.Stopped why) = IsStopped c limit why
IsFirstAlone c limit g store (firsts.GoesOn number) = IsBegunAlone c limit g store number

-- what is found soon, if something is
abbrev pub IsSoon : Client → ℕ → Grain → Soon → Type 0
IsSoon c limit grain (soons.Found finding) = IsFinding c limit grain finding
IsSoon c limit grain soons.Few = Unit {0}
IsSoon c limit grain soons.Unknown = Unit {0}
