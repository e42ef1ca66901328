-- Ways back from a state to the initial one, by where each state was first met from.
use Rattle.std.specs.Prelude.{◌≡◌, ◌+◌, ◌≤◌, ℕ, List, [], ◌∷◌, map, Some, slice_get}
use Rattle.tso_compact.specs.Laws.{IsLabelRun, IsPlausible, initial_of}
use Rattle.tso_crossing.specs.Late.{AllAre}
use Rattle.tso_search.specs.Reached.{IsBadAt}
use Rattle.tso_search.specs.Searched.{IsBegun}
use Rattle.tso_search.specs.declared.ground.Ground.{Ground}
use Rattle.tso_search.specs.declared.origin.Origin.{Origin}
use Rattle.tso_machine.specs.Machines.{label_of}
use Rattle.tso_machine.specs.Programs.{program_of}
use Rattle.tso_model.specs.Reduce.{Steps}
use Rattle.tso_model.specs.Steps as model
use Rattle.tso_prog.specs.declared.client.Client.{Client}
use Rattle.tso_search.specs.declared.trail.Trail.{Trail}
use Rattle.tso_state.specs.Actors.{actor_of}
use Rattle.tso_state.specs.Views.{state_of}
use Rattle.tso_state.specs.declared.actor.Actor.{Actor}
use Rattle.tso_state.specs.declared.state.State.{State}

-- each state was met from one with a lower number: the first origin is that of state 1
abbrev pub ComeEarlier : List Origin → Type 0
ComeEarlier origins = (k : ℕ) (o : Origin) → slice_get origins k ≡ Some o → o.from ≤ k

-- state n, which is not the first, was met so
pub record IsOriginOf (origins : List Origin) (n : ℕ) (o : Origin) : Type 0 where
  pub place : ℕ
  pub next : n ≡ place + 1
  pub at : slice_get origins place ≡ Some o

-- these origins, each that of the state from which the one before it comes, lead from state n back to state m
abbrev pub LeadBack : List Origin → ℕ → List Origin → ℕ → Type 0
LeadBack origins n [] m = n ≡ m
LeadBack origins n (o ∷ way) m = IsOriginOf origins n o × LeadBack origins o.from way m

-- steps of the actor alone lead from the first state to the second
pub record AreLed (c : Client) (s : State) (a : Actor) (t : State) : Type 0 where
  pub actors : List model.Actor
  pub own : AllAre (actor_of a) actors
  pub steps : Steps (model.step (program_of c)) (state_of s) actors (state_of t)

-- the labels lead from the initial state to this one, which is well-formed with each running call on a path of its procedure
pub record IsTrail (c : Client) (t : Trail) : Type 0 where
  pub labels : IsLabelRun c (initial_of c) (state_of t.state) (map label_of t.labels.items)
  pub plausible : IsPlausible c t.state

-- a search with these origins has met states of which number n is the end of a run that is not good
pub record IsBadEnd (c : Client) (g : Ground) (origins : List Origin) (n : ℕ) : Type 0 where
  pub states : List State
  pub begun : IsBegun c g states origins
  pub bad : IsBadAt c states n
