-- States with the actors that lead to them, and the shards of states.
use Rattle.std.specs.Prelude.{◌+◌, ◌%◌, ℕ, List, length, map, sum, sum_by}
use Rattle.tso_choose.specs.Sets.{actor_at}
use Rattle.tso_compact.specs.Laws.{IsPlausible, initial_of}
use Rattle.tso_machine.specs.Programs.{program_of}
use Rattle.tso_model.specs.Reduce.{Steps}
use Rattle.tso_model.specs.Steps as model
use Rattle.tso_prog.specs.declared.client.Client.{Client}
use Rattle.tso_state.specs.Actors.{actor_of}
use Rattle.tso_state.specs.Views.{state_of}
use Rattle.tso_state.specs.declared.actor.Actor.{Actor}
use Rattle.tso_state.specs.declared.state.Core.{Core}
use Rattle.tso_state.specs.declared.state.Core.TheVariants.{Idle, Running, Stopped}
use Rattle.tso_state.specs.declared.state.State.{State}
use Rattle.tso_table.specs.declared.kept.Kept.{Kept}

-- the actors with these numbers
abbrev pub actors_of : List ℕ → List Actor
actors_of numbers = map actor_at numbers

-- compact steps of these actors, in this order, lead from the initial state to this one
abbrev pub LeadTo : Client → List Actor → State → Type 0
LeadTo c actors s = Steps (model.step (program_of c)) (initial_of c) (map actor_of actors) (state_of s)

-- the actors lead to the state, which is well-formed with each running call on a path of its procedure, as all that are
-- reached are
pub record IsKept (c : Client) (k : Kept) : Type 0 where
  pub leads : LeadTo c (actors_of k.actors) k.state
  pub plausible : IsPlausible c k.state

-- the position of a running thread, and 0 for any other
abbrev pub position_of : Core → ℕ
position_of Idle = 0
position_of (Running f) = f.pc
position_of Stopped = 0

-- the words of memory, the positions of running threads and the count of begun calls, added up modulo 16
abbrev pub shard_of : State → ℕ
shard_of s = (sum s.memory + sum_by (λ t. position_of t.core) s.threads + sum_by (λ calls. length calls) s.history) % 16
