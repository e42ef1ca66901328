-- What true reasons are good for.
use Rattle.std.specs.Prelude.{◌≡◌, ◌≢◌, ℕ, ◌<◌, IsTrue, List, Some, length, map}
use Rattle.tso_foot.specs.Closed.{IsClosed}
use Rattle.tso_foot.specs.Laws.{table_view}
use Rattle.tso_foot.specs.Within.{IsWithin}
use Rattle.tso_foot.specs.declared.table.Table.{Table}
use Rattle.tso_indep.specs.Reasons.{holds}
use Rattle.tso_indep.specs.declared.reason.Reason.{Reason}
use Rattle.tso_indep.specs.declared.reason.Reason.TheVariants as reasons
use Rattle.tso_compact.specs.Plans.{HasStep}
use Rattle.tso_machine.specs.Activations.{Activation}
use Rattle.tso_machine.specs.Programs.{program_of}
use Rattle.tso_model.specs.Reasons as model
use Rattle.tso_model.specs.Reduce.{Has, Persistent}
use Rattle.tso_model.specs.Steps.{Move, move, step}
use Rattle.tso_model.specs.Strictness.{AtLeast}
use Rattle.tso_model.specs.Table.{table_future}
use Rattle.tso_prog.specs.declared.client.Client.{Client}
use Rattle.tso_state.specs.Actors.{actor_of, thread_of}
use Rattle.tso_state.specs.Views.{state_of}
use Rattle.tso_state.specs.WellFormed.{IsWellFormed}
use Rattle.tso_state.specs.declared.actor.Actor.{Actor}
use Rattle.tso_state.specs.declared.state.State.{State}

abbrev pub reason_view : Reason → model.Reason
reason_view reasons.Own = model.Own
reason_view reasons.Far = model.Far
reason_view reasons.Inside = model.Inside
reason_view reasons.Buffer = model.Buffered
reason_view reasons.Return = model.Returns
reason_view reasons.NoReturn = model.NoReturn

-- the model's reason for a move of a chosen actor, over what the table says of the other thread's future
abbrev pub IsModelReason : Client → Table → State → List Actor → Move Activation → ℕ → Reason → Type 0
IsModelReason c t s chosen m j reason = model.Holds (program_of c) (table_future (program_of c) (table_view c t)) (state_of s) (map actor_of chosen) m.access m.log j (reason_view reason)

-- a reason that holds is the model's
abbrev pub TrueReasonsAreTheModels : Client → Type 0
TrueReasonsAreTheModels c = (t : Table) (s : State) (chosen : List Actor) (a : Actor) (m : Move Activation) (j : ℕ) (reason : Reason) → IsWellFormed c s
    → move (program_of c) (state_of s) (actor_of a) ≡ Some m → IsTrue (holds c t s chosen a j reason) → IsModelReason c t s chosen m j reason

-- the actor has a step, and for each other thread a reason that holds
pub record IsValid (c : Client) (t : Table) (s : State) (chosen : List Actor) (a : Actor) : Type 0 where
  pub enabled : HasStep c s a
  pub reasons : (j : ℕ) → j < length s.threads → j ≢ thread_of a → (reason : Reason) × IsTrue (holds c t s chosen a j reason)

-- where each chosen actor of a well-formed state, whose running registers lie where the table says, is so over a closed table, the choice is
-- persistent: after any steps of actors that are not chosen, each chosen one could have gone first, and the end is at least as strict
abbrev pub ValidChoicesArePersistent : Client → Type 0
ValidChoicesArePersistent c = (t : Table) (s : State) (chosen : List Actor) → IsClosed c t → IsWellFormed c s → IsWithin t s → ((a : Actor) → Has chosen a → IsValid c t s chosen a)
    → Persistent (step (program_of c)) AtLeast (state_of s) (map actor_of chosen)
