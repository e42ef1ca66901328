-- The kind of an actor's step is that of its thread's core or buffer.
use Rattle.std.proofs.Common.{◌≡◌, ◌∙◌, ℕ, Option, None, Some, map, slice_get, sym, ap}
use Rattle.std.specs.Option.{option_and_then, option_map}
use Rattle.tso_compact.proofs.PlanLemmas.{no_move_at, thread_viewed}
use Rattle.tso_compact.specs.Clauses.{core_kind_in}
use Rattle.tso_compact.specs.Plans.{kind_of_move, procedure_in}
use Rattle.tso_compact.specs.declared.sort.StepKind.{StepKind}
use Rattle.tso_machine.specs.Activations.{Activation}
use Rattle.tso_machine.specs.Machines.{entry_view}
use Rattle.tso_machine.specs.Programs.{program_of}
use Rattle.tso_model.specs.Prologue.{next_call}
use Rattle.tso_model.specs.States.{CompactThread}
use Rattle.tso_model.specs.Steps as steps
use Rattle.tso_prog.specs.declared.client.Client.{Client}
use Rattle.tso_state.proofs.ViewLemmas.{slice_get-threads_view}
use Rattle.tso_state.specs.Actors.{actor_of, thread_of}
use Rattle.tso_state.specs.Views.{core_view, state_of, thread_view}
use Rattle.tso_state.specs.declared.actor.Actor.{Actor}
use Rattle.tso_state.specs.declared.actor.Actor.TheVariants.{Exec, Drain}
use Rattle.tso_state.specs.declared.state.State.{State}
use Rattle.tso_state.specs.declared.state.Thread.{Thread}

-- the kind of the actor's step, if it has one
abbrev kind_in : Client → State → Actor → Option StepKind
kind_in c s a = option_map kind_of_move (steps.move (program_of c) (state_of s) (actor_of a))

pub exec_kind : (c : Client) (s : State) (a : Actor) (x i : ℕ) (t : Thread) → a ≡ Exec x → i ≡ thread_of a → Some t ≡ slice_get s.threads i → core_kind_in c s i t ≡ kind_in c s a
exec_kind c s a x i t is number there =
    let then : CompactThread Activation → Option (steps.Move Activation) = λ u. steps.core_move (program_of c) (next_call (program_of c) (state_of s) i) u.core u.buffer in
    ap (λ o. option_map kind_of_move (option_and_then then o)) (thread_viewed s i t there) ∙ ap (kind_in c s) (ap Exec (number ∙ ap thread_of is) ∙ sym is)

pub drain_kind : (c : Client) (s : State) (a : Actor) (x i : ℕ) (t : Thread) → a ≡ Drain x → i ≡ thread_of a → Some t ≡ slice_get s.threads i
    → option_map kind_of_move (steps.drain_move (core_view (procedure_in s i) t.core) (map entry_view t.buffer)) ≡ kind_in c s a
drain_kind c s a x i t is number there =
    let then : CompactThread Activation → Option (steps.Move Activation) = λ u. steps.drain_move u.core u.buffer in
    ap (λ o. option_map kind_of_move (option_and_then then o)) (thread_viewed s i t there) ∙ ap (kind_in c s) (ap Drain (number ∙ ap thread_of is) ∙ sym is)

-- a thread that is not there does nothing
pub no_kind : (c : Client) (s : State) (a : Actor) (i : ℕ) (r : Option StepKind) → i ≡ thread_of a → None ≡ slice_get s.threads i → r ≡ None → r ≡ kind_in c s a
no_kind c s a i r number nowhere none =
    let there : slice_get (state_of s).threads (thread_of a) ≡ None =
    slice_get-threads_view s.history s.threads (thread_of a) ∙ ap (option_map (thread_view (procedure_in s (thread_of a)))) (ap (λ k. slice_get s.threads k) (sym number) ∙ sym nowhere) in
    none ∙ ap (option_map kind_of_move) (no_move_at c s a there)
