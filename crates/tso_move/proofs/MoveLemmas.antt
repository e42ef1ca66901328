-- Moves by what they are made of.
use Rattle.std.proofs.Common.{◌≡◌, ◌∙◌, ℕ, List, map, Option, None, Some, slice_get, refl, sym, ap, subst}
use Rattle.std.specs.Prelude.{Err, IfOk, IsSome, Ok, Result}
use Rattle.std.specs.Option.{option_and_then, option_map}
use Rattle.std.proofs.lemmas.Option.{get_or_from_slice_get, none-some}
use Rattle.tso_compact.specs.Plans.{HasStep, IsStep, procedure_in}
use Rattle.tso_crossing.proofs.Direct.{moves_are_written_out}
use Rattle.tso_crossing.specs.Direct.{IsWrittenOut, opened_state}
use Rattle.tso_crossing.specs.Moves.{call_parts, core_parts, idle_parts, late_move, one_part, opening, parts, perform_all}
use Rattle.tso_flow.specs.Calls.{kind_of}
use Rattle.tso_flow.specs.declared.location.ProcedureKind.{ProcedureKind}
use Rattle.tso_foot.specs.declared.table.ArrayTable.{ArrayTable}
use Rattle.tso_line.specs.declared.instruction.CallKind.{CallKind as Call}
use Rattle.tso_machine.specs.Activations.{Activation, activation}
use Rattle.tso_machine.specs.Instructions.{next_action}
use Rattle.tso_machine.specs.Machines.{entry_view}
use Rattle.tso_machine.specs.Programs.{program_of}
use Rattle.tso_machine.specs.declared.frame.Frame.{Frame}
use Rattle.tso_model.specs.Programs.{CallKind, Cut}
use Rattle.tso_model.specs.Prologue.{next_call}
use Rattle.tso_model.specs.States.{Buffer, CompactThread, Resting, State as ModelState}
use Rattle.tso_model.specs.Steps as steps
use Rattle.tso_move.specs.Own.{extent_of}
use Rattle.tso_move.specs.Parts.{begun_by_core, begun_by_thread, begun_in, opened_in, own_buffer}
use Rattle.tso_move.specs.Runs.{HasMove, IsMove}
use Rattle.tso_prog.specs.Views.{call_view}
use Rattle.tso_prog.specs.declared.client.Client.{Client}
use Rattle.tso_state.proofs.ViewLemmas.{slice_get-threads_view}
use Rattle.tso_state.specs.Actors.{actor_of, thread_of}
use Rattle.tso_state.specs.Views.{core_view, state_of, thread_view}
use Rattle.tso_state.specs.declared.actor.Actor.{Actor}
use Rattle.tso_state.specs.declared.actor.Actor.TheVariants as actors
use Rattle.tso_state.specs.declared.state.Core.{Core}
use Rattle.tso_state.specs.declared.state.Core.TheVariants.{Idle, Running, Stopped}
use Rattle.tso_state.specs.declared.state.State.{State}
use Rattle.tso_state.specs.declared.state.Thread.{Thread}

-- ---- an actor that begins no call makes a step

core_steps : (c : Client) (own : ArrayTable) (s : State) (i : ℕ) (name : ProcedureKind) (core : Core) (b : Buffer) → begun_by_core c s i core ≡ None
    → core_parts (program_of c) (extent_of c own) i s.memory (next_call (program_of c) (state_of s) i) (core_view name core) b
    ≡ option_map one_part (steps.core_move (program_of c) (next_call (program_of c) (state_of s) i) (core_view name core) b)
core_steps c own s i name Idle b none =
    ap (λ call. core_parts (program_of c) (extent_of c own) i s.memory call Resting b) none ∙ sym (ap (λ call. option_map one_part (steps.core_move (program_of c) call Resting b)) none)
core_steps c own s i name (Running f) b none = refl
core_steps c own s i name Stopped b none = refl

module _ (c : Client) (own : ArrayTable) (s : State) (i : ℕ) where
  -- the parts of the core's move, and its step, where thread i is this
  abbrev moved : Option (CompactThread Activation) → Option (List (steps.Move Activation))
  moved o = option_and_then (λ t. core_parts (program_of c) (extent_of c own) i s.memory (next_call (program_of c) (state_of s) i) t.core t.buffer) o

  abbrev stepped : Option (CompactThread Activation) → Option (List (steps.Move Activation))
  stepped o = option_map one_part (option_and_then (λ t. steps.core_move (program_of c) (next_call (program_of c) (state_of s) i) t.core t.buffer) o)

  viewed : (o : Option Thread) → slice_get s.threads i ≡ o → slice_get (state_of s).threads i ≡ option_map (thread_view (procedure_in s i)) o
  viewed o at = slice_get-threads_view s.history s.threads i ∙ ap (option_map (thread_view (procedure_in s i))) at

  same_at : (o : Option Thread) → begun_by_thread c s i o ≡ None → moved (option_map (thread_view (procedure_in s i)) o) ≡ stepped (option_map (thread_view (procedure_in s i)) o)
  same_at None none = refl
  same_at (Some th) none = core_steps c own s i (procedure_in s i) th.core (map entry_view th.buffer) none

  core_same : begun_in c s (actors.Exec i) ≡ None → moved (slice_get (state_of s).threads i) ≡ stepped (slice_get (state_of s).threads i)
  core_same none = ap moved (viewed (slice_get s.threads i) refl) ∙ same_at (slice_get s.threads i) none ∙ sym (ap stepped (viewed (slice_get s.threads i) refl))

drains : (o : Option (CompactThread Activation)) → option_and_then (λ (t : CompactThread Activation). option_map one_part (steps.drain_move t.core t.buffer)) o
    ≡ option_map one_part (option_and_then (λ (t : CompactThread Activation). steps.drain_move t.core t.buffer) o)
drains None = refl
drains (Some t) = refl

pub step_parts : (c : Client) (own : ArrayTable) (s : State) (a : Actor) → begun_in c s a ≡ None
    → parts (program_of c) (extent_of c own) (state_of s) (actor_of a) ≡ option_map one_part (steps.move (program_of c) (state_of s) (actor_of a))
step_parts c own s (actors.Exec i) none = core_same c own s i none
step_parts c own s (actors.Drain i) none = drains (slice_get (state_of s).threads i)

one_performed : (s : ModelState Activation) (i : ℕ) (o : Option (steps.Move Activation)) → option_map (perform_all s i) (option_map one_part o) ≡ option_map (steps.perform s i) o
one_performed s i None = refl
one_performed s i (Some m) = refl

pub steps_late : (c : Client) (own : ArrayTable) (s : State) (a : Actor) → begun_in c s a ≡ None
    → late_move (program_of c) (extent_of c own) (state_of s) (actor_of a) ≡ steps.step (program_of c) (state_of s) (actor_of a)
steps_late c own s a none =
    ap (option_map (perform_all (state_of s) (steps.thread_of (actor_of a)))) (step_parts c own s a none)
    ∙ one_performed (state_of s) (steps.thread_of (actor_of a)) (steps.move (program_of c) (state_of s) (actor_of a))

-- ---- one that begins a call is the core of an idle thread

pub record Begins (c : Client) (s : State) (i : ℕ) (k : CallKind) : Type 0 where
  pub at : slice_get (state_of s).threads i ≡ Some (record { core = Resting; buffer = own_buffer s i })
  pub call : next_call (program_of c) (state_of s) i ≡ Some k

begins_at : (c : Client) (s : State) (i : ℕ) (k : CallKind) (o : Option Thread) → slice_get s.threads i ≡ o → begun_by_thread c s i o ≡ Some k → Begins c s i k
begins_at c s i k None at begun = absurd (none-some k begun)
begins_at c s i k (Some th) at begun = by th.core refl begun
  where
    here : slice_get (state_of s).threads i ≡ Some (thread_view (procedure_in s i) th)
    here = slice_get-threads_view s.history s.threads i ∙ ap (option_map (thread_view (procedure_in s i))) at

    buffer : map entry_view th.buffer ≡ own_buffer s i
    buffer = ap (λ (t : Thread). map entry_view t.buffer) (sym (get_or_from_slice_get s.threads i th _ at))

    by : (core : Core) → th.core ≡ core → begun_by_core c s i core ≡ Some k → Begins c s i k
    by Idle is e = record {
      at = here ∙ ap (λ (x : Core). Some (record { core = core_view (procedure_in s i) x; buffer = map entry_view th.buffer })) is ∙ ap (λ b. Some (record { core = Resting; buffer = b })) buffer;
      call = e;
    }
    by (Running f) is e = absurd (none-some k e)
    by Stopped is e = absurd (none-some k e)

pub begins : (c : Client) (s : State) (a : Actor) (k : CallKind) → begun_in c s a ≡ Some k → Begins c s (thread_of a) k
begins c s (actors.Exec i) k begun = begins_at c s i k (slice_get s.threads i) refl begun
begins c s (actors.Drain i) k begun = absurd (none-some k begun)

pub is_core : (c : Client) (s : State) (a : Actor) (k : CallKind) → begun_in c s a ≡ Some k → actor_of a ≡ steps.Exec (thread_of a)
is_core c s (actors.Exec i) k begun = refl
is_core c s (actors.Drain i) k begun = absurd (none-some k begun)

pub begun_call_parts : (c : Client) (own : ArrayTable) (s : State) (a : Actor) (k : CallKind) → begun_in c s a ≡ Some k
    → parts (program_of c) (extent_of c own) (state_of s) (actor_of a) ≡ call_parts (own_buffer s (thread_of a)) k (opened_in c own s (thread_of a) k) (next_action c (opened_in c own s (thread_of a) k))
begun_call_parts c own s a k begun =
    let b = begins c s a k begun in
    let i = thread_of a in
    ap (parts (program_of c) (extent_of c own) (state_of s)) (is_core c s a k begun) ∙ ap (moved c own s i) b.at
    ∙ ap (idle_parts (program_of c) (extent_of c own) i s.memory (own_buffer s i)) b.call

-- ---- the state that such a move leads to

module _ (c : Client) (own : ArrayTable) (s : State) (a : Actor) (kind : Call) (frame : Frame) (opened : State) (i : ℕ) (begun : begun_in c s a ≡ Some (call_view kind)) (same : i ≡ thread_of a)
    (there : activation (kind_of kind) frame ≡ opened_in c own s i (call_view kind)) (is : state_of opened ≡ steps.perform (state_of s) i (opening (own_buffer s i) (call_view kind) (activation (kind_of kind) frame))) where
  abbrev i' : ℕ
  i' = thread_of a

  frame_is : activation (kind_of kind) frame ≡ opened_in c own s i' (call_view kind)
  frame_is = there ∙ ap (λ n. opened_in c own s n (call_view kind)) same

  opened_is : state_of opened ≡ opened_state (program_of c) (extent_of c own) (state_of s) i' (own_buffer s i') (call_view kind)
  opened_is =
      is ∙ ap (λ n. steps.perform (state_of s) n (opening (own_buffer s n) (call_view kind) (activation (kind_of kind) frame))) same
      ∙ ap (λ f. steps.perform (state_of s) i' (opening (own_buffer s i') (call_view kind) f)) frame_is

  abbrev out : IsWrittenOut (program_of c) (extent_of c own) (state_of s) i'
  out = moves_are_written_out Activation (program_of c) (extent_of c own) (state_of s) i'

  pub cut_moves : next_action c (activation (kind_of kind) frame) ≡ Cut → IsMove c own s a opened
  cut_moves cut =
      let b = begins c s a (call_view kind) begun in
      ap (late_move (program_of c) (extent_of c own) (state_of s)) (is_core c s a (call_view kind) begun)
      ∙ out.cut (own_buffer s i') (call_view kind) b.at b.call (ap (next_action c) (sym frame_is) ∙ cut) ∙ ap Some (sym opened_is)

  pub steps_on : (next_action c (activation (kind_of kind) frame) ≡ Cut → ⊥) → late_move (program_of c) (extent_of c own) (state_of s) (actor_of a) ≡ steps.step (program_of c) (state_of opened) (actor_of a)
  steps_on goes =
      let b = begins c s a (call_view kind) begun in
      ap (late_move (program_of c) (extent_of c own) (state_of s)) (is_core c s a (call_view kind) begun)
      ∙ out.begins (own_buffer s i') (call_view kind) b.at b.call (λ cut. goes (ap (next_action c) frame_is ∙ cut))
      ∙ ap (λ x. steps.step (program_of c) x (steps.Exec i')) (sym opened_is) ∙ ap (steps.step (program_of c) (state_of opened)) (sym (is_core c s a (call_view kind) begun))

-- what a step says, where the move is the step
pub ok_same : {E : Type 0} (c : Client) (own : ArrayTable) (s t : State) (a : Actor) → late_move (program_of c) (extent_of c own) (state_of s) (actor_of a) ≡ steps.step (program_of c) (state_of t) (actor_of a)
    → (r : Result State E) → IfOk r (λ u. IsStep c t a u) → IfOk r (IsMove c own s a)
ok_same c own s t a same (Ok u) step = same ∙ step
ok_same c own s t a same (Err e) step = tt

pub disabled_same : (c : Client) (own : ArrayTable) (s t : State) (a : Actor) → late_move (program_of c) (extent_of c own) (state_of s) (actor_of a) ≡ steps.step (program_of c) (state_of t) (actor_of a)
    → (HasStep c t a → ⊥) → HasMove c own s a → ⊥
disabled_same c own s t a same none has = none (subst IsSome same has)
