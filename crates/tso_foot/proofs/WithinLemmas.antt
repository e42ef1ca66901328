-- Frames and states whose registers lie where a table says.
use Rattle.std.proofs.Common.{◌≡◌, ◌∙◌, ℕ, Bool, true, false, ◌&&◌, List, [], ◌∷◌, Option, None, Some, slice_get, refl, sym, ap, subst}
use Rattle.std.specs.Option.{option_map}
use Rattle.std.proofs.lemmas.Bool.{and_from, and_parts}
use Rattle.std.proofs.lemmas.Option.{none-some, same_Some}
use Rattle.tso_cells.proofs.TableLemmas.{inductive_is_closed, inductive_is_ranked}
use Rattle.tso_compact.specs.Laws.{initial_of}
use Rattle.tso_flow.specs.declared.location.ProcedureKind.{ProcedureKind}
use Rattle.tso_foot.proofs.AheadLemmas.{cell_futures_hold}
use Rattle.tso_foot.proofs.FutureLemmas.{array_futures_hold}
use Rattle.tso_foot.proofs.TableLemmas.{arrays_closed_at}
use Rattle.tso_foot.specs.Closed.{IsClosed}
use Rattle.tso_foot.specs.Laws.{ClosedIsRanked, ClosedIsTheModels, FuturesHold, ReachedIsWithin, RunsAreForeseen, WithinIsSound, table_view}
use Rattle.tso_foot.specs.Within.{IsWithin, core_lies, is_within, lies_in}
use Rattle.tso_foot.specs.declared.table.Table.{Table}
use Rattle.tso_foot.specs.declared.table.Table.TheVariants.{Arrays, Intervals}
use Rattle.tso_machine.proofs.Ranked.{ranked}
use Rattle.tso_machine.specs.Activations.{Activation, activation}
use Rattle.tso_machine.specs.Places.{first_memory}
use Rattle.tso_machine.specs.Programs.{program_of}
use Rattle.tso_machine.specs.Soundness.{is_sound_or_past_end, rank}
use Rattle.tso_model.proofs.Futures as model
use Rattle.tso_model.proofs.Theorems.{first_is_well_formed, steps_stay_well_formed}
use Rattle.tso_model.proofs.Turns.{in_last_kind}
use Rattle.tso_model.specs.Measure.{IsRanked}
use Rattle.tso_model.specs.Programs.{CallKind}
use Rattle.tso_model.specs.Reduce.{Steps}
use Rattle.tso_model.specs.States as moving
use Rattle.tso_model.specs.States.{Called, CompactCore, CompactThread, Executing, Halted, Resting, calls_in}
use Rattle.tso_model.specs.Steps.{Actor, step}
use Rattle.tso_model.specs.WellFormed as states
use Rattle.tso_model.specs.WellFormed.{CallsFit, IsInLast}
use Rattle.tso_prog.specs.declared.client.Client.{Client}
use Rattle.tso_state.proofs.ModelLemmas.{may_be_past_end}
use Rattle.tso_state.proofs.ViewLemmas.{slice_get-threads_view}
use Rattle.tso_state.specs.Views.{core_view, running_procedure, state_of, thread_view}
use Rattle.tso_state.specs.WellFormed.{IsWellFormed, calls_by, word_count}
use Rattle.tso_state.specs.declared.state.Core.{Core}
use Rattle.tso_state.specs.declared.state.Core.TheVariants.{Idle, Running, Stopped}
use Rattle.tso_state.specs.declared.state.State.{State}
use Rattle.tso_state.specs.declared.state.Thread.{Thread}

-- ---- frames

pub closed_is_the_models : (c : Client) → ClosedIsTheModels c
closed_is_the_models c (Arrays t) closed a sound = arrays_closed_at c t a closed
closed_is_the_models c (Intervals t) closed a sound = inductive_is_closed c t closed a sound

and_true : (x : Bool) → x ≡ (x && true)
and_true true = refl
and_true false = refl

pub closed_is_ranked : (c : Client) → ClosedIsRanked c
closed_is_ranked c (Arrays t) closed = subst (λ sound. IsRanked (program_of c) (word_count c) sound (rank c)) (λ i call a. and_true (is_sound_or_past_end c call a) i) (ranked c)
closed_is_ranked c (Intervals t) closed = inductive_is_ranked c t closed

-- ---- states

in_last_too : (f g : CallKind → Bool) → ((k : CallKind) → f k ≡ true → g k ≡ true) → (cs : List Called) → IsInLast f cs → IsInLast g cs
in_last_too f g more [] h = h
in_last_too f g more (x ∷ []) h = (h.0, more x.kind h.1)
in_last_too f g more (x ∷ y ∷ cs) h = (h.0, in_last_too f g more (y ∷ cs) h.1)

fit_within : (c : Client) (t : Table) (core : CompactCore Activation) (cs : List Called) → ((a : Activation) → core ≡ Executing a → lies_in t a ≡ true)
    → CallsFit (is_sound_or_past_end c) core cs → CallsFit (is_within c t) core cs
fit_within c t Resting cs lie h = h
fit_within c t (Executing a) cs lie h =
    in_last_too (λ k. is_sound_or_past_end c k a) (λ k. is_within c t k a) (λ k sound. and_from (is_sound_or_past_end c k a) (lies_in t a) sound (lie a refl)) cs h
fit_within c t Halted cs lie h = h

core_of : (t : Table) (name : ProcedureKind) (core : Core) (a : Activation) → core_lies t name core ≡ true → core_view name core ≡ Executing a → lies_in t a ≡ true
core_of t name Idle a h e = absurd cc
core_of t name (Running f) a h e = let same : activation name f ≡ a = cc in subst (λ (x : Activation). lies_in t x ≡ true) same h
core_of t name Stopped a h e = absurd cc

viewed : (name : ProcedureKind) (o : Option Thread) (th : CompactThread Activation) → option_map (thread_view name) o ≡ Some th → (x : Thread) × (o ≡ Some x) × (thread_view name x ≡ th)
viewed name None th e = absurd (none-some th e)
viewed name (Some x) th e = (x, refl, same_Some (thread_view name x) th e)

frame_lies : (t : Table) (s : State) (i : ℕ) (th : CompactThread Activation) (a : Activation) → IsWithin t s → slice_get (state_of s).threads i ≡ Some th → th.core ≡ Executing a
    → lies_in t a ≡ true
frame_lies t s i th a within at e =
    let name = running_procedure (calls_by s i) in
    let (x, there, same) = viewed name (slice_get s.threads i) th (sym (slice_get-threads_view s.history s.threads i) ∙ at) in
    core_of t name x.core a (within i x there) (ap (λ (y : CompactThread Activation). y.core) same ∙ e)

pub within_is_sound : (c : Client) → WithinIsSound c
within_is_sound c t s w within =
    let m = may_be_past_end c s w in
    record {
      memory = m.memory;
      threads = m.threads;
      histories = m.histories;
      buffers = m.buffers;
      fit = λ i th at. fit_within c t th.core (calls_in (state_of s).history i) (λ a e. frame_lies t s i th a within at e) (m.fit i th at);
      calls = m.calls;
      prologue = m.prologue;
    }

-- such a state of the model's is one of these
sound_within : (c : Client) (t : Table) (s : State) → states.IsWellFormed (program_of c) (word_count c) (is_within c t) (state_of s) → IsWithin t s
sound_within c t s m i thread at = lie thread.core (m.fit i (thread_view name thread) seen)
  where
    name : ProcedureKind
    name = running_procedure (calls_by s i)

    calls : List Called
    calls = calls_in (state_of s).history i

    seen : slice_get (state_of s).threads i ≡ Some (thread_view name thread)
    seen = slice_get-threads_view s.history s.threads i ∙ ap (option_map (thread_view name)) at

    lie : (core : Core) → CallsFit (is_within c t) (core_view name core) calls → core_lies t name core ≡ true
    lie Idle fit = refl
    lie (Running f) fit =
        let (k, sound) = in_last_kind (λ k. is_within c t k (activation name f)) calls fit in
        (and_parts (is_sound_or_past_end c k (activation name f)) (lies_in t (activation name f)) sound).1
    lie Stopped fit = refl

steps_within : (c : Client) (t : Table) → IsClosed c t → (actors : List Actor) (s u : moving.State Activation) → states.IsWellFormed (program_of c) (word_count c) (is_within c t) s
    → Steps (step (program_of c)) s actors u → states.IsWellFormed (program_of c) (word_count c) (is_within c t) u
steps_within c t closed [] s u w e = subst (states.IsWellFormed (program_of c) (word_count c) (is_within c t)) e w
steps_within c t closed (a ∷ rest) s u w (m, is, on) =
    steps_within c t closed rest m u (steps_stay_well_formed Activation (program_of c) (word_count c) (is_within c t) (rank c) (closed_is_ranked c t closed) s m a w is) on

pub reached_is_within : (c : Client) → ReachedIsWithin c
reached_is_within c t s actors closed path =
    let first = first_is_well_formed Activation (program_of c) (is_within c t) (first_memory c.arrays) in
    sound_within c t s (steps_within c t closed actors (initial_of c) (state_of s) first path)

-- ---- futures

pub futures_hold : (c : Client) → FuturesHold c
futures_hold c (Arrays t) s i place w = array_futures_hold c t s i place w
futures_hold c (Intervals t) s i place w = cell_futures_hold c t s i place

pub runs_are_foreseen : (c : Client) → RunsAreForeseen c
runs_are_foreseen c t s ls m closed w within run =
    let all = model.runs_are_foreseen Activation (program_of c) (word_count c) (is_within c t) (rank c) (table_view c t) (closed_is_ranked c t closed) (closed_is_the_models c t closed)
    (state_of s) ls m (within_is_sound c t s w within) run in
    record {
      reads = λ i place h. (futures_hold c t s i place w).reads (all.reads i place h);
      drains = λ i place h. (futures_hold c t s i place w).writes (all.drains i place h);
    }
