-- Where states are those of a certificate of crossings, the states from which runs of free actors' moves lead to them are closed under
-- persistent choices of moves. So each run is good.
use Rattle.std.proofs.Common.{◌≡◌, ◌∙◌, ℕ, ◌⊎◌, inl, inr, Bool, true, false, ◌&&◌, List, [], ◌∷◌, ◌++◌, Option, None, Some, slice_get, slice_index_or, refl, sym, ap, subst}
use Rattle.std.specs.Prelude.{Contains, IsSome}
use Rattle.std.specs.Option.{option_map}
use Rattle.std.proofs.lemmas.Bool.{and_parts}
use Rattle.std.proofs.lemmas.Option.{none-some, same_Some}
use Rattle.tso_client.specs.Headline.{EachRunIsGood}
use Rattle.tso_compact.specs.Laws.{initial_of}
use Rattle.tso_crossing.proofs.AsSteps.{moves_are_steps}
use Rattle.tso_crossing.proofs.Crossings.{kept_runs_are_good}
use Rattle.tso_crossing.specs.Crossings.{AllLead, IsChoice, IsCrossing, IsFreely}
use Rattle.tso_crossing.specs.Moves.{Extent, late_move}
use Rattle.tso_flow.specs.declared.location.ProcedureKind.{ProcedureKind}
use Rattle.tso_foot.proofs.WithinLemmas.{closed_is_ranked, closed_is_the_models, reached_is_within, within_is_sound}
use Rattle.tso_foot.specs.Laws.{arrays_view, table_view}
use Rattle.tso_foot.specs.Within.{is_within, lies_in}
use Rattle.tso_foot.specs.declared.table.ArrayTable.{ArrayTable}
use Rattle.tso_foot.specs.declared.table.Table.{Table}
use Rattle.tso_foot.specs.declared.table.Table.TheVariants.{Arrays}
use Rattle.tso_machine.specs.Activations.{Activation, activation}
use Rattle.tso_machine.specs.Places.{first_memory}
use Rattle.tso_machine.specs.Programs.{program_of}
use Rattle.tso_machine.specs.Soundness.{is_sound_or_past_end, rank}
use Rattle.tso_model.proofs.Reduce.{steps_append}
use Rattle.tso_model.specs.Faults.{IsStoppedIn}
use Rattle.tso_model.specs.Linear.{IsOrder, Placed}
use Rattle.tso_model.specs.Objects.{Queue}
use Rattle.tso_model.specs.Reduce.{Over, Steps}
use Rattle.tso_model.specs.States as model
use Rattle.tso_model.specs.Steps as steps
use Rattle.tso_model.specs.Table.{IsTableClosed, table_future}
use Rattle.tso_model.specs.WellFormed as well
use Rattle.tso_move.proofs.ApartLemmas.{initial_is_apart}
use Rattle.tso_move.proofs.FreeLemmas.{free_is_the_models}
use Rattle.tso_move.specs.Crossed.{AreCrossings, HasNoMove, IsGoodEnd, IsMetFrom}
use Rattle.tso_move.specs.Laws.{CrossedRunsAreGood}
use Rattle.tso_move.specs.Own.{extent_of}
use Rattle.tso_move.specs.Runs.{Goes, IsRun, Stops}
use Rattle.tso_prog.specs.Views.{mode_view}
use Rattle.tso_prog.specs.declared.client.Client.{Client}
use Rattle.tso_state.proofs.ViewLemmas.{slice_get-threads_view}
use Rattle.tso_state.specs.Actors.{actor_of}
use Rattle.tso_state.specs.Views.{core_view, running_procedure, state_of, thread_view}
use Rattle.tso_state.specs.WellFormed.{IsWellFormed, word_count}
use Rattle.tso_state.specs.declared.actor.Actor.{Actor}
use Rattle.tso_state.specs.declared.actor.Actor.TheVariants.{Exec, Drain}
use Rattle.tso_state.specs.declared.state.Core.{Core}
use Rattle.tso_state.specs.declared.state.Core.TheVariants.{Idle, Running, Stopped}
use Rattle.tso_state.specs.declared.state.State.{State}
use Rattle.tso_state.specs.declared.state.Thread.{Thread}

-- each actor of the model is one of the code
mover : (a : steps.Actor) → (b : Actor) × (actor_of b ≡ a)
mover (steps.Exec i) = (Exec i, refl)
mover (steps.Drains i) = (Drain i, refl)

some_is : {X : Type 0} (o : Option X) (x : X) → o ≡ Some x → IsSome o
some_is None x e = absurd (none-some x e)
some_is (Some y) x e = refl

no_some : {X : Type 0} (o : Option X) → o ≡ None → IsSome o → ⊥
no_some None e has = let clash : false ≡ true = has in cc
no_some (Some x) e has = none-some x (sym e)

-- a table of arrays is closed at fewer frames too
fewer_closed : (c : Client) (own : ArrayTable) (t : Table) → IsTableClosed (program_of c) (is_within c (Arrays own)) (arrays_view c own) → IsTableClosed (program_of c) (is_within c t) (arrays_view c own)
fewer_closed c own t closed f (k, sound) = closed f (k, and_true _ (and_parts (is_sound_or_past_end c k f) (lies_in t f) sound).0)
  where
    and_true : (x : Bool) → x ≡ true → (x && true) ≡ true
    and_true true h = refl
    and_true false h = h

module _ (c : Client) (own : ArrayTable) (t : Table) (states : List State) (x : AreCrossings c own t states) where
  abbrev n : Extent
  n = extent_of c own

  -- a state that steps reach, from which a run of free actors' moves stops in one of the states
  record IsKept (m : model.State Activation) : Type 0 where
    it : State
    is : m ≡ state_of it
    actors : List steps.Actor
    path : Steps (steps.step (program_of c)) (initial_of c) actors (state_of it)
    met : IsMetFrom c own t states it

  well_formed_from : (s r : State) → IsRun c own t s r → Contains states r → IsWellFormed c s
  well_formed_from s r (Stops z stops) there = x.well_formed s there
  well_formed_from s r (Goes z z' q a w free move run) there = w

  well_formed_at : (s : State) → IsMetFrom c own t states s → IsWellFormed c s
  well_formed_at s met = well_formed_from s met.stop met.run met.there

  -- what a move of a kept state leads to is reached too
  kept_after : (s s' : State) (a : steps.Actor) (actors : List steps.Actor) → Steps (steps.step (program_of c)) (initial_of c) actors (state_of s) → late_move (program_of c) n (state_of s) a ≡ Some (state_of s')
      → IsMetFrom c own t states s' → IsKept (state_of s')
  kept_after s s' a actors path e met =
      let (first, rest, one, same, more) = moves_are_steps Activation (program_of c) n (state_of s) (state_of s') a e in
      record { it = s'; is = refl; actors = actors ++ a ∷ rest; path = steps_append (steps.step (program_of c)) actors (a ∷ rest) (initial_of c) (state_of s) (state_of s') path (first, one, more); met = met }

  abbrev Closed : model.State Activation → Type 0
  Closed m = IsFreely (program_of c) n (table_future (program_of c) (table_view c t)) IsKept m ⊎ (AllLead (program_of c) n IsKept m ⊎ IsChoice (program_of c) n (table_future (program_of c) (table_view c t)) IsKept m)

  closed_from : (s r : State) (actors : List steps.Actor) → Steps (steps.step (program_of c)) (initial_of c) actors (state_of s) → IsRun c own t s r → Contains states r → Closed (state_of s)
  closed_from s r actors path (Stops z stops) there = inr (inl leads)
    where
      leads : AllLead (program_of c) n IsKept (state_of s)
      leads b m e =
          let (a, is) = mover b in
          let at : late_move (program_of c) n (state_of s) (actor_of a) ≡ Some m = ap (late_move (program_of c) n (state_of s)) is ∙ e in
          let after = x.moves s a there (some_is _ m at) in
          subst IsKept (same_Some (state_of after.after) m (sym after.move ∙ at)) (kept_after s after.after (actor_of a) actors path after.move after.met)
  closed_from s r actors path (Goes z s' q a w free move run) there =
      inl (
        actor_of a,
        free_is_the_models c own t s a w free.free,
        λ m e.
            subst IsKept (same_Some (state_of s') m (sym move ∙ e)) (kept_after s s' (actor_of a) actors path move (record { stop = r; run = run; there = there })),
      )

  -- ---- ends

  halted : (name : ProcedureKind) (core : Core) → core_view name core ≡ model.Halted → core ≡ Stopped
  halted name Idle e = absurd (let h : model.Resting ≡ model.Halted = e in cc)
  halted name (Running f) e = absurd (let h : model.Executing (activation name f) ≡ model.Halted = e in cc)
  halted name Stopped e = refl

  stopped_thread : (name : ProcedureKind) (o : Option Thread) (th : model.CompactThread Activation) → option_map (thread_view name) o ≡ Some th → th.core ≡ model.Halted
      → (y : Thread) × (o ≡ Some y) × (y.core ≡ Stopped)
  stopped_thread name None th e h = absurd (none-some th e)
  stopped_thread name (Some y) th e h = (y, refl, halted name y.core (ap (λ (z : model.CompactThread Activation). z.core) (same_Some (thread_view name y) th e) ∙ h))

  abbrev IsEnd : model.State Activation → Type 0
  IsEnd m = ((i : ℕ) → IsStoppedIn m i → ⊥) × ((order : List Placed) × IsOrder (Queue (mode_view c.mode) c.capacity) m.history order)

  good_end : (s : State) → IsGoodEnd c s → IsEnd (state_of s)
  good_end s good = (no_stopped, good.explained)
    where
      no_stopped : (i : ℕ) → IsStoppedIn (state_of s) i → ⊥
      no_stopped i (th, at, is) =
          let (y, there, stopped) = stopped_thread (running_procedure (slice_index_or s.history i [])) (slice_get s.threads i) th (sym (slice_get-threads_view s.history s.threads i) ∙ at) is in
          good.unstopped i y there stopped

  over_has_none : (s : State) → Over (late_move (program_of c) n) (state_of s) → HasNoMove c own s
  over_has_none s over a has = no_some (late_move (program_of c) n (state_of s) (actor_of a)) (over (actor_of a)) has

  end_from : (s r : State) → IsRun c own t s r → Contains states r → Over (late_move (program_of c) n) (state_of s) → IsEnd (state_of s)
  end_from s r (Stops z stops) there over = good_end s (x.ends s there (over_has_none s over))
  end_from s r (Goes z s' q a w free move run) there over = absurd (none-some (state_of s') (sym (over (actor_of a)) ∙ move))

  end_of : (m : model.State Activation) → IsKept m → Over (late_move (program_of c) n) m → IsEnd m
  end_of m k over = subst IsEnd (sym k.is) (end_from k.it k.met.stop k.met.run k.met.there (subst (Over (late_move (program_of c) n)) k.is over))

  -- ---- all together

  first_kept : IsKept (initial_of c)
  first_kept = record { it = x.first; is = sym x.is_first; actors = []; path = sym x.is_first; met = x.met }

  well_formed_kept : (m : model.State Activation) → IsKept m → well.IsWellFormed (program_of c) (word_count c) (is_within c t) m
  well_formed_kept m k =
      subst (well.IsWellFormed (program_of c) (word_count c) (is_within c t)) (sym k.is)
      (within_is_sound c t k.it (well_formed_at k.it k.met) (reached_is_within c t k.it k.actors x.closed k.path))

  closed_kept : (m m' : model.State Activation) (a : steps.Actor) → IsKept m → late_move (program_of c) n m a ≡ Some m' → Closed m
  closed_kept m m' a k e = subst Closed (sym k.is) (closed_from k.it k.met.stop k.actors k.path k.met.run k.met.there)

  is_crossing : IsCrossing (program_of c) n (first_memory c.arrays) (is_within c t) (table_view c t) (arrays_view c own) (Queue (mode_view c.mode) c.capacity) IsKept
  is_crossing = record {
    closed = closed_is_the_models c t x.closed;
    has_initial = first_kept;
    well_formed = well_formed_kept;
    closed_apart = fewer_closed c own t (closed_is_the_models c (Arrays own) x.closed_own);
    apart = initial_is_apart c own;
    choices = closed_kept;
    unstopped = λ m i k over. (end_of m k over).0 i;
    orders = λ m k over. (end_of m k over).1;
  }

  pub each_run_is_good : EachRunIsGood c
  each_run_is_good ls m run =
      kept_runs_are_good (program_of c) n (first_memory c.arrays) (is_within c t) (rank c) (table_view c t) (arrays_view c own) (Queue (mode_view c.mode) c.capacity) IsKept (closed_is_ranked c t x.closed) is_crossing ls m run

pub crossed_runs_are_good : (c : Client) → CrossedRunsAreGood c
crossed_runs_are_good c own t states x = each_run_is_good c own t states x
