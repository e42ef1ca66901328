-- The theorems, put together.
use Rattle.std.proofs.Common.{◌≡◌, ℕ, List, [], ◌∷◌, ◌++◌, Bool, ◌⊎◌, inl, inr, length, Some, refl, sym, ◌∙◌, ap, subst, append_assoc, Option, None}
use Rattle.std.specs.Prelude.{IsTrue}
use Rattle.std.specs.List.{slice_get}
use Rattle.std.proofs.lemmas.Bool.{cases_eq}
use Rattle.tso_model.specs.Certificate.{EveryRunIsGood, IsCertificate, IsGood}
use Rattle.tso_model.specs.Events.{event_of, events_of}
use Rattle.tso_model.specs.Histories.{OrdersAreLinearizations}
use Rattle.tso_model.specs.Labels.{Label, Machine, Run, after_labels, core_of, first_machine, machine_of, thread_view}
use Rattle.tso_model.specs.Linear.{IsLinearizable, IsOrder, Placed}
use Rattle.tso_model.specs.Measure.{IsRanked, IsSound}
use Rattle.tso_model.specs.Objects.{Object}
use Rattle.tso_model.specs.Persistence.{AllEnabledIsValid, BeginningsAreLinearizable, EndsAreMet, FirstIsWellFormed, IsClosed, OrdersServeLooser, StepsStayWellFormed, TablesHoldFutures, ValidIsPersistent}
use Rattle.tso_model.specs.Programs.{CallKind, Program}
use Rattle.tso_model.specs.Reasons.{Inside}
use Rattle.tso_model.specs.Reduce.{Has, Over, Steps}
use Rattle.tso_model.specs.Faults.{IsStoppedIn}
use Rattle.tso_model.specs.States.{Executing, State, CompactThread, calls_in, first_history, first_state}
use Rattle.tso_model.specs.Steps.{Actor, Drains, Exec, Move, move, perform, step, thread_of}
use Rattle.tso_model.specs.Strictness.{AtLeast}
use Rattle.tso_model.specs.Table.{Table, table_future}
use Rattle.tso_model.specs.Violations.{BadPathsAreErrors, PathsAreShown}
use Rattle.tso_model.specs.WellFormed.{CallsFit, IsWellFormed}
use Rattle.tso_model.proofs.Answered.{histories_tell}
use Rattle.tso_model.proofs.Beginnings.{beginning}
use Rattle.tso_model.proofs.Faults.{runs_reach_ends, stops_are_faults}
use Rattle.tso_model.proofs.Follow.{first_same, first_shaped, one}
use Rattle.tso_model.proofs.Leaves.{steps_give_runs}
use Rattle.tso_model.proofs.Moves.{as_ended, at_least_refl, at_least_trans, move_of, simulates, step_is}
use Rattle.tso_model.proofs.Orders.{looser, told, untold}
use Rattle.tso_model.proofs.Own.{InRange}
use Rattle.tso_model.proofs.Persistent.{IsInvariant, valid_persistent}
use Rattle.tso_model.proofs.Reduce.{reduces}
use Rattle.tso_model.proofs.Table.{table_is_future}
use Rattle.tso_model.proofs.Threads.{shaped_get, threads_get}
use Rattle.tso_model.proofs.Turns.{in_last_kind}
use Rattle.tso_model.proofs.WellFormed.{alone, first_well_formed, stays}

same_actor : (a b : Actor) → (a ≡ b) ⊎ (a ≡ b → ⊥)
same_actor (Exec i) (Exec j) = elim (cases_eq i j) [ inl e ↦ inl (ap Exec e) | inr n ↦ inr (λ e. n (ap thread_of e)) ]
same_actor (Drains i) (Drains j) = elim (cases_eq i j) [ inl e ↦ inl (ap Drains e) | inr n ↦ inr (λ e. n (ap thread_of e)) ]
same_actor (Exec i) (Drains j) = inr (λ e. cc)
same_actor (Drains i) (Exec j) = inr (λ e. cc)

has_or_not : (chosen : List Actor) (a : Actor) → Has chosen a ⊎ (Has chosen a → ⊥)
has_or_not [] a = inr (λ h. h)
has_or_not (c ∷ chosen) a = elim (same_actor c a) [
  | inl e ↦ inl (inl e)
  | inr n ↦ elim (has_or_not chosen a) [ inl h ↦ inl (inr h) | inr none ↦ inr (elim [ inl e ↦ n e | inr h ↦ none h ]) ]
]

-- buffered places of a well-formed state are the memory's
well_in_range : {F : Type 0} (p : Program F) (size : ℕ) (sound : CallKind → F → Bool) (s : State F) → IsWellFormed p size sound s → InRange s
well_in_range p size sound s w i t at = rw w.memory (w.buffers i t at)

-- the frame of a running thread can occur
sound_frame : {F : Type 0} (p : Program F) (size : ℕ) (sound : CallKind → F → Bool) (s : State F) (i : ℕ) (t : CompactThread F) (f : F) → IsWellFormed p size sound s → slice_get s.threads i ≡ Some t → t.core ≡ Executing f → IsSound sound f
sound_frame p size sound s i t f w at running = in_last_kind (λ k. sound k f) (calls_in s.history i) (subst (λ c. CallsFit sound c (calls_in s.history i)) running (w.fit i t at))

invariant : {F : Type 0} (p : Program F) (size : ℕ) (sound : CallKind → F → Bool) (rank : F → ℕ) → IsRanked p size sound rank → IsInvariant p (IsWellFormed p size sound)
invariant p size sound rank r = record { in_range = well_in_range p size sound; stays = stays p size sound rank r; alone = alone p size sound }

pub tables_hold_futures : (F : Type 0) → TablesHoldFutures F
tables_hold_futures F p size sound t closed =
    table_is_future p sound t closed (IsWellFormed p size sound) (λ s i th f w at running. sound_frame p size sound s i th f w at running)

pub valid_is_persistent : (F : Type 0) → ValidIsPersistent F
valid_is_persistent F p size sound rank t r closed s chosen w v =
    valid_persistent p (IsWellFormed p size sound) (invariant p size sound rank r) (table_future p t) (tables_hold_futures F p size sound t closed) chosen s w v

chosen_or_none : {F : Type 0} (p : Program F) (s : State F) (chosen : List Actor) → ((a : Actor) (s' : State F) → step p s a ≡ Some s' → Has chosen a) → (b : Actor) → (o : Option (Move F)) → move p s b ≡ o → Has chosen b ⊎ (move p s b ≡ None)
chosen_or_none p s chosen all b None e = inr e
chosen_or_none p s chosen all b (Some m) e = inl (all b (perform s (thread_of b) m) (step_is p s b m e))

pub all_enabled_is_valid : (F : Type 0) → AllEnabledIsValid F
all_enabled_is_valid F p f s chosen all c s' e =
    let (m, em, is) = move_of p s s' c e in
    (m, em, λ j lt n. (Inside, λ b at. chosen_or_none p s chosen all b (move p s b) refl))

pub ends_are_met : (F : Type 0) → EndsAreMet F
ends_are_met F p kept closed s s0 t steps k h r z =
    reduces (step p) AtLeast (λ x. IsTrue (kept x))
    (record { decide = has_or_not; same = at_least_refl; trans = at_least_trans; simulates = simulates p; as_ended = as_ended p; choices = closed })
    s s0 t steps k h r z

pub orders_serve_looser : (F : Type 0) → OrdersServeLooser F
orders_serve_looser F object s t order h l = looser s.history t.history h.history object order l

events_append : (xs ys : List Label) → events_of (xs ++ ys) ≡ events_of xs ++ events_of ys
events_append [] ys = refl
events_append (x ∷ xs) ys = rw (events_append xs ys) (sym (append_assoc (event_of x) (events_of xs) (events_of ys)))

pub beginnings_are_linearizable : (F : Type 0) → BeginningsAreLinearizable F
beginnings_are_linearizable F P memory ls m object more run l =
    beginning object (after_labels (first_history P) ls) (events_of ls) (events_of more) (histories_tell F P memory ls m run)
    (subst (IsLinearizable object) (events_append ls more) l)

pub steps_stay_well_formed : (F : Type 0) → StepsStayWellFormed F
steps_stay_well_formed F p size sound rank r s s' a w e =
    let (m, em, is) = move_of p s s' a e in
    subst (IsWellFormed p size sound) (sym is) (stays p size sound rank r s a m w em)

pub first_is_well_formed : (F : Type 0) → FirstIsWellFormed F
first_is_well_formed F p sound memory = first_well_formed p sound memory

pub orders_are_linearizations : (F : Type 0) → OrdersAreLinearizations F
orders_are_linearizations F P memory ls m run object order =
    let same = histories_tell F P memory ls m run in
    (told object _ (events_of ls) order same, untold object _ (events_of ls) order same)

pub paths_are_shown : (F : Type 0) → PathsAreShown F
paths_are_shown F P memory object actors d steps =
    let (ls, from, same, shaped) = steps_give_runs P (first_state P memory) actors d (first_shaped P memory) steps in
    let run : Run P (first_machine P memory) ls (machine_of d) = subst (λ m. Run P m ls (machine_of d)) (sym (first_same P memory)) from in
    record {
      labels = ls;
      run = run;
      faults = λ i (t, at, is). stops_are_faults P memory ls (machine_of d) i (thread_view (calls_in d.history i) t) run
          (threads_get d.history d.threads i (calls_in d.history i) t (shaped_get d i t shaped at) at) (ap core_of is);
      orders = λ order l. subst (λ h. IsOrder object h order) (sym same) ((orders_are_linearizations F P memory ls (machine_of d) run object order).1 l);
    }

-- THE COMPOSITION

module _ {F : Type 0} (p : Program F) (memory : List ℕ) (sound : CallKind → F → Bool) (rank : F → ℕ) (t : Table F) (object : Object) (kept : State F → Bool) (r : IsRanked p (length memory) sound rank) (c : IsCertificate p memory sound t object kept) where
  is_closed : IsClosed p kept
  is_closed s s' a k e =
      let (one, rest, valid, next) = c.choices s s' a k e in
      (one, rest, valid_is_persistent F p (length memory) sound rank t r c.closed s (one ∷ rest) (c.well_formed s k) valid, next)

  -- an end that compact steps reach has no stopped thread, and an order
  good_end : (actors : List Actor) (end : State F) → Steps (step p) (first_state p memory) actors end → Over (step p) end →
      ((i : ℕ) → IsStoppedIn end i → ⊥) × ((order : List Placed) × IsOrder object end.history order)
  good_end actors end steps over =
      let (u, k, z, h) = ends_are_met F p kept is_closed (first_state p memory) (first_state p memory) end actors c.has_initial (at_least_refl (first_state p memory)) steps over in
      let (order, l) = c.orders u k z in
      ((λ i (th, at, is). c.unstopped u i k z (th, ap (λ ts. slice_get ts i) h.threads ∙ at, is)), (order, orders_serve_looser F object u end order h l))

  pub good_run : (ls : List Label) (m : Machine F) → Run p (first_machine p memory) ls m → IsGood object ls
  good_run ls m run =
      let x = runs_reach_ends p (length memory) sound rank r memory ls m run in
      let (up, (order, l)) = good_end x.actors x.state x.steps x.over in
      let tells = histories_tell F p memory (ls ++ x.more) (machine_of x.state) x.run in
      let whole : IsOrder object (after_labels (first_history p) (ls ++ x.more)) order = subst (λ h. IsOrder object h order) x.same l in
      ((λ i f. up i (x.faults i f)), beginnings_are_linearizable F p memory ls m object x.more run (order, told object _ (events_of (ls ++ x.more)) order tells whole))

pub every_run_is_good : (F : Type 0) → EveryRunIsGood F
every_run_is_good F p memory sound rank t object kept r c ls m run = good_run p memory sound rank t object kept r c ls m run

-- a path to a state with a stopped thread or without an order is shown by a run that is not good
pub bad_paths_are_errors : (F : Type 0) → BadPathsAreErrors F
bad_paths_are_errors F P memory object actors d steps bad =
    let x = paths_are_shown F P memory object actors d steps in (
      x.labels,
      x.run,
      λ good. elim bad [
        | inl stopped ↦ good.0 stopped.0 (x.faults stopped.0 stopped.1)
        | inr none ↦ none good.1.0 (x.orders good.1.0 good.1.1)
      ],
    )
