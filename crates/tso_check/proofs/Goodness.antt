-- The records of a valid tree of steps are closed under persistent choices, so each end that a run reaches is met by a kept end with
-- no fault and an order. Those of one of crossings are crossings and ends to which free actors lead.
use Rattle.std.proofs.Common.{◌≡◌, ◌∙◌, ℕ, ◌++◌, ◌⊎◌, inl, inr, Bool, true, false, List, [], ◌∷◌, length, map, get_or, Option, None, Some, slice_get, slice_index_or, zero, suc, refl, sym, ap, subst, arith}
use Rattle.std.specs.Prelude.{All, Contains, is_some, IsTrue}
use Rattle.std.specs.Option.{option_map}
use Rattle.std.proofs.lemmas.Bool.{cases_eq}
use Rattle.std.proofs.lemmas.Option.{none-some, same_Some, slice_get_within, slice_get-get_or}
use Rattle.tso_cert.specs.Lookup.{tree_states}
use Rattle.tso_cert.specs.Trees.{Tree, records_of}
use Rattle.tso_client.specs.Headline.{EachRunIsGood}
use Rattle.tso_judge.specs.Valid.{IsValidRecord, IsValidTree}
use Rattle.tso_choose.proofs.ChoiceLemmas.{valid_choices_are_persistent}
use Rattle.tso_choose.specs.Choices.{AreReasons, AreValid, actors_of}
use Rattle.tso_choose.specs.Needs.{is_enabled}
use Rattle.tso_choose.specs.declared.choice.Choice.{Choice}
use Rattle.tso_compact.specs.Laws.{initial_of}
use Rattle.tso_compact.specs.Plans.{kind_of_move}
use Rattle.tso_fifo.specs.Orders.{order_view}
use Rattle.tso_flow.specs.declared.location.ProcedureKind.{ProcedureKind}
use Rattle.tso_foot.specs.declared.table.Table.{Table}
use Rattle.tso_foot.specs.Within.{IsWithin}
use Rattle.tso_foot.specs.declared.table.ArrayTable.{ArrayTable}
use Rattle.tso_judge.proofs.CrossingLemmas.{no_move_is_over, over_has_no_move}
use Rattle.tso_move.proofs.CrossedLemmas.{crossed_runs_are_good}
use Rattle.tso_move.specs.Crossed as crossed
use Rattle.tso_move.specs.Crossed.{AreCrossings, HasNoMove, IsMetAfter}
use Rattle.tso_move.specs.Runs.{HasMove}
use Rattle.tso_hist.specs.Views.{history_view}
use Rattle.tso_rec.specs.Conditions.{AreMet, HasNoStopped, IsKeptAfter, SuccessorsAreKept}
use Rattle.tso_machine.proofs.Ranked.{ranked}
use Rattle.tso_machine.specs.Activations.{Activation, activation}
use Rattle.tso_machine.specs.Places.{first_memory}
use Rattle.tso_machine.specs.Programs.{program_of}
use Rattle.tso_machine.specs.Soundness.{is_sound_or_past_end, rank}
use Rattle.tso_model.proofs.Answered.{histories_tell}
use Rattle.tso_model.proofs.Faults.{runs_reach_ends}
use Rattle.tso_model.proofs.Moves.{as_ended, at_least_refl, at_least_trans, simulates}
use Rattle.tso_model.proofs.Orders.{told}
use Rattle.tso_model.proofs.Reduce.{reduces}
use Rattle.tso_model.proofs.Theorems.{beginnings_are_linearizable, orders_serve_looser}
use Rattle.tso_model.specs.Events.{events_of}
use Rattle.tso_model.specs.Faults.{IsStoppedIn}
use Rattle.tso_model.specs.Labels.{after_labels, machine_of}
use Rattle.tso_model.specs.Linear.{IsOrder, Placed}
use Rattle.tso_model.specs.Objects.{Queue}
use Rattle.tso_model.specs.Reduce.{Has, Over, Persistent}
use Rattle.tso_model.specs.Reduce as reduce
use Rattle.tso_model.specs.States as model
use Rattle.tso_model.specs.States.{first_history}
use Rattle.tso_model.specs.Steps as steps
use Rattle.tso_model.specs.Strictness.{AtLeast}
use Rattle.tso_prog.specs.Views.{mode_view}
use Rattle.tso_prog.specs.declared.client.Client.{Client}
use Rattle.tso_rec.specs.Bases.{basis, by_steps}
use Rattle.tso_rec.specs.declared.basis.Basis.{Basis}
use Rattle.tso_rec.specs.declared.basis.Grain.{Grain}
use Rattle.tso_rec.specs.declared.basis.Grain.TheVariants.{Steps, Crossings}
use Rattle.tso_rec.specs.declared.record.End.{End}
use Rattle.tso_rec.specs.declared.record.End.TheVariants.{Choices, Order}
use Rattle.tso_rec.specs.declared.record.Record.{Record}
use Rattle.tso_state.proofs.ViewLemmas.{slice_get-threads_view}
use Rattle.tso_state.specs.Actors.{actor_of}
use Rattle.tso_state.specs.Views.{core_view, running_procedure, state_of, thread_view}
use Rattle.tso_state.specs.WellFormed.{IsWellFormed}
use Rattle.tso_state.specs.declared.actor.Actor.{Actor}
use Rattle.tso_state.specs.declared.actor.Actor.TheVariants.{Exec, Drain}
use Rattle.tso_state.specs.declared.state.Core.{Core}
use Rattle.tso_state.specs.declared.state.Core.TheVariants.{Idle, Running, Stopped}
use Rattle.tso_state.specs.declared.state.State.{State}
use Rattle.tso_state.specs.declared.state.Thread.{Thread}

-- ---- actors

same_actor : (a b : steps.Actor) → (a ≡ b) ⊎ (a ≡ b → ⊥)
same_actor (steps.Exec i) (steps.Exec j) = elim (cases_eq i j) [ inl e ↦ inl (ap steps.Exec e) | inr n ↦ inr (λ e. n (ap steps.thread_of e)) ]
same_actor (steps.Drains i) (steps.Drains j) = elim (cases_eq i j) [ inl e ↦ inl (ap steps.Drains e) | inr n ↦ inr (λ e. n (ap steps.thread_of e)) ]
same_actor (steps.Exec i) (steps.Drains j) = inr (λ e. cc)
same_actor (steps.Drains i) (steps.Exec j) = inr (λ e. cc)

has_or_not : (chosen : List steps.Actor) (a : steps.Actor) → Has chosen a ⊎ (Has chosen a → ⊥)
has_or_not [] a = inr (λ h. h)
has_or_not (c ∷ chosen) a = elim (same_actor c a) [
  | inl e ↦ inl (inl e)
  | inr n ↦ elim (has_or_not chosen a) [ inl h ↦ inl (inr h) | inr none ↦ inr (elim [ inl e ↦ n e | inr h ↦ none h ]) ]
]

-- each actor of the model is one of the code
mover : (a : steps.Actor) → (b : Actor) × (actor_of b ≡ a)
mover (steps.Exec i) = (Exec i, refl)
mover (steps.Drains i) = (Drain i, refl)

on_by_step : {X Y Z : Type 0} (f : X → Y) (k : X → Z) (o : Option X) (y : Y) → option_map f o ≡ Some y → is_some (option_map k o) ≡ true
on_by_step f k None y e = absurd (none-some y e)
on_by_step f k (Some m) y e = refl

-- an actor with a step is enabled
on : (c : Client) (s : State) (a : Actor) (s' : model.State Activation) → steps.step (program_of c) (state_of s) (actor_of a) ≡ Some s' → is_enabled c s a ≡ true
on c s a s' e = on_by_step (steps.perform (state_of s) (steps.thread_of (actor_of a))) kind_of_move (steps.move (program_of c) (state_of s) (actor_of a)) s' e

true-false : (x : Bool) → x ≡ true → x ≡ false → ⊥
true-false true e f = let clash : true ≡ false = f in cc
true-false false e f = let clash : false ≡ true = e in cc

off_by_step : {X Y Z : Type 0} (f : X → Y) (k : X → Z) (o : Option X) → option_map f o ≡ None → is_some (option_map k o) ≡ true → ⊥
off_by_step f k None e h = true-false false h refl
off_by_step f k (Some m) e h = none-some (f m) (sym e)

-- one without is not
off : (c : Client) (s : State) (a : Actor) → steps.step (program_of c) (state_of s) (actor_of a) ≡ None → is_enabled c s a ≡ true → ⊥
off c s a e h = off_by_step (steps.perform (state_of s) (steps.thread_of (actor_of a))) kind_of_move (steps.move (program_of c) (state_of s) (actor_of a)) e h

-- ---- lists

contained : {X Y : Type 0} (f : X → Y) (xs : List X) (y : Y) → Contains (map f xs) y → (k : ℕ) × (x : X) × (slice_get xs k ≡ Some x) × (f x ≡ y)
contained f [] y (k, lt, e) = absurd (omega (arith, lt))
contained f (x ∷ xs) y (zero, lt, e) = (0, x, refl, e)
contained f (x ∷ xs) y (suc k, lt, e) = let (n, x', at, is) = contained f xs y (k, omega (arith, lt), e) in (suc n, x', at, is)

all_at : {X : Type 0} (P : X → Type 0) (xs : List X) (k : ℕ) (x : X) → All P xs → slice_get xs k ≡ Some x → P x
all_at P xs k x all at =
    let lt = slice_get_within xs k x at in
    subst P (same_Some (get_or xs k x) x (sym (slice_get-get_or xs k x lt) ∙ at)) (all k x lt)

had : (choices : List Choice) (a : steps.Actor) → Has (map actor_of (actors_of choices)) a → (k : ℕ) × (x : Choice) × (slice_get choices k ≡ Some x) × (actor_of x.actor ≡ a)
had [] a h = absurd h
had (x ∷ rest) a (inl e) = (0, x, refl, e)
had (x ∷ rest) a (inr h) = let (k, y, at, is) = had rest a h in (suc k, y, at, is)

-- ---- one record

module _ (c : Client) (t : Table) (tree : Tree) (valid : IsValidTree c (by_steps t) tree) where
  abbrev Kept : model.State Activation → Type 0
  Kept m = (s : State) × Contains (tree_states tree) s × (m ≡ state_of s)

  record IsKept (m : model.State Activation) : Type 0 where
    it : Record
    is : m ≡ state_of it.state
    valid_record : IsValidRecord c (by_steps t) (tree_states tree) it

  record_of : (m : model.State Activation) → Kept m → IsKept m
  record_of m (s, inside, e) =
      let (k, r, at, is) = contained (λ (x : Record). x.state) (records_of tree) s inside in
      record { it = r; is = e ∙ ap state_of (sym is); valid_record = valid.records k r at }

  abbrev Closed : model.State Activation → Type 0
  Closed m = (a : steps.Actor) × (rest : List steps.Actor) × Persistent (steps.step (program_of c)) AtLeast m (a ∷ rest) ×
      ((b : steps.Actor) (m' : model.State Activation) → Has (a ∷ rest) b → steps.step (program_of c) m b ≡ Some m' → Kept m')

  -- chosen actors of a record
  chosen : (s : State) (choices : List Choice) → AreMet c (by_steps t) (SuccessorsAreKept c (by_steps t) (tree_states tree) s (Choices choices)) (IsWithin t s) s (Choices choices) → Closed (state_of s)
  chosen s [] met = absurd (let more = met.fits.some in omega (arith, more))
  chosen s (x ∷ rest) met =
      let choices = x ∷ rest in
      let sets : AreValid c t s choices = record {
        rising = met.fits.rising;
        enabled = λ n y at. all_at (λ (z : Choice). IsTrue (is_enabled c s z.actor)) choices n y met.fits.enabled at;
        reasons = λ n y at. all_at (λ (z : Choice). AreReasons c t s (actors_of choices) z.actor z.reasons) choices n y met.reasons at;
        some = λ a yes. met.fits.some;
      } in (
        actor_of x.actor,
        map actor_of (actors_of rest),
        valid_choices_are_persistent c t s choices valid.closed met.well_formed met.within sets,
        λ b m' h e.
            let (k, y, at, is) = had choices b h in
            let after = all_at (λ (z : Choice). IsKeptAfter c (tree_states tree) s z.actor) choices k y met.successors at in
            let same : m' ≡ state_of after.after = same_Some m' (state_of after.after) (sym e ∙ ap (steps.step (program_of c) (state_of s)) (sym is) ∙ after.step) in
            (after.after, after.kept, same),
      )

  closed_by : (s : State) (e : End) (a : steps.Actor) (m' : model.State Activation) → steps.step (program_of c) (state_of s) a ≡ Some m'
      → AreMet c (by_steps t) (SuccessorsAreKept c (by_steps t) (tree_states tree) s e) (IsWithin t s) s e → Closed (state_of s)
  closed_by s (Choices choices) a m' step met = chosen s choices met
  closed_by s (Order order) a m' step met =
      let (b, is) = mover a in
      absurd (true-false (is_enabled c s b) (on c s b m' (ap (steps.step (program_of c) (state_of s)) is ∙ step)) (met.fits b))

  is_closed : (m m' : model.State Activation) (a : steps.Actor) → Kept m → steps.step (program_of c) m a ≡ Some m' → Closed m
  is_closed m m' a k e =
      let r = record_of m k in
      subst Closed (sym r.is) (closed_by r.it.state r.it.end a m' (ap (λ x. steps.step (program_of c) x a) (sym r.is) ∙ e) r.valid_record)

  -- ---- ends

  abbrev IsGoodEnd : model.State Activation → Type 0
  IsGoodEnd m = ((i : ℕ) → IsStoppedIn m i → ⊥) × ((order : List Placed) × IsOrder (Queue (mode_view c.mode) c.capacity) m.history order)

  halted : (name : ProcedureKind) (core : Core) → core_view name core ≡ model.Halted → core ≡ Stopped
  halted name Idle e = absurd (let h : model.Resting ≡ model.Halted = e in cc)
  halted name (Running f) e = absurd (let h : model.Executing (activation name f) ≡ model.Halted = e in cc)
  halted name Stopped e = refl

  stopped_thread : (name : ProcedureKind) (o : Option Thread) (th : model.CompactThread Activation) → option_map (thread_view name) o ≡ Some th → th.core ≡ model.Halted
      → (x : Thread) × (o ≡ Some x) × (x.core ≡ Stopped)
  stopped_thread name None th e h = absurd (none-some th e)
  stopped_thread name (Some x) th e h = (x, refl, halted name x.core (ap (λ (y : model.CompactThread Activation). y.core) (same_Some (thread_view name x) th e) ∙ h))

  no_stopped : (s : State) → HasNoStopped s → (i : ℕ) → IsStoppedIn (state_of s) i → ⊥
  no_stopped s none i (th, at, is) =
      let (x, there, stopped) = stopped_thread (running_procedure (slice_index_or s.history i [])) (slice_get s.threads i) th (sym (slice_get-threads_view s.history s.threads i) ∙ at) is in
      none i (record { thread = x; at = there; stopped = stopped })

  end_by : (s : State) (e : End) → Over (steps.step (program_of c)) (state_of s) → AreMet c (by_steps t) (SuccessorsAreKept c (by_steps t) (tree_states tree) s e) (IsWithin t s) s e → IsGoodEnd (state_of s)
  end_by s (Choices []) over met = absurd (let more = met.fits.some in omega (arith, more))
  end_by s (Choices (x ∷ rest)) over met = absurd (let yes = all_at (λ (z : Choice). IsTrue (is_enabled c s z.actor)) (x ∷ rest) 0 x met.fits.enabled refl in off c s x.actor (over (actor_of x.actor)) yes)
  end_by s (Order order) over met = (no_stopped s met.unstopped, (order_view (history_view s.history) order, met.explained))

  good_end : (m : model.State Activation) → Kept m → Over (steps.step (program_of c)) m → IsGoodEnd m
  good_end m k over =
      let r = record_of m k in
      subst IsGoodEnd (sym r.is) (end_by r.it.state r.it.end (subst (Over (steps.step (program_of c))) r.is over) r.valid_record)

  -- an end that compact steps reach has no stopped thread, and an order
  reached_end : (actors : List steps.Actor) (end : model.State Activation) → reduce.Steps (steps.step (program_of c)) (initial_of c) actors end → Over (steps.step (program_of c)) end → IsGoodEnd end
  reached_end actors end path over =
      let first : Kept (initial_of c) = (valid.initial.initial, valid.initial.there, sym valid.initial.first) in
      let (u, k, z, h) = reduces (steps.step (program_of c)) AtLeast Kept
      (record { decide = has_or_not; same = at_least_refl; trans = at_least_trans; simulates = simulates (program_of c); as_ended = as_ended (program_of c); choices = is_closed })
      (initial_of c) (initial_of c) end actors first (at_least_refl (initial_of c)) path over in
      let (up, (order, l)) = good_end u k z in
      ((λ i (th, at, is). up i (th, ap (λ ts. slice_get ts i) h.threads ∙ at, is)), (order, orders_serve_looser Activation (Queue (mode_view c.mode) c.capacity) u end order h l))

  steps_are_good : EachRunIsGood c
  steps_are_good ls m run =
      let p = program_of c in
      let object = Queue (mode_view c.mode) c.capacity in
      let memory = first_memory c.arrays in
      let x = runs_reach_ends p (length memory) (is_sound_or_past_end c) (rank c) (ranked c) memory ls m run in
      let (up, (order, l)) = reached_end x.actors x.state x.steps x.over in
      let tells = histories_tell Activation p memory (ls ++ x.more) (machine_of x.state) x.run in
      let whole : IsOrder object (after_labels (first_history p) (ls ++ x.more)) order = subst (λ h. IsOrder object h order) x.same l in
      ((λ i f. up i (x.faults i f)), beginnings_are_linearizable Activation p memory ls m object x.more run (order, told object _ (events_of (ls ++ x.more)) order tells whole))

-- ---- certificates of crossings

module _ (c : Client) (t : Table) (tree : Tree) (valid : IsValidTree c (basis Crossings t) tree) where
  abbrev own : ArrayTable
  own = valid.initial.own

  -- the record of a state
  record At (s : State) : Type 0 where
    it : Record
    is : it.state ≡ s
    valid_record : IsValidRecord c (basis Crossings t) (tree_states tree) it

  at_state : (s : State) → Contains (tree_states tree) s → At s
  at_state s inside = let (k, r, at, is) = contained (λ (x : Record). x.state) (records_of tree) s inside in record { it = r; is = is; valid_record = valid.records k r at }

  moves_by : (s : State) (e : End) (a : Actor) → AreMet c (basis Crossings t) (SuccessorsAreKept c (basis Crossings t) (tree_states tree) s e) (IsWithin t s) s e → HasMove c own s a → IsMetAfter c own t (tree_states tree) s a
  moves_by s (Choices choices) a met has = met.successors own valid.initial.least a has
  moves_by s (Order order) a met has = absurd (over_has_no_move c own s met.fits a has)

  ends_by : (s : State) (e : End) → AreMet c (basis Crossings t) (SuccessorsAreKept c (basis Crossings t) (tree_states tree) s e) (IsWithin t s) s e → HasNoMove c own s → crossed.IsGoodEnd c s
  ends_by s (Choices choices) met none = absurd (met.fits (no_move_is_over c own s none))
  ends_by s (Order order) met none = record {
    unstopped = λ i thread at stopped. met.unstopped i (record { thread = thread; at = at; stopped = stopped });
    explained = (order_view (history_view s.history) order, met.explained);
  }

  are_crossings : AreCrossings c own t (tree_states tree)
  are_crossings = record {
    closed_own = valid.initial.least.closed;
    closed = valid.closed;
    first = valid.initial.initial;
    is_first = valid.initial.first;
    met = valid.initial.met;
    well_formed = λ s inside. let x = at_state s inside in subst (IsWellFormed c) x.is x.valid_record.well_formed;
    moves = λ s a inside.
        let x = at_state s inside in
        subst (λ (u : State). HasMove c own u a → IsMetAfter c own t (tree_states tree) u a) x.is (moves_by x.it.state x.it.end a x.valid_record);
    ends = λ s inside.
        let x = at_state s inside in
        subst (λ (u : State). HasNoMove c own u → crossed.IsGoodEnd c u) x.is (ends_by x.it.state x.it.end x.valid_record);
  }

-- ---- of either grain

by_grain : (c : Client) (g : Grain) (t : Table) (tree : Tree) → IsValidTree c (basis g t) tree → EachRunIsGood c
by_grain c Steps t tree valid = steps_are_good c t tree valid
by_grain c Crossings t tree valid = crossed_runs_are_good c (own c t tree valid) t (tree_states tree) (are_crossings c t tree valid)

pub each_run_is_good : (c : Client) (b : Basis) (tree : Tree) → IsValidTree c b tree → EachRunIsGood c
each_run_is_good c b tree valid = by_grain c b.grain b.table tree valid
