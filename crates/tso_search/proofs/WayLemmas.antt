-- The labels of steps, one after another, and what the run to a bad state is.
use Rattle.std.proofs.Common.{◌≡◌, Bool, true, false, ℕ, ◌-◌, ◌<◌, ◌≤◌, List, [], ◌∷◌, ◌++◌, length, map, Some, get_or, slice_get, slice_index_or, refl, sym, ap, subst, ◌∙◌, arith, inl, inr}
use Rattle.std.proofs.lemmas.List.{length-map, map-append}
use Rattle.std.proofs.lemmas.Option.{same_Some, slice_get-get_or}
use Rattle.std.specs.Option.{option_map}
use Rattle.std.specs.Prelude.{◌↔◌, IsTrue}
use Rattle.tso_compact.proofs.NamingLemmas.{shaped}
use Rattle.tso_compact.proofs.PathLemmas.{initial_is_plausible}
use Rattle.tso_compact.specs.Laws.{IsLabelRun, IsPlausible, initial_of}
use Rattle.tso_compact.specs.Plans.{HasHistories, HasStep, IsLabelled, IsRunOfStep, IsStep}
use Rattle.tso_crossing.proofs.AsSteps.{moves_are_steps}
use Rattle.tso_crossing.specs.Late.{AllAre}
use Rattle.tso_flow.specs.Calls.{step_limit}
use Rattle.tso_flow.specs.Faults.{HasNoFault}
use Rattle.tso_foot.specs.declared.table.ArrayTable.{ArrayTable}
use Rattle.tso_judge.proofs.CrossingLemmas.{same_move, same_run}
use Rattle.tso_move.specs.Own.{extent_of}
use Rattle.tso_move.specs.Runs.{IsMove, IsRun}
use Rattle.tso_search.proofs.SearchLemmas.{plausible_along}
use Rattle.tso_search.specs.Grounds.{Goes, IsFirst, Leads}
use Rattle.tso_search.specs.Reached.{AreOrigins, IsBad, IsOrigin}
use Rattle.tso_search.specs.Ways.{AreLed, ComeEarlier, IsBadEnd, IsOriginOf, IsTrail, LeadBack}
use Rattle.tso_search.specs.declared.ground.Ground.{Ground}
use Rattle.tso_search.specs.declared.ground.Ground.TheVariants as grounds
use Rattle.tso_search.specs.declared.trail.Trail.{Trail}
use Rattle.tso_search.specs.declared.origin.Origin.{Origin}
use Rattle.tso_rec.specs.Conditions.{IsStoppedAt}
use Rattle.tso_machine.proofs.RunLaws.{runs_are_short}
use Rattle.tso_machine.specs.Activations.{Activation}
use Rattle.tso_machine.specs.Machines.{label_of}
use Rattle.tso_machine.specs.Places.{first_memory}
use Rattle.tso_machine.specs.Programs.{program_of}
use Rattle.tso_machine.specs.declared.label.Label.{Label}
use Rattle.tso_model.proofs.Faults.{stops_are_faults}
use Rattle.tso_model.proofs.Follow.{first_same}
use Rattle.tso_model.proofs.Labelled.{run_append}
use Rattle.tso_model.proofs.Leaves.{step_leaves}
use Rattle.tso_model.proofs.Theorems.{orders_are_linearizations}
use Rattle.tso_model.proofs.Threads.{shaped_get, threads_get}
use Rattle.tso_model.specs.Labels as model
use Rattle.tso_model.specs.Labels.{Machine, Run, after_label, after_labels, core_of, first_machine, machine_of}
use Rattle.tso_model.specs.Linear.{IsOrder}
use Rattle.tso_model.specs.Reduce.{Steps}
use Rattle.tso_model.specs.Steps as steps
use Rattle.tso_model.specs.States as states_of_model
use Rattle.tso_model.specs.States.{Called, calls_in}
use Rattle.tso_prog.specs.declared.client.Client.{Client}
use Rattle.tso_state.proofs.ViewLemmas.{slice_get-threads_view}
use Rattle.tso_state.specs.Actors.{actor_of}
use Rattle.tso_state.specs.Views.{running_procedure, state_of, thread_view}
use Rattle.tso_state.specs.declared.actor.Actor.{Actor}
use Rattle.tso_state.specs.declared.state.State.{State}
use Rattle.tso_confluence.proofs.Views.{same_state}
use Rattle.tso_trace.proofs.LawLemmas.{no_fault}
use Rattle.tso_trace.specs.Runs.{IsErrorTrace, IsGoodRun, IsTraceFault, queue_of}
use Rattle.tso_trace.specs.declared.fault.TraceFault.{TraceFault}
use Rattle.tso_trace.specs.declared.fault.TraceFault.TheVariants.{Memory}

-- ---- ways

pub come_earlier : (c : Client) (g : Ground) (states : List State) (origins : List Origin) → AreOrigins c g states origins → ComeEarlier origins
come_earlier c g states origins all k o at = let earlier = (all k o at).earlier in omega (arith, earlier)

pub leads_on : (origins : List Origin) (n : ℕ) (way : List Origin) (m : ℕ) (o : Origin) → LeadBack origins n way m → IsOriginOf origins m o → LeadBack origins n (way ++ o ∷ []) o.from
leads_on origins n [] m o same is =
    let P : ℕ → Type 0 = λ k. IsOriginOf origins k o in
    (subst P (sym same) is, refl)
leads_on origins n (x ∷ way) m o (first, rest) is = (first, leads_on origins x.from way m o rest is)

-- the way so far leads from state n back to this one
pub record IsOnWay (origins : List Origin) (n : ℕ) (way : List Origin) (at : ℕ) : Type 0 where
  pub inside : at ≤ length origins
  pub way_there : LeadBack origins n way at

pub one_back : (origins : List Origin) (n : ℕ) (way after : List Origin) (at : ℕ) (d : Origin) → ComeEarlier origins → IsOnWay origins n way at → 0 < at → after ≡ way ++ get_or origins (at - 1) d ∷ []
    → IsOnWay origins n after (get_or origins (at - 1) d).from
one_back origins n way after at d earlier on more is =
    let o = get_or origins (at - 1) d in
    let inside = on.inside in
    let there = slice_get-get_or origins (at - 1) d (omega (arith, more, inside)) in
    let P : List Origin → Type 0 = λ w. LeadBack origins n w o.from in
    record {
      inside = let e = earlier (at - 1) o there in omega (arith, e, inside);
      way_there = subst P (sym is) (leads_on origins n way at o on.way_there (record { place = at - 1; next = omega (arith, more); at = there }));
    }

-- the last origin of a way leads to the state from which it goes on
pub record LeadsTo (origins : List Origin) (n : ℕ) (way : List Origin) (o : Origin) (m : ℕ) : Type 0 where
  pub number : ℕ
  pub way_there : LeadBack origins n way number
  pub origin : IsOriginOf origins number o
  pub from : o.from ≡ m

pub last_origin : (origins : List Origin) (n : ℕ) (way : List Origin) (o : Origin) (m : ℕ) → LeadBack origins n (way ++ o ∷ []) m → LeadsTo origins n way o m
last_origin origins n [] o m (is, same) = record { number = n; way_there = refl; origin = is; from = same }
last_origin origins n (x ∷ way) o m (first, rest) =
    let l = last_origin origins x.from way o m rest in
    record { number = l.number; way_there = (first, l.way_there); origin = l.origin; from = l.from }

pub origin_at : (c : Client) (g : Ground) (states : List State) (origins : List Origin) (n : ℕ) (o : Origin) → AreOrigins c g states origins → IsOriginOf origins n o → IsOrigin c g states n o
origin_at c g states origins n o all is =
    let P : ℕ → Type 0 = λ k. IsOrigin c g states k o in
    subst P (sym is.next) (all is.place o is.at)

-- ---- labels

-- the history after two lists of labels
after_both : (h : List (List Called)) (xs ys : List model.Label) → after_labels h (xs ++ ys) ≡ after_labels (after_labels h xs) ys
after_both h [] ys = refl
after_both h (x ∷ xs) ys = after_both (after_label h x) xs ys

both_runs : (c : Client) (r s t : states_of_model.State Activation) (xs ys : List model.Label) → IsLabelRun c r s xs → IsLabelRun c s t ys → IsLabelRun c r t (xs ++ ys)
both_runs c r s t xs ys first second = record {
  run = run_append (program_of c) (machine_of r) (machine_of s) (machine_of t) xs ys first.run second.run;
  history = second.history ∙ ap (λ h. after_labels h ys) first.history ∙ sym (after_both r.history xs ys);
}

-- ---- trails

-- the initial state alone
pub trail_first : (c : Client) (t : Trail) → state_of t.state ≡ initial_of c → t.labels.items ≡ [] → IsTrail c t
trail_first c t first none = record {
  labels = rw none (record { run = ap machine_of first; history = ap (λ (x : states_of_model.State Activation). x.history) first });
  plausible = initial_is_plausible c t.state first;
}

pub has_histories : (c : Client) (s : State) → IsPlausible c s → HasHistories s
has_histories c s p = record { lists = p.well_formed.sizes.history ∙ sym p.well_formed.sizes.threads }

-- the labels of a step lead on, with the history
step_run : (c : Client) (s t : State) (a : Actor) (labels : List Label) → HasHistories s → IsLabelled c s a labels → IsRunOfStep c s a labels → IsStep c s a t → IsLabelRun c (state_of s) (state_of t) (map label_of labels)
step_run c s t a labels lists named runs step =
    let left = step_leaves (program_of c) (state_of s) (actor_of a) (state_of t) (shaped s lists) step in
    record { run = runs t step; history = left.0 ∙ ap (after_labels (state_of s).history) (sym named.labels) }

-- behind a step
pub trail_on : (c : Client) → HasNoFault c → (old new : Trail) (a : Actor) (labels : List Label) → IsTrail c old → IsStep c old.state a new.state → IsLabelled c old.state a labels → IsRunOfStep c old.state a labels
    → new.labels.items ≡ old.labels.items ++ labels → IsTrail c new
trail_on c sound old new a labels trail step named runs joined =
    let both = both_runs c (initial_of c) (state_of old.state) (state_of new.state) (map label_of old.labels.items) (map label_of labels) trail.labels
    (step_run c old.state new.state a labels (has_histories c old.state trail.plausible) named runs step) in
    let P : List model.Label → Type 0 = λ ls. IsLabelRun c (initial_of c) (state_of new.state) ls in
    record {
      labels = subst P (sym (ap (map label_of) joined ∙ map-append label_of old.labels.items labels)) both;
      plausible = plausible_along c sound old.state new.state (actor_of a ∷ []) trail.plausible (state_of new.state, step, refl);
    }

-- no trail has more labels than the client's limit
pub trail_is_short : (c : Client) (t : Trail) → IsTrail c t → length t.labels.items ≤ step_limit c
trail_is_short c t trail =
    let P : Machine Activation → Type 0 = λ m. Run (program_of c) m (map label_of t.labels.items) (machine_of (state_of t.state)) in
    let few = runs_are_short c (map label_of t.labels.items) (machine_of (state_of t.state)) (subst P (sym (first_same (program_of c) (first_memory c.arrays))) trail.labels.run) in
    let count = length-map t.labels.items label_of in
    omega (arith, few, count)

-- ---- steps of one actor

pub differ : (s t : State) (r : Bool) → IsTrue r ↔ (s ≡ t) → r ≡ false → s ≡ t → ⊥
differ s t true tells off same = let clash : true ≡ false = off in cc
differ s t false tells off same = let clash : false ≡ true = tells.1 same in cc

pub same_by : (s t : State) (r : Bool) → IsTrue r ↔ (s ≡ t) → r ≡ true → s ≡ t
same_by s t r tells is = tells.0 is

-- those of a move
pub move_led : (c : Client) (own : ArrayTable) (s first t : State) (a : Actor) → IsMove c own s a t → IsStep c s a first → AreLed c first a t
move_led c own s first t a move step =
    let (m, rest, one, own_ones, more) = moves_are_steps Activation (program_of c) (extent_of c own) (state_of s) (state_of t) (actor_of a) move in
    let same : m ≡ state_of first = same_Some m (state_of first) (sym one ∙ step) in
    record { actors = rest; own = own_ones; steps = subst (λ (x : states_of_model.State Activation). Steps (steps.step (program_of c)) x rest (state_of t)) same more }

led_by : (c : Client) (s t : State) (a : Actor) (actors : List steps.Actor) → AllAre (actor_of a) actors → Steps (steps.step (program_of c)) (state_of s) actors (state_of t) → (s ≡ t → ⊥) → HasStep c s a
led_by c s t a [] own path differ = absurd (differ (same_state s t path))
led_by c s t a (b ∷ rest) (is, own) (m, one, more) differ =
    let P : steps.Actor → Type 0 = λ x. steps.step (program_of c) (state_of s) x ≡ Some m in
    let e : steps.step (program_of c) (state_of s) (actor_of a) ≡ Some m = subst P is one in
    rw e refl

-- while they have not led to the state, there is another
pub led_steps : (c : Client) (s t : State) (a : Actor) → AreLed c s a t → (s ≡ t → ⊥) → HasStep c s a
led_steps c s t a led differ = led_by c s t a led.actors led.own led.steps differ

on_by : (c : Client) (s next t : State) (a : Actor) (actors : List steps.Actor) → AllAre (actor_of a) actors → Steps (steps.step (program_of c)) (state_of s) actors (state_of t) → (s ≡ t → ⊥) → IsStep c s a next → AreLed c next a t
on_by c s next t a [] own path differ step = absurd (differ (same_state s t path))
on_by c s next t a (b ∷ rest) (is, own) (m, one, more) differ step =
    let P : steps.Actor → Type 0 = λ x. steps.step (program_of c) (state_of s) x ≡ Some m in
    let same : m ≡ state_of next = same_Some m (state_of next) (sym (subst P is one) ∙ step) in
    record { actors = rest; own = own; steps = subst (λ (x : states_of_model.State Activation). Steps (steps.step (program_of c)) x rest (state_of t)) same more }

pub led_on : (c : Client) (s next t : State) (a : Actor) → AreLed c s a t → (s ≡ t → ⊥) → IsStep c s a next → AreLed c next a t
led_on c s next t a led differ step = on_by c s next t a led.actors led.own led.steps differ step

-- ---- where actors lead is one state

pub same_leads : (c : Client) (g : Ground) (s x y : State) (a : Actor) → Leads c g s a x → Leads c g s a y → x ≡ y
same_leads c (grounds.Steps t) s x y a p q = same_state x y (same_Some (state_of x) (state_of y) (sym p ∙ q))
same_leads c (grounds.Crossings own t) s x y a p q =
    let same : p.after ≡ q.after = same_move c own t s p.after q.after a p.move q.move in
    same_run c own t q.after x y (subst (λ (z : State). IsRun c own t z x) same p.run) q.run

pub same_first : (c : Client) (g : Ground) (x y : State) → IsFirst c g x → IsFirst c g y → x ≡ y
same_first c (grounds.Steps t) x y p q = same_state x y (p ∙ sym q)
same_first c (grounds.Crossings own t) x y p q =
    let same : p.initial ≡ q.initial = same_state p.initial q.initial (p.initial_is ∙ sym q.initial_is) in
    same_run c own t q.initial x y (subst (λ (z : State). IsRun c own t z x) same p.run) q.run

pub leads_somewhere : (c : Client) (g : Ground) (s x : State) (a : Actor) → Leads c g s a x → Goes c g s a
leads_somewhere c (grounds.Steps t) s x a step = rw step refl
leads_somewhere c (grounds.Crossings own t) s x a is = rw is.move refl

-- ---- along a way

-- the trail so far leads to the state to which the way that is left leads back, the way to a run that is not good
pub record IsTrailTo (c : Client) (g : Ground) (origins : List Origin) (n : ℕ) (way : List Origin) (t : Trail) : Type 0 where
  pub bad : IsBadEnd c g origins n
  pub number : ℕ
  pub way_there : LeadBack origins n way number
  pub at : slice_get bad.states number ≡ Some t.state
  pub trail : IsTrail c t

pub way_first : (c : Client) (g : Ground) (origins : List Origin) (n : ℕ) (way : List Origin) (t : Trail) → IsBadEnd c g origins n → LeadBack origins n way 0 → IsTrail c t → IsFirst c g t.state → IsTrailTo c g origins n way t
way_first c g origins n way t bad back trail first = record {
  bad = bad;
  number = 0;
  way_there = back;
  at = bad.begun.initial_at ∙ ap Some (same_first c g bad.begun.initial t.state bad.begun.initial_is first);
  trail = trail;
}

-- the next origin of a way comes from the state to which the trail leads
record IsNextOnWay (c : Client) (g : Ground) (states : List State) (origins : List Origin) (n : ℕ) (rest : List Origin) (o : Origin) (s : State) : Type 0 where
  number : ℕ
  way_there : LeadBack origins n rest number
  after : State
  at : slice_get states number ≡ Some after
  leads : Leads c g s o.actor after

next_on_way : (c : Client) (g : Ground) (origins : List Origin) (n : ℕ) (way rest : List Origin) (o : Origin) (t : Trail) → (far : IsTrailTo c g origins n way t) → way ≡ rest ++ o ∷ []
    → IsNextOnWay c g far.bad.states origins n rest o t.state
next_on_way c g origins n way rest o t far is =
    let P : List Origin → Type 0 = λ w. LeadBack origins n w far.number in
    let l = last_origin origins n rest o far.number (subst P is far.way_there) in
    let origin = origin_at c g far.bad.states origins l.number o far.bad.begun.origins l.origin in
    let here : slice_get far.bad.states o.from ≡ Some t.state = ap (slice_get far.bad.states) l.from ∙ far.at in
    let same : origin.before ≡ t.state = same_Some origin.before t.state (sym origin.before_at ∙ here) in
    record { number = l.number; way_there = l.way_there; after = origin.after; at = origin.after_at; leads = subst (λ (x : State). Leads c g x o.actor origin.after) same origin.leads }

-- its actor leads somewhere
pub goes_next : (c : Client) (g : Ground) (origins : List Origin) (n : ℕ) (way rest : List Origin) (o : Origin) (t : Trail) → IsTrailTo c g origins n way t → way ≡ rest ++ o ∷ [] → Goes c g t.state o.actor
goes_next c g origins n way rest o t far is =
    let next = next_on_way c g origins n way rest o t far is in
    leads_somewhere c g t.state next.after o.actor next.leads

pub way_on : (c : Client) (g : Ground) (origins : List Origin) (n : ℕ) (way rest : List Origin) (o : Origin) (old new : Trail) → IsTrailTo c g origins n way old → way ≡ rest ++ o ∷ []
    → Leads c g old.state o.actor new.state → IsTrail c new → IsTrailTo c g origins n rest new
way_on c g origins n way rest o old new far is leads trail =
    let next = next_on_way c g origins n way rest o old far is in
    record {
      bad = far.bad;
      number = next.number;
      way_there = next.way_there;
      at = next.at ∙ ap Some (same_leads c g old.state next.after new.state o.actor next.leads leads);
      trail = trail;
    }

-- ---- errors

stopped_at : (c : Client) (s : State) (i : ℕ) → HasHistories s → IsStoppedAt s i → (t : model.Thread Activation) × (slice_get (machine_of (state_of s)).threads i ≡ Some t) × (t.core ≡ model.Stopped)
stopped_at c s i lists stop =
    let name = running_procedure (slice_index_or s.history i []) in
    let there : slice_get (state_of s).threads i ≡ Some (thread_view name stop.thread) = slice_get-threads_view s.history s.threads i ∙ ap (option_map (thread_view name)) stop.at in
    let halted : (thread_view name stop.thread).core ≡ states_of_model.Halted = ap (λ x. (thread_view name (record { core = x; buffer = stop.thread.buffer })).core) stop.stopped in (
      model.thread_view (calls_in (state_of s).history i) (thread_view name stop.thread),
      threads_get (state_of s).history (state_of s).threads i (calls_in (state_of s).history i) (thread_view name stop.thread) (shaped_get (state_of s) i (thread_view name stop.thread) (shaped s lists) there) there,
      ap core_of halted,
    )

error_to : (c : Client) (s : State) (labels : List Label) → IsPlausible c s → IsBad c s → IsLabelRun c (initial_of c) (state_of s) (map label_of labels) → IsErrorTrace c labels
error_to c s labels plausible bad run_of = record { run = record { machine = machine_of (state_of s); leads = record { run = run } }; errs = errs }
  where
    run : Run (program_of c) (first_machine (program_of c) (first_memory c.arrays)) (map label_of labels) (machine_of (state_of s))
    run =
        let P : Machine Activation → Type 0 = λ m. Run (program_of c) m (map label_of labels) (machine_of (state_of s)) in
        subst P (sym (first_same (program_of c) (first_memory c.arrays))) run_of.run

    errs : IsGoodRun c labels → ⊥
    errs good = elim bad [
      | inl stops ↦ stops (λ i stop.
          let (t, at, is) = stopped_at c s i (has_histories c s plausible) stop in
          good.0 i (stops_are_faults (program_of c) (first_memory c.arrays) (map label_of labels) (machine_of (state_of s)) i t run at is))
      | inr none ↦
          let order = good.1.0 in
          let ordered = (orders_are_linearizations Activation (program_of c) (first_memory c.arrays) (map label_of labels) (machine_of (state_of s)) run (queue_of c) order).1 good.1.1 in
          let P : List (List Called) → Type 0 = λ h. IsOrder (queue_of c) h order in
          none (order, subst P (sym run_of.history) ordered)
    ]

-- at the end of its way the trail's labels are an error
pub way_errs : (c : Client) (g : Ground) (origins : List Origin) (n : ℕ) (way : List Origin) (t : Trail) → IsTrailTo c g origins n way t → way ≡ [] → IsErrorTrace c t.labels.items
way_errs c g origins n way t far none =
    let P : List Origin → Type 0 = λ w. LeadBack origins n w far.number in
    let same : n ≡ far.number = subst P none far.way_there in
    let Q : ℕ → Type 0 = λ k. slice_get far.bad.states k ≡ Some t.state in
    let here : far.bad.bad.state ≡ t.state = same_Some far.bad.bad.state t.state (sym far.bad.bad.at ∙ subst Q (sym same) far.at) in
    error_to c t.state t.labels.items far.trail.plausible (subst (IsBad c) here far.bad.bad.bad) far.trail.labels

-- so nothing but want of memory refuses it
pub only_memory : (c : Client) (labels : List Label) (fault : TraceFault) → IsErrorTrace c labels → IsTraceFault c labels fault → fault ≡ Memory
only_memory c labels fault erring is = no_fault c labels fault erring is
