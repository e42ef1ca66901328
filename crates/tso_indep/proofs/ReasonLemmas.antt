-- Reasons that hold are the model's, so choices with them are persistent.
use Rattle.std.proofs.Common.{◌≡◌, ◌∙◌, ℕ, ◌<◌, ◌⊎◌, inl, inr, Bool, true, false, not, ◌||◌, ◌==◌, List, [], ◌∷◌, map, Option, None, Some, slice_get, refl, sym, ap, subst}
use Rattle.std.specs.Prelude.{IsTrue, is_none, is_some}
use Rattle.std.specs.Option.{option_map}
use Rattle.std.proofs.lemmas.Bool.{and_parts, eq-eqb}
use Rattle.std.proofs.lemmas.Option.{option_and_then_some, same_Some, get_or_from_slice_get}
use Rattle.tso_compact.specs.Plans.{kind_by, kind_of_move, procedure_in, thread_in}
use Rattle.tso_foot.proofs.WithinLemmas.{closed_is_ranked, closed_is_the_models, futures_hold, within_is_sound}
use Rattle.tso_foot.specs.Ahead.{future_reads, future_writes}
use Rattle.tso_foot.specs.Laws.{table_view}
use Rattle.tso_foot.specs.Within.{is_within}
use Rattle.tso_foot.specs.declared.table.Table.{Table}
use Rattle.tso_indep.specs.Laws.{TrueReasonsAreTheModels, ValidChoicesArePersistent, reason_view}
use Rattle.tso_indep.specs.Reasons.{has_entry, is_among, is_cut, is_done, is_free, is_held, is_reason, is_reason_if, kind_in, place_of}
use Rattle.tso_indep.specs.declared.reason.Reason.{Reason}
use Rattle.tso_indep.specs.declared.reason.Reason.TheVariants as reasons
use Rattle.tso_machine.specs.Activations.{Activation, activation}
use Rattle.tso_machine.specs.Instructions.{next_action}
use Rattle.tso_machine.specs.Machines.{entry_view}
use Rattle.tso_machine.specs.Programs.{program_of}
use Rattle.tso_machine.specs.Soundness.{rank}
use Rattle.tso_machine.specs.declared.buffer.Entry.{Entry}
use Rattle.tso_model.proofs.Theorems.{valid_is_persistent}
use Rattle.tso_model.specs.Accesses.{Reads, Writes}
use Rattle.tso_model.specs.Prologue.{next_call}
use Rattle.tso_model.specs.Programs.{Action, Barrier, CallKind, Cut, Fail, Load, Locked, Ret, Silent, Store, calls_of}
use Rattle.tso_model.specs.Reasons as model
use Rattle.tso_model.specs.Reduce.{Has}
use Rattle.tso_model.specs.States.{Answered, Began, Buffer, CompactCore, CompactThread, Executing, Halted, Log, Resting, Same, begun_by}
use Rattle.tso_model.specs.Steps as steps
use Rattle.tso_model.specs.Table.{table_future}
use Rattle.tso_prog.specs.declared.client.Client.{Client}
use Rattle.tso_state.proofs.ViewLemmas.{length-threads_view, slice_get-threads_view}
use Rattle.tso_state.specs.ActorExactness.{actor_exact}
use Rattle.tso_state.specs.Actors.{actor_of, thread_of}
use Rattle.tso_state.specs.Views.{core_view, state_of, thread_view}
use Rattle.tso_state.specs.WellFormed.{IsWellFormed, word_count}
use Rattle.tso_state.specs.declared.actor.Actor.{Actor}
use Rattle.tso_state.specs.declared.actor.Actor.TheVariants as actors
use Rattle.tso_state.specs.declared.state.Core.{Core}
use Rattle.tso_state.specs.declared.state.Core.TheVariants.{Idle, Running, Stopped}
use Rattle.tso_state.specs.declared.state.State.{State}
use Rattle.tso_state.specs.declared.state.Thread.{Thread}

-- ---- moves: one that touches memory writes nothing into the history

abbrev IsQuiet : steps.Move Activation → Type 0
IsQuiet m = (m.access ≡ steps.Nothing) ⊎ (m.log ≡ Same)

quiet_when_empty : (b : Buffer) (m n : steps.Move Activation) → m.log ≡ Same → steps.when_empty b m ≡ Some n → IsQuiet n
quiet_when_empty [] m n is e = inr (ap (λ (x : steps.Move Activation). x.log) (sym (same_Some m n e)) ∙ is)
quiet_when_empty (x ∷ rest) m n is e = absurd cc

pub quiet_action : (b : Buffer) (a : Action Activation) (m : steps.Move Activation) → steps.action_move b a ≡ Some m → IsQuiet m
quiet_action b (Silent g) m e = inl (ap (λ (x : steps.Move Activation). x.access) (sym (same_Some _ m e)))
quiet_action b (Load p k) m e = inr (ap (λ (x : steps.Move Activation). x.log) (sym (same_Some _ m e)))
quiet_action b (Store p v g) m e = inl (ap (λ (x : steps.Move Activation). x.access) (sym (same_Some _ m e)))
quiet_action b (Barrier g) m e = quiet_when_empty b _ m refl e
quiet_action b (Locked p new k) m e = quiet_when_empty b _ m refl e
quiet_action b (Ret a) m e = inl (ap (λ (x : steps.Move Activation). x.access) (sym (same_Some _ m e)))
quiet_action b (Fail n) m e = inl (ap (λ (x : steps.Move Activation). x.access) (sym (same_Some _ m e)))
quiet_action b Cut m e = absurd cc

quiet_core : (c : Client) (call : Option CallKind) (core : CompactCore Activation) (b : Buffer) (m : steps.Move Activation) → steps.core_move (program_of c) call core b ≡ Some m → IsQuiet m
quiet_core c None Resting b m e = absurd cc
quiet_core c (Some k) Resting b m e = inl (ap (λ (x : steps.Move Activation). x.access) (sym (same_Some _ m e)))
quiet_core c call (Executing f) b m e = quiet_action b ((program_of c).next f) m e
quiet_core c call Halted b m e = absurd cc

quiet_drain : (core : CompactCore Activation) (b : Buffer) (m : steps.Move Activation) → steps.drain_move core b ≡ Some m → IsQuiet m
quiet_drain core [] m e = absurd cc
quiet_drain core (x ∷ rest) m e = inr (ap (λ (x : steps.Move Activation). x.log) (sym (same_Some _ m e)))

quiet : (c : Client) (s : State) (a : steps.Actor) (m : steps.Move Activation) → steps.move (program_of c) (state_of s) a ≡ Some m → IsQuiet m
quiet c s (steps.Exec i) m e = option_and_then_some _ (slice_get (state_of s).threads i) m e (λ t here is. quiet_core c (next_call (program_of c) (state_of s) i) t.core t.buffer m is)
quiet c s (steps.Drains i) m e = option_and_then_some _ (slice_get (state_of s).threads i) m e (λ t here is. quiet_drain t.core t.buffer m is)

-- ---- chosen actors

among-has : (chosen : List Actor) (a : Actor) → is_among chosen a ≡ true → Has (map actor_of chosen) (actor_of a)
among-has [] a h = absurd cc
among-has (b ∷ rest) a h = or_either _ _ _ (λ e. inl (ap actor_of ((actor_exact b a).0 e))) (λ e. inr (among-has rest a e)) h
  where
    or_either : (x y : Bool) (P : Type 0) → (x ≡ true → P) → (y ≡ true → P) → (x || y) ≡ true → P
    or_either true y P f g e = f refl
    or_either false y P f g e = g e

-- a chosen actor of the model's is the view of a chosen one
has-viewed : (chosen : List Actor) (b : steps.Actor) → Has (map actor_of chosen) b → (a : Actor) × Has chosen a × (actor_of a ≡ b)
has-viewed [] b h = absurd h
has-viewed (a ∷ rest) b (inl e) = (a, inl refl, e)
has-viewed (a ∷ rest) b (inr h) = let (x, there, is) = has-viewed rest b h in (x, inr there, is)

no_move : (o : Option (steps.Move Activation)) → is_none (option_map kind_of_move o) ≡ true → o ≡ None
no_move None h = refl
no_move (Some m) h = absurd cc

held : (c : Client) (s : State) (chosen : List Actor) (a : Actor) → is_held c s chosen a ≡ true
    → Has (map actor_of chosen) (actor_of a) ⊎ (steps.move (program_of c) (state_of s) (actor_of a) ≡ None)
held c s chosen a h = go (is_among chosen a) refl
  where
    go : (x : Bool) → is_among chosen a ≡ x → Has (map actor_of chosen) (actor_of a) ⊎ (steps.move (program_of c) (state_of s) (actor_of a) ≡ None)
    go true e = inl (among-has chosen a e)
    go false e = inr (no_move (steps.move (program_of c) (state_of s) (actor_of a)) (ap (λ x. x || is_none (kind_in c s a)) (sym e) ∙ h))

-- ---- the other thread

-- thread j as the model sees it is the view of the state's
viewed : (s : State) (j : ℕ) (t : CompactThread Activation) → slice_get (state_of s).threads j ≡ Some t → thread_view (procedure_in s j) (thread_in s j) ≡ t
viewed s j t e = go (slice_get s.threads j) refl
  where
    go : (o : Option Thread) → slice_get s.threads j ≡ o → thread_view (procedure_in s j) (thread_in s j) ≡ t
    go None at = let clash : None ≡ Some t = ap (option_map (thread_view (procedure_in s j))) (sym at) ∙ sym (slice_get-threads_view s.history s.threads j) ∙ e in absurd cc
    go (Some th) at =
        let same : Some (thread_view (procedure_in s j) th) ≡ Some t = ap (option_map (thread_view (procedure_in s j))) (sym at) ∙ sym (slice_get-threads_view s.history s.threads j) ∙ e in
        ap (thread_view (procedure_in s j)) (get_or_from_slice_get s.threads j th _ at) ∙ same_Some _ t same

buffered : (b : List Entry) (place : ℕ) → model.InBuffer (map entry_view b) place → has_entry b place ≡ true
buffered [] place h = absurd h
buffered (e ∷ rest) place (inl is) = ap (λ x. x || has_entry rest place) (eq-eqb e.place place is)
buffered (e ∷ rest) place (inr h) = or_true (e.place == place) (buffered rest place h)
  where
    or_true : (x : Bool) {y : Bool} → y ≡ true → (x || y) ≡ true
    or_true true e = refl
    or_true false e = e

free : (b : List Entry) (place q : ℕ) → is_free b (Some place) ≡ true → place ≡ q → model.InBuffer (map entry_view b) q → ⊥
free b place q h is inside =
    let there = buffered b place (subst (λ x. model.InBuffer (map entry_view b) x) (sym is) inside) in
    let clash : false ≡ true = ap not (sym there) ∙ h in
    absurd cc

cut : (a : Action Activation) → is_cut a ≡ true → a ≡ Cut
cut Cut h = refl
cut (Silent g) h = absurd cc
cut (Load p k) h = absurd cc
cut (Store p v g) h = absurd cc
cut (Barrier g) h = absurd cc
cut (Locked p new k) h = absurd cc
cut (Ret a) h = absurd cc
cut (Fail n) h = absurd cc

no_call : (o : Option CallKind) → is_none o ≡ true → o ≡ None
no_call None h = refl
no_call (Some k) h = absurd cc

done : (c : Client) (s : State) (j : ℕ) (core : Core) → is_done c s j core ≡ true
    → model.IsDone (program_of c) (calls_of (program_of c) j) (begun_by (state_of s) j) (core_view (procedure_in s j) core)
done c s j Idle h = no_call _ h
done c s j (Running frame) h = cut (next_action c (activation (procedure_in s j) frame)) h
done c s j Stopped h = record {}

-- ---- reasons, by what the step does with memory and with calls

not_both : (x : Bool) → not x ≡ true → x ≡ true → ⊥
not_both true h e = absurd cc
not_both false h e = absurd cc

abbrev IsReasonFor : Client → Table → State → List Actor → steps.Access → Log → ℕ → Reason → Type 0
IsReasonFor c t s chosen access log j reason = model.Holds (program_of c) (table_future (program_of c) (table_view c t)) (state_of s) (map actor_of chosen) access log j (reason_view reason)

abbrev Stays : steps.Access → Log → Type 0
Stays access log = (access ≡ steps.Nothing) ⊎ (log ≡ Same)

same_log : {access : steps.Access} {log : Log} → (access ≡ steps.Nothing → ⊥) → Stays access log → log ≡ Same
same_log not (inl is) = absurd (not is)
same_log not (inr is) = is

module _ (c : Client) (t : Table) (s : State) (chosen : List Actor) (j : ℕ) (w : IsWellFormed c s) where
  avoids_writes : (place q : ℕ) → not (future_writes c t s j place) ≡ true → place ≡ q → IsTrue ((table_future (program_of c) (table_view c t)).writes (state_of s) j q) → ⊥
  avoids_writes place q h is e = not_both (future_writes c t s j place) h (ap (future_writes c t s j) is ∙ (futures_hold c t s j q w).writes e)

  avoids_reads : (place q : ℕ) → not (future_reads c t s j place) ≡ true → place ≡ q → IsTrue ((table_future (program_of c) (table_view c t)).reads (state_of s) j q) → ⊥
  avoids_reads place q h is e = not_both (future_reads c t s j place) h (ap (future_reads c t s j) is ∙ (futures_hold c t s j q w).reads e)

  own : (access : steps.Access) (log : Log) → is_reason c t s chosen (kind_by access log) j reasons.Own ≡ true → IsReasonFor c t s chosen access log j reasons.Own
  own steps.Nothing Same h = (refl, refl)
  own steps.Nothing (Began k) h = absurd cc
  own steps.Nothing (Answered a) h = absurd cc
  own (steps.Read p) log h = absurd cc
  own (steps.Write p v) log h = absurd cc
  own (steps.Update p f) log h = absurd cc

  far : (access : steps.Access) (log : Log) → Stays access log → is_reason c t s chosen (kind_by access log) j reasons.Far ≡ true → IsReasonFor c t s chosen access log j reasons.Far
  far steps.Nothing Same st h = absurd cc
  far steps.Nothing (Began k) st h = absurd cc
  far steps.Nothing (Answered a) st h = absurd cc
  far (steps.Read p) log st h = (same_log (λ e. cc) st, λ q is. avoids_writes p q h is, λ q is. absurd is, λ q is. absurd is)
  far (steps.Write p v) log st h = let (r, x) = and_parts _ _ h in (same_log (λ e. cc) st, λ q is. absurd is, λ q is. avoids_reads p q r is, λ q is. avoids_writes p q x is)
  far (steps.Update p f) log st h = let (r, x) = and_parts _ _ h in (same_log (λ e. cc) st, λ q is. avoids_writes p q x is, λ q is. avoids_reads p q r is, λ q is. avoids_writes p q x is)

  inside : (access : steps.Access) (log : Log) → is_reason c t s chosen (kind_by access log) j reasons.Inside ≡ true → IsReasonFor c t s chosen access log j reasons.Inside
  inside access log h = go
    where
      go : (b : steps.Actor) → steps.thread_of b ≡ j → Has (map actor_of chosen) b ⊎ (steps.move (program_of c) (state_of s) b ≡ None)
      go (steps.Exec i) is =
          subst (λ n. Has (map actor_of chosen) (steps.Exec n) ⊎ (steps.move (program_of c) (state_of s) (steps.Exec n) ≡ None)) (sym is) (held c s chosen (actors.Exec j) (and_parts _ _ h).0)
      go (steps.Drains i) is =
          subst (λ n. Has (map actor_of chosen) (steps.Drains n) ⊎ (steps.move (program_of c) (state_of s) (steps.Drains n) ≡ None)) (sym is) (held c s chosen (actors.Drain j) (and_parts _ _ h).1)

  abbrev IsElsewhere : steps.Access → Type 0
  IsElsewhere access = (x : CompactThread Activation) (place : ℕ) → slice_get (state_of s).threads j ≡ Some x → model.InBuffer x.buffer place → (Reads access place → ⊥) × (Writes access place → ⊥)

  elsewhere : (access : steps.Access) (log : Log) → is_free (thread_in s j).buffer (place_of (kind_by access log)) ≡ true → IsElsewhere access
  elsewhere access log h x place at held =
      let own = subst (λ (y : CompactThread Activation). model.InBuffer y.buffer place) (sym (viewed s j x at)) held in
      by access h own
    where
      by : (access : steps.Access) → is_free (thread_in s j).buffer (place_of (kind_by access log)) ≡ true → model.InBuffer (map entry_view (thread_in s j).buffer) place → (Reads access place → ⊥) × (Writes access place → ⊥)
      by steps.Nothing h own = (λ e. absurd e, λ e. absurd e)
      by (steps.Read p) h own = (λ e. free (thread_in s j).buffer p place h e own, λ e. absurd e)
      by (steps.Write p v) h own = (λ e. absurd e, λ e. free (thread_in s j).buffer p place h e own)
      by (steps.Update p f) h own = (λ e. free (thread_in s j).buffer p place h e own, λ e. free (thread_in s j).buffer p place h e own)

  in_buffer : (access : steps.Access) (log : Log) → is_reason c t s chosen (kind_by access log) j reasons.Buffer ≡ true → IsReasonFor c t s chosen access log j reasons.Buffer
  in_buffer access log h = let (has, clear) = and_parts _ _ h in (among-has chosen (actors.Exec j) has, elsewhere access log clear)

  returns : (access : steps.Access) (log : Log) → is_reason c t s chosen (kind_by access log) j reasons.Return ≡ true → IsReasonFor c t s chosen access log j reasons.Return
  returns steps.Nothing Same h = absurd cc
  returns steps.Nothing (Began k) h = absurd cc
  returns steps.Nothing (Answered a) h = (refl, (a, refl))
  returns (steps.Read p) log h = absurd cc
  returns (steps.Write p v) log h = absurd cc
  returns (steps.Update p f) log h = absurd cc

  no_return : (access : steps.Access) (log : Log) → is_reason c t s chosen (kind_by access log) j reasons.NoReturn ≡ true → IsReasonFor c t s chosen access log j reasons.NoReturn
  no_return steps.Nothing Same h = absurd cc
  no_return steps.Nothing (Began k) h = (refl, (k, refl), λ x at. subst (λ (y : CompactThread Activation). model.IsDone (program_of c) (calls_of (program_of c) j) (begun_by (state_of s) j) y.core) (viewed s j x at) (done c s j (thread_in s j).core h))
  no_return steps.Nothing (Answered a) h = absurd cc
  no_return (steps.Read p) log h = absurd cc
  no_return (steps.Write p v) log h = absurd cc
  no_return (steps.Update p f) log h = absurd cc

  pub reason_holds : (access : steps.Access) (log : Log) (reason : Reason) → Stays access log → is_reason c t s chosen (kind_by access log) j reason ≡ true → IsReasonFor c t s chosen access log j reason
  reason_holds access log reasons.Own st h = own access log h
  reason_holds access log reasons.Far st h = far access log st h
  reason_holds access log reasons.Inside st h = inside access log h
  reason_holds access log reasons.Buffer st h = in_buffer access log h
  reason_holds access log reasons.Return st h = returns access log h
  reason_holds access log reasons.NoReturn st h = no_return access log h

pub true_reasons_are_the_models : (c : Client) → TrueReasonsAreTheModels c
true_reasons_are_the_models c t s chosen a m j reason w is h =
    reason_holds c t s chosen j w m.access m.log reason (quiet c s (actor_of a) m is)
    (subst (λ o. is_reason_if c t s chosen (option_map kind_of_move o) j reason ≡ true) is h)

-- ---- persistent choices

thread_of-view : (a : Actor) → steps.thread_of (actor_of a) ≡ thread_of a
thread_of-view (actors.Exec i) = refl
thread_of-view (actors.Drain i) = refl

moves : {X : Type 0} (f : steps.Move Activation → X) (o : Option (steps.Move Activation)) → is_some (option_map f o) ≡ true → (m : steps.Move Activation) × (o ≡ Some m)
moves f None h = absurd cc
moves f (Some m) h = (m, refl)

pub valid_choices_are_persistent : (c : Client) → ValidChoicesArePersistent c
valid_choices_are_persistent c t s chosen closed w within valid =
    valid_is_persistent Activation (program_of c) (word_count c) (is_within c t) (rank c) (table_view c t) (closed_is_ranked c t closed) (closed_is_the_models c t closed) (state_of s) (map actor_of chosen)
    (within_is_sound c t s w within) each_valid
  where
    one : (a : Actor) → Has chosen a → model.Valid (program_of c) (table_future (program_of c) (table_view c t)) (state_of s) (map actor_of chosen) (actor_of a)
    one a there =
        let v = valid a there in
        let (m, is) = moves (steps.perform (state_of s) (steps.thread_of (actor_of a))) (steps.move (program_of c) (state_of s) (actor_of a)) v.enabled in (
          m,
          is,
          λ j lt n.
              let (reason, h) = v.reasons j (subst (λ k. j < k) (length-threads_view s.history s.threads) lt) (λ e. n (e ∙ sym (thread_of-view a))) in
              (reason_view reason, true_reasons_are_the_models c t s chosen a m j reason w is h),
        )

    each_valid : (b : steps.Actor) → Has (map actor_of chosen) b → model.Valid (program_of c) (table_future (program_of c) (table_view c t)) (state_of s) (map actor_of chosen) b
    each_valid b there =
        let (a, at, is) = has-viewed chosen b there in
        subst (λ x. model.Valid (program_of c) (table_future (program_of c) (table_view c t)) (state_of s) (map actor_of chosen) x) is (one a at)
