-- Each compact step is a run of its labels, and where no label follows no compact step does.
use Rattle.std.proofs.Common.{◌≡◌, ℕ, List, [], ◌∷◌, ◌++◌, slice_get, slice_set, slice_index, refl, sym, ◌∙◌, ap, subst, Option, Some, None, inl, inr}
use Rattle.std.proofs.lemmas.Option.{none-some, same_Some}
use Rattle.std.specs.Option.{option_map, option_and_then}
use Rattle.tso_model.specs.Labels.{Running, By, Drain, Ended, Kind, Label, Lock, Thread, Machine, Outside, Read, Rule, Run, Step, Unlock, Write, call, core_of, drain, fault, fence, lock, machine_of, thread_view, read, read_locked, reg, return, thread_views, unlock, update, write, write_locked}
use Rattle.tso_model.specs.Programs.{Action, Barrier, CallKind, Cut, Fail, Load, Locked, Program, Ret, Silent, Store}
use Rattle.tso_model.specs.Prologue.{next_call}
use Rattle.tso_model.specs.Relation.{DidDrain, DidRead, DidWrite, Fits, Free, IsOpen, IsShaped, Open, Part, Phase, Section, TookLock, in_phase, inside}
use Rattle.tso_model.specs.Simulation.{EndsAreEnds}
use Rattle.tso_model.specs.StepLabels.{StepsAreRuns, labels_of, labels_of_action, labels_of_call, labels_of_core, labels_of_drain, labels_of_entry, labels_of_exec}
use Rattle.tso_model.specs.States.{Buffer, Called, CompactCore, Resting, Executing, State, Halted, CompactThread, answered, begun_call, calls_in, word_seen}
use Rattle.tso_model.specs.Steps.{Actor, Drains, Exec, Move, action_move, call_move, core_move, drain_move, perform, step, when_empty}
use Rattle.tso_model.proofs.Begin.{next_same}
use Rattle.tso_model.proofs.Held.{thread_in, with_part}
use Rattle.tso_model.proofs.Local.{in_put, length_answered, length_begun, put, put_same, put_with}
use Rattle.tso_model.proofs.Places.{get_set_same, set_set_same}
use Rattle.tso_model.proofs.Threads.{shaped_get, threads_get, threads_put}

none_unless : {A : Type 0} (o : Option A) → ((d : A) → o ≡ Some d → ⊥) → o ≡ None
none_unless None h = refl
none_unless (Some d) h = absurd (h d refl)

module _ {F : Type 0} where
  single : (P : Program F) (c : State F) (i : ℕ) (t : CompactThread F) (k : Kind) (x d : State F)
      → IsShaped c → slice_get c.threads i ≡ Some t → Rule P (machine_of c) i (thread_view (calls_in c.history i) t) k (machine_of x) → Some x ≡ Some d → Run P (machine_of c) (By i k ∷ []) (machine_of d)
  single P c i t k x d shaped at r e =
      (machine_of x, (thread_view (calls_in c.history i) t, threads_get c.history c.threads i (calls_in c.history i) t (shaped_get c i t shaped at) at, r), ap machine_of (sym (same_Some x d e)))

  -- the thread has u in place of t
  onto_with : (P : Program F) (c : State F) (i : ℕ) (t u : CompactThread F) (h : List Called) (k : Kind) (v : Thread F) → v ≡ thread_view h u
      → Rule P (machine_of c) i (thread_view (calls_in c.history i) t) k (update (machine_of c) i v) → Rule P (machine_of c) i (thread_view (calls_in c.history i) t) k (machine_of (put_with c i u h))
  onto_with P c i t u h k v e r =
      let Q : Machine F → Type 0 = λ m. Rule P (machine_of c) i (thread_view (calls_in c.history i) t) k m in
      subst Q (ap (λ w. update (machine_of c) i w) e ∙ in_put c Free i u h (λ x. x)) r

  onto : (P : Program F) (c : State F) (i : ℕ) (t u : CompactThread F) (k : Kind) (v : Thread F) → IsShaped c → slice_get c.threads i ≡ Some t → v ≡ thread_view (calls_in c.history i) u
      → Rule P (machine_of c) i (thread_view (calls_in c.history i) t) k (update (machine_of c) i v) → Rule P (machine_of c) i (thread_view (calls_in c.history i) t) k (machine_of (put c i u))
  onto P c i t u k v shaped at e r =
      let Q : Machine F → Type 0 = λ m. Rule P (machine_of c) i (thread_view (calls_in c.history i) t) k m in
      subst Q (ap machine_of (sym (put_same c i u (calls_in c.history i) (shaped_get c i t shaped at)))) (onto_with P c i t u (calls_in c.history i) k v e r)

  -- the five labels of a locked instruction
  at_holder : (P : Program F) (c : State F) (s : Section F) (part : Part) → IsOpen P c s → slice_get (inside c (with_part s part)).threads s.holder ≡ Some (thread_in c (with_part s part))
  at_holder P c s part o = get_set_same (thread_views c.history c.threads) s.holder (thread_view s.calls s.thread) (thread_in c (with_part s part)) (threads_get c.history c.threads s.holder s.calls s.thread o.begun o.at)

  into_part : (P : Program F) (c : State F) (s : Section F) (m : Machine F) (t v : Thread F) (k : Kind) (part : Part)
      → slice_get m.threads s.holder ≡ Some t → slice_set m.threads s.holder v ≡ (inside c (with_part s part)).threads
      → Rule P m s.holder t k (record { memory = (inside c (with_part s part)).memory; lock = Some s.holder; threads = slice_set m.threads s.holder v })
      → Step P m (By s.holder k) (inside c (with_part s part))
  into_part P c s m t v k part at e r =
      let Q : List (Thread F) → Type 0 = λ ts. Rule P m s.holder t k (record { memory = (inside c (with_part s part)).memory; lock = Some s.holder; threads = ts }) in
      (t, at, subst Q e r)

  pub took_lock : (P : Program F) (c : State F) (s : Section F) → IsOpen P c s → Step P (machine_of c) (By s.holder Lock) (inside c (with_part s TookLock))
  took_lock P c s o =
      into_part P c s (machine_of c) (thread_view s.calls s.thread) _ Lock TookLock (threads_get c.history c.threads s.holder s.calls s.thread o.begun o.at) (rw o.empty refl)
      (lock s.frame s.place s.new s.after (ap core_of o.running) o.locked refl o.empty)

  pub did_read : (P : Program F) (c : State F) (s : Section F) → IsOpen P c s → Step P (inside c (with_part s TookLock)) (By s.holder (Read s.place (slice_index c.memory s.place))) (inside c (with_part s DidRead))
  did_read P c s o =
      into_part P c s (inside c (with_part s TookLock)) (thread_in c (with_part s TookLock)) _ _ DidRead (at_holder P c s TookLock o) (rw set_set_same refl)
      (read_locked s.frame s.place s.new s.after refl o.locked (inr refl))

  pub did_write : (P : Program F) (c : State F) (s : Section F) → IsOpen P c s → Step P (inside c (with_part s DidRead)) (By s.holder (Write s.place (s.new (slice_index c.memory s.place)))) (inside c (with_part s DidWrite))
  did_write P c s o =
      into_part P c s (inside c (with_part s DidRead)) (thread_in c (with_part s DidRead)) _ _ DidWrite (at_holder P c s DidRead o) (rw set_set_same refl)
      (write_locked s.frame s.place s.new s.after (slice_index c.memory s.place) refl o.locked)

  pub did_drain : (P : Program F) (c : State F) (s : Section F) → IsOpen P c s → Step P (inside c (with_part s DidWrite)) (By s.holder (Drain s.place (s.new (slice_index c.memory s.place)))) (inside c (with_part s DidDrain))
  did_drain P c s o =
      into_part P c s (inside c (with_part s DidWrite)) (thread_in c (with_part s DidWrite)) _ _ DidDrain (at_holder P c s DidWrite o) (rw set_set_same refl)
      (drain s.place (s.new (slice_index c.memory s.place)) [] refl (inr refl))

  abbrev locked_end : State F → Section F → State F
  locked_end c s =
      record { memory = slice_set c.memory s.place (s.new (slice_index c.memory s.place)); history = c.history; threads = slice_set c.threads s.holder (record s.thread { core = Executing (s.after (slice_index c.memory s.place)) }) }

  did_unlock : (P : Program F) (c : State F) (s : Section F) → IsOpen P c s → Step P (inside c (with_part s DidDrain)) (By s.holder Unlock) (machine_of (locked_end c s))
  did_unlock P c s o =
      let u : CompactThread F = record s.thread { core = Executing (s.after (slice_index c.memory s.place)) } in
      let v : Thread F = record (thread_in c (with_part s DidDrain)) { core = Running (s.after (slice_index c.memory s.place)) Outside } in
      let Q : List (Thread F) → Type 0 = λ ts. Rule P (inside c (with_part s DidDrain)) s.holder (thread_in c (with_part s DidDrain)) Unlock (record { memory = (locked_end c s).memory; lock = None; threads = ts }) in
      let same : v ≡ thread_view s.calls u = rw o.empty refl in
      let e : slice_set (inside c (with_part s DidDrain)).threads s.holder v ≡ thread_views c.history (slice_set c.threads s.holder u) =
      set_set_same (thread_views c.history c.threads) s.holder _ v ∙ (ap (λ w. slice_set (thread_views c.history c.threads) s.holder w) same ∙ sym (threads_put c.history c.threads s.holder s.calls u o.begun)) in
      (thread_in c (with_part s DidDrain), at_holder P c s DidDrain o, subst Q e (unlock s.frame s.place s.new s.after (slice_index c.memory s.place) refl o.locked refl refl))

  five : (P : Program F) (c : State F) (s : Section F) (d : State F) → IsOpen P c s → locked_end c s ≡ d → Run P (machine_of c) (labels_of_action c.memory s.holder s.thread.buffer (Locked s.place s.new s.after)) (machine_of d)
  five P c s d o e = (
    inside c (with_part s TookLock),
    took_lock P c s o,
    (
      inside c (with_part s DidRead),
      did_read P c s o,
      (
        inside c (with_part s DidWrite),
        did_write P c s o,
        (inside c (with_part s DidDrain), did_drain P c s o, (machine_of (locked_end c s), did_unlock P c s o, ap machine_of (sym e))),
      ),
    ),
  )

  -- the step, from its thread's part on
  abbrev pub do_action : State F → ℕ → CompactThread F → Action F → Option (State F)
  do_action c i t a = option_map (perform c i) (action_move t.buffer a)

  abbrev pub do_call : Program F → State F → ℕ → CompactThread F → Option CallKind → Option (State F)
  do_call P c i t o = option_map (perform c i) (call_move P t.buffer o)

  abbrev pub do_core : Program F → State F → ℕ → CompactThread F → CompactCore F → Option (State F)
  do_core P c i t o = option_map (perform c i) (core_move P (next_call P c i) o t.buffer)

  abbrev pub do_exec : Program F → State F → ℕ → Option (CompactThread F) → Option (State F)
  do_exec P c i o = option_map (perform c i) (option_and_then (λ t. core_move P (next_call P c i) t.core t.buffer) o)

  abbrev pub do_drain : State F → ℕ → CompactThread F → Buffer → Option (State F)
  do_drain c i t b = option_map (perform c i) (drain_move t.core b)

  abbrev pub do_drains : State F → ℕ → Option (CompactThread F) → Option (State F)
  do_drains c i o = option_map (perform c i) (option_and_then (λ t. drain_move t.core t.buffer) o)

  pub when_empty_some : (b : Buffer) (c d : State F) (i : ℕ) (m : Move F) → option_map (perform c i) (when_empty b m) ≡ Some d → (b ≡ []) × (Some (perform c i m) ≡ Some d)
  when_empty_some [] c d i m e = (refl, e)
  when_empty_some (x ∷ b) c d i m e = absurd (none-some d e)

  from_action : (P : Program F) (c : State F) (i : ℕ) (t : CompactThread F) (f : F) (d : State F) → IsShaped c → slice_get c.threads i ≡ Some t → t.core ≡ Executing f
      → (a : Action F) → P.next f ≡ a → do_action c i t a ≡ Some d → Run P (machine_of c) (labels_of_action c.memory i t.buffer a) (machine_of d)
  from_action P c i t f d sh at go (Silent g) next e = let u : CompactThread F = record t { core = Executing g } in
      single P c i t _ (put c i u) d sh at (onto P c i t u _ _ sh at refl (reg f g (ap core_of go) next)) e
  from_action P c i t f d sh at go (Load p k) next e = let u : CompactThread F = record t { core = Executing (k (word_seen t.buffer c.memory p)) } in
      single P c i t _ (put c i u) d sh at (onto P c i t u _ _ sh at refl (read f p k (ap core_of go) next (inl refl))) e
  from_action P c i t f d sh at go (Store p v g) next e = let u : CompactThread F = record t { core = Executing g; buffer = t.buffer ++ (p, v) ∷ [] } in
      single P c i t _ (put c i u) d sh at (onto P c i t u _ _ sh at refl (write f p v g (ap core_of go) next)) e
  from_action P c i t f d sh at go (Barrier g) next e = let u : CompactThread F = record t { core = Executing g } in
      let h = when_empty_some t.buffer c d i _ e in
      single P c i t _ (put c i u) d sh at (onto P c i t u _ _ sh at refl (fence f g (ap core_of go) next h.0)) h.1
  from_action P c i t f d sh at go (Locked p n k) next e =
      let h = when_empty_some t.buffer c d i _ e in
      let s : Section F = record { holder = i; thread = t; calls = calls_in c.history i; frame = f; place = p; new = n; after = k; part = TookLock } in
      five P c s d (record { shaped = sh; begun = shaped_get c i t sh at; at = at; running = go; empty = h.0; locked = next }) (same_Some _ d h.1)
  from_action P c i t f d sh at go (Ret a) next e = let u : CompactThread F = record t { core = Resting } in
      single P c i t _ (put_with c i u (answered a (calls_in c.history i))) d sh at (onto_with P c i t u (answered a (calls_in c.history i)) _ _ (rw (length_answered a (calls_in c.history i)) refl) (return f a (ap core_of go) next)) e
  from_action P c i t f d sh at go (Fail n) next e = let u : CompactThread F = record t { core = Halted } in
      single P c i t _ (put c i u) d sh at (onto P c i t u _ _ sh at refl (fault f n (ap core_of go) next)) e
  from_action P c i t f d sh at go Cut next e = absurd (none-some d e)

  from_call : (P : Program F) (c : State F) (i : ℕ) (t : CompactThread F) (d : State F) → IsShaped c → slice_get c.threads i ≡ Some t → t.core ≡ Resting
      → (o : Option CallKind) → next_call P c i ≡ o → do_call P c i t o ≡ Some d → Run P (machine_of c) (labels_of_call i o) (machine_of d)
  from_call P c i t d sh at idle None found e = absurd (none-some d e)
  from_call P c i t d sh at idle (Some k) found e = let u : CompactThread F = record t { core = Executing (P.start k) } in
      single P c i t _ (put_with c i u (calls_in c.history i ++ begun_call k c.history ∷ [])) d sh at (onto_with P c i t u (calls_in c.history i ++ begun_call k c.history ∷ []) _ _ (rw (length_begun (calls_in c.history i) (begun_call k c.history)) refl) (call k (ap core_of idle) (next_same P c Free i _ sh refl ∙ found))) e

  from_core : (P : Program F) (c : State F) (i : ℕ) (t : CompactThread F) (d : State F) → IsShaped c → slice_get c.threads i ≡ Some t
      → (o : CompactCore F) → t.core ≡ o → do_core P c i t o ≡ Some d → Run P (machine_of c) (labels_of_core P c i t.buffer o) (machine_of d)
  from_core P c i t d sh at Resting is e = from_call P c i t d sh at is (next_call P c i) refl e
  from_core P c i t d sh at (Executing f) is e = from_action P c i t f d sh at is (P.next f) refl e
  from_core P c i t d sh at Halted is e = absurd (none-some d e)

  from_exec : (P : Program F) (c : State F) (i : ℕ) (d : State F) → IsShaped c
      → (o : Option (CompactThread F)) → slice_get c.threads i ≡ o → do_exec P c i o ≡ Some d → Run P (machine_of c) (labels_of_exec P c i o) (machine_of d)
  from_exec P c i d sh None at e = absurd (none-some d e)
  from_exec P c i d sh (Some t) at e = from_core P c i t d sh at t.core refl e

  from_entry : (P : Program F) (c : State F) (i : ℕ) (t : CompactThread F) (d : State F) → IsShaped c → slice_get c.threads i ≡ Some t
      → (b : List (ℕ × ℕ)) → t.buffer ≡ b → do_drain c i t b ≡ Some d → Run P (machine_of c) (labels_of_entry i b) (machine_of d)
  from_entry P c i t d sh at [] is e = absurd (none-some d e)
  from_entry P c i t d sh at (x ∷ rest) is e =
      let u : CompactThread F = record t { buffer = rest } in
      let Q : List (Thread F) → Type 0 = λ ts. Rule P (machine_of c) i (thread_view (calls_in c.history i) t) (Drain x.0 x.1) (record { memory = slice_set c.memory x.0 x.1; lock = None; threads = ts }) in
      single P c i t (Drain x.0 x.1) _ d sh at (subst Q (sym (threads_put c.history c.threads i (calls_in c.history i) u (shaped_get c i t sh at))) (drain x.0 x.1 rest is (inl refl))) e

  from_drains : (P : Program F) (c : State F) (i : ℕ) (d : State F) → IsShaped c
      → (o : Option (CompactThread F)) → slice_get c.threads i ≡ o → do_drains c i o ≡ Some d → Run P (machine_of c) (labels_of_drain i o) (machine_of d)
  from_drains P c i d sh None at e = absurd (none-some d e)
  from_drains P c i d sh (Some t) at e = from_entry P c i t d sh at t.buffer refl e

  pub steps_are_runs : StepsAreRuns F
  steps_are_runs P c (Exec i) d sh e = from_exec P c i d sh (slice_get c.threads i) refl e
  steps_are_runs P c (Drains i) d sh e = from_drains P c i d sh (slice_get c.threads i) refl e

  -- an enabled actor has a label
  some_action : (c : State F) (i : ℕ) (t : CompactThread F) (d : State F) (a : Action F) → do_action c i t a ≡ Some d → labels_of_action c.memory i t.buffer a ≡ [] → ⊥
  some_action c i t d (Silent g) e n = cc
  some_action c i t d (Load p k) e n = cc
  some_action c i t d (Store p v g) e n = cc
  some_action c i t d (Barrier g) e n = cc
  some_action c i t d (Locked p w k) e n = cc
  some_action c i t d (Ret a) e n = cc
  some_action c i t d (Fail w) e n = cc
  some_action c i t d Cut e n = cc

  some_call : (P : Program F) (c : State F) (i : ℕ) (t : CompactThread F) (d : State F) (o : Option CallKind) → do_call P c i t o ≡ Some d → labels_of_call i o ≡ [] → ⊥
  some_call P c i t d None e n = cc
  some_call P c i t d (Some k) e n = cc

  some_core : (P : Program F) (c : State F) (i : ℕ) (t : CompactThread F) (d : State F) (o : CompactCore F) → do_core P c i t o ≡ Some d → labels_of_core P c i t.buffer o ≡ [] → ⊥
  some_core P c i t d Resting e n = some_call P c i t d (next_call P c i) e n
  some_core P c i t d (Executing f) e n = some_action c i t d (P.next f) e n
  some_core P c i t d Halted e n = cc

  some_exec : (P : Program F) (c : State F) (i : ℕ) (d : State F) (o : Option (CompactThread F)) → do_exec P c i o ≡ Some d → labels_of_exec P c i o ≡ [] → ⊥
  some_exec P c i d None e n = cc
  some_exec P c i d (Some t) e n = some_core P c i t d t.core e n

  some_entry : (c : State F) (i : ℕ) (t : CompactThread F) (d : State F) (b : List (ℕ × ℕ)) → do_drain c i t b ≡ Some d → labels_of_entry i b ≡ [] → ⊥
  some_entry c i t d [] e n = cc
  some_entry c i t d (x ∷ rest) e n = cc

  some_drains : (c : State F) (i : ℕ) (d : State F) (o : Option (CompactThread F)) → do_drains c i o ≡ Some d → labels_of_drain i o ≡ [] → ⊥
  some_drains c i d None e n = cc
  some_drains c i d (Some t) e n = some_entry c i t d t.buffer e n

  some_labels : (P : Program F) (c : State F) (a : Actor) (d : State F) → step P c a ≡ Some d → labels_of P c a ≡ [] → ⊥
  some_labels P c (Exec i) d e n = some_exec P c i d (slice_get c.threads i) e n
  some_labels P c (Drains i) d e n = some_drains c i d (slice_get c.threads i) e n

  begins : (P : Program F) (m m' : Machine F) (ls : List Label) → (ls ≡ [] → ⊥) → Run P m ls m' → Ended P m → ⊥
  begins P m m' [] n r ended = n refl
  begins P m m' (l ∷ ls) n r ended = ended l r.0 r.1

  goes_on : (P : Program F) (c : State F) (s : Section F) (part : Part) → IsOpen P c s → Ended P (inside c (with_part s part)) → ⊥
  goes_on P c s TookLock o ended = ended (By s.holder (Read s.place (slice_index c.memory s.place))) (inside c (with_part s DidRead)) (did_read P c s o)
  goes_on P c s DidRead o ended = ended (By s.holder (Write s.place (s.new (slice_index c.memory s.place)))) (inside c (with_part s DidWrite)) (did_write P c s o)
  goes_on P c s DidWrite o ended = ended (By s.holder (Drain s.place (s.new (slice_index c.memory s.place)))) (inside c (with_part s DidDrain)) (did_drain P c s o)
  goes_on P c s DidDrain o ended = ended (By s.holder Unlock) (machine_of (locked_end c s)) (did_unlock P c s o)

  ends : (P : Program F) (c : State F) (phase : Phase F) → Fits P c phase → Ended P (in_phase c phase) → (in_phase c phase ≡ machine_of c) × ((a : Actor) → step P c a ≡ None)
  ends P c Free fits ended =
      (refl, λ a. none_unless (step P c a) (λ d e. begins P (machine_of c) (machine_of d) (labels_of P c a) (some_labels P c a d e) (steps_are_runs P c a d fits e) ended))
  ends P c (Open s) fits ended = absurd (goes_on P c s s.part fits ended)

  pub ends_are_ends : EndsAreEnds F
  ends_are_ends P m c b ended =
      let h = ends P c b.0 b.1 (λ l n x. let Q : Machine F → Type 0 = λ o. Step P o l n in ended l n (subst Q (sym b.2) x)) in
      (b.2 ∙ h.0, h.1)

  pub run_append : (P : Program F) (m mid end : Machine F) (xs ys : List Label) → Run P m xs mid → Run P mid ys end → Run P m (xs ++ ys) end
  run_append P m mid end [] ys r s = subst (λ (x : Machine F). Run P x ys end) r s
  run_append P m mid end (x ∷ xs) ys r s = (r.0, r.1, run_append P r.0 mid end xs ys r.2 s)
