-- Runs by moves dominate runs by steps.
use Rattle.std.proofs.Common.{◌≡◌, ◌≢◌, ℕ, zero, suc, ◌<◌, ◌≤◌, List, [], ◌∷◌, ◌++◌, length, map, get_or, set, Option, Some, None, ◌⊎◌, refl, sym, ◌∙◌, ap, subst, arith, inl, inr, true, false}
use Rattle.std.specs.List.{slice_get, AllZip}
use Rattle.std.specs.Option.{option_map, option_and_then}
use Rattle.std.proofs.lemmas.Bool.{cases_eq}
use Rattle.std.proofs.lemmas.List.Elements.{AllZip-push}
use Rattle.std.proofs.lemmas.Option.{none-some, same_Some, slice_get_within}
use Rattle.tso_model.specs.Programs.{Action, CallKind, Cut, Program}
use Rattle.tso_model.specs.Prologue.{next_call}
use Rattle.tso_model.specs.Reduce.{Over, Steps}
use Rattle.tso_model.specs.Relation.{IsShaped}
use Rattle.tso_model.specs.States.{Began, Same, Called, CompactCore, Resting, Executing, Halted, Buffer, CompactThread, State, begun_call, calls_in, returned}
use Rattle.tso_model.specs.Steps.{Actor, Exec, Drains, Move, Write, action_move, call_move, core_move, drain_move, memory_after, move, perform, step, thread_of, word_read}
use Rattle.tso_model.specs.Strictness.{AtLeast, CalledAtLeast, HistoryAtLeast}
use Rattle.tso_model.specs.WellFormed.{IsWellFormed, Within}
use Rattle.tso_model.proofs.Moves.{as_ended, step_is}
use Rattle.tso_model.proofs.Moves as moves
use Rattle.tso_model.proofs.Ordered.{in_same, seen_count}
use Rattle.tso_model.proofs.Persistent.{there}
use Rattle.tso_model.proofs.Places.{get_set_same}
use Rattle.tso_model.proofs.Reduce.{steps_append}
use Rattle.tso_model.proofs.Waits.{begins_after, is_over_at, moving_is_not_over, next_own}
use Rattle.tso_crossing.specs.Late.{IsDominated, LateRunsDominate, SilentRunsDominate}
use Rattle.tso_crossing.specs.Moves.{Extent, core_parts, goes_on, idle_parts, late_move, one_part, opened, opened_call, opening, or_stay, parts, perform_all, readable}
use Rattle.tso_crossing.proofs.Lags.{Spares, false_true, Behind, InStep, Lags, begins_not_over, counts_same, elsewhere, elsewhere_same, in_history, in_step_elsewhere, lags_after, lags_refl, next_lags, onward, onward_same, own_logged, pending, shaped_after}
use Rattle.tso_crossing.proofs.Openings.{Passed, begun_parts, cut_parts, drain_parts, exec_parts, opened_past, passed_drained, passing, passing_move, readable_drained}
use Rattle.tso_crossing.proofs.Unwritten.{IsUnwritten, Reached, none_read, reached_unwritten}

module _ {F : Type 0} where
  -- an instruction begins no call
  pub action_begins_none : (b : Buffer) (act : Action F) (m : Move F) (k : CallKind) → action_move b act ≡ Some m → m.log ≡ Began k → ⊥
  action_begins_none b act m k e l = grind arith

  pub drain_begins_none : (c : CompactCore F) (b : Buffer) (m : Move F) (k : CallKind) → drain_move c b ≡ Some m → m.log ≡ Began k → ⊥
  drain_begins_none c b m k e l = grind arith

module _ {F : Type 0} (p : Program F) (n : Extent) (W : State F → Type 0) (laws : IsUnwritten p n W) where
  -- AFTER A STEP OF m

  goes_holds : (s m : State F) (a : Actor) (mv : Move F) → Lags p n W s m → move p m a ≡ Some mv → W (perform m (thread_of a) mv)
  goes_holds s m a mv h em = laws.stays m (perform m (thread_of a) mv) a h.holds (step_is p m a mv em)

  -- a thread that is not over in s spares what others' openings may read
  spares : (s m : State F) (a : Actor) (mv : Move F) → Lags p n W s m → move p m a ≡ Some mv → is_over_at p s (thread_of a) ≡ false → Spares p n W s (thread_of a) mv
  spares s m a mv h em over j q k ne e o writes =
      laws.unwritten m a mv j q h.holds em ne (λ pro. false_true _ over (begins_after p s j (thread_of a) k e pro (λ x. ne (sym x)))) o writes

  -- BOTH MAKE THE SAME STEP

  same_step : (s m : State F) (a : Actor) (t : CompactThread F) (mv : Move F) → Lags p n W s m → InStep p n W s m (thread_of a) → slice_get m.threads (thread_of a) ≡ Some t →
      move p m a ≡ Some mv → move p s a ≡ Some mv → ((k : CallKind) → mv.log ≡ Began k → ⊥) → Lags p n W (perform s (thread_of a) mv) (perform m (thread_of a) mv)
  same_step s m a t mv h x at em es none =
      let i = thread_of a in
      let at_s : slice_get s.threads i ≡ Some t = x.thread ∙ at in
      let lt = in_history p n W s i t h.shaped at_s in
      let lt' = in_history p n W m i t h.shaped' at in
      let over = moving_is_not_over p s a mv es in
      let same : mv.after (word_read s.memory mv.access) ≡ mv.after (word_read m.memory mv.access) = ap (λ w. mv.after (word_read w mv.access)) h.memory in
      let own : InStep p n W (perform s i mv) (perform m i mv) i = record {
        thread = get_set_same s.threads i t _ at_s ∙ (ap Some same ∙ sym (get_set_same m.threads i t _ at));
        calls = own_logged s.history m.history i mv.log lt lt' none x.calls;
      } in
      lags_after p n W s m (perform s i mv) (perform m i mv) i h (goes_holds s m a mv h em) (ap (λ w. memory_after w mv.access) h.memory)
      (shaped_after p n W s i mv h.shaped) (shaped_after p n W m i mv h.shaped') (onward p n W s i mv lt over (spares s m a mv h em over)) (elsewhere p n W m i mv) (inl own)

  -- A THREAD CATCHES UP

  pub record CaughtUp (s m : State F) (i : ℕ) (s1 : State F) : Type 0 where
    pub lags : Lags p n W s1 m
    pub own : InStep p n W s1 m i
    pub others : (j : ℕ) → i ≢ j → InStep p n W s m j → InStep p n W s1 m j

  catch_up : (s m : State F) (i : ℕ) (b : Behind p n W s m i) → Lags p n W s m → CaughtUp s m i (perform s i (opening b.buffer b.kind b.frame))
  catch_up s m i b h =
      let mv : Move F = opening b.buffer b.kind b.frame in
      let s1 : State F = perform s i mv in
      let lt = in_history p n W s i _ h.shaped b.idle in
      let over = begins_not_over p s i b.buffer b.kind b.idle b.may in
      let stricter : CalledAtLeast (begun_call b.kind s.history) (pending b.kind b.seen) = record { kind = refl; answer = refl; seen = λ u. subst (λ k. get_or b.seen u 0 ≤ k) (sym (seen_count s.history u)) (b.saw u) } in
      let own : InStep p n W s1 m i = record {
        thread = get_set_same s.threads i _ _ b.idle ∙ sym b.begun;
        calls = rw (in_same s.history i (calls_in s.history i ++ begun_call b.kind s.history ∷ []) lt, b.last)
            (AllZip-push CalledAtLeast (calls_in s.history i) b.earlier (begun_call b.kind s.history) (pending b.kind b.seen) b.calls stricter);
      } in
      record {
        lags = lags_after p n W s m s1 m i h h.holds h.memory (shaped_after p n W s i mv h.shaped) h.shaped' (onward p n W s i mv lt over (λ j q k ne e o w. w)) (elsewhere_same p n W m i) (inl own);
        own = own;
        others = λ j ne x. in_step_elsewhere p n W s m s1 m i j (elsewhere p n W s i mv) (elsewhere_same p n W m i) ne x;
      }

  -- A STEP OF THE RUN BY STEPS

  -- moves follow it
  pub record Follows (s m' : State F) : Type 0 where
    pub moves : List Actor
    pub state : State F
    pub run : Steps (late_move p n) s moves state
    pub lags : Lags p n W state m'

  stays_put : (s m' : State F) → Lags p n W s m' → Follows s m'
  stays_put s m' h = record { moves = []; state = s; run = refl; lags = h }

  abbrev moves_once : (s s' m' : State F) (a : Actor) → late_move p n s a ≡ Some s' → Lags p n W s' m' → Follows s m'
  moves_once s s' m' a e h = record { moves = a ∷ []; state = s'; run = (s', e, refl); lags = h }

  late_of : (s : State F) (a : Actor) (ms : List (Move F)) → parts p n s a ≡ Some ms → late_move p n s a ≡ Some (perform_all s (thread_of a) ms)
  late_of s a ms e = ap (option_map (perform_all s (thread_of a))) e

  -- a call begins: in s it has not
  call_begins : (s m : State F) (i : ℕ) (b : Buffer) (k : CallKind) → Lags p n W s m → InStep p n W s m i → slice_get m.threads i ≡ Some (record { core = Resting; buffer = b }) → next_call p m i ≡ Some k →
      Lags p n W s (perform m i (opening b k (p.start k)))
  call_begins s m i b k h x at call =
      let mv : Move F = opening b k (p.start k) in
      let at_s = x.thread ∙ at in
      let lt' = in_history p n W m i _ h.shaped' at in
      let behind : Behind p n W s (perform m i mv) i = record {
        buffer = b;
        kind = k;
        frame = p.start k;
        passed = 0;
        left = n.most;
        seen = map returned m.history;
        earlier = calls_in m.history i;
        idle = at_s;
        begun = get_set_same m.threads i _ _ at;
        may = next_lags p n W s m i k h x call;
        counts = omega arith;
        leads = refl;
        calls = x.calls;
        last = in_same m.history i (calls_in m.history i ++ begun_call k m.history ∷ []) lt';
        saw = λ u. (let a = seen_count m.history u in let c = counts_same p n W s m u h in omega (arith, a, c));
      } in
      let moves_there : move p m (Exec i) ≡ Some mv = rw (at, call) refl in
      lags_after p n W s m s (perform m i mv) i h (goes_holds s m (Exec i) mv h moves_there) h.memory h.shaped (shaped_after p n W m i mv h.shaped') (onward_same p n W s i) (elsewhere p n W m i mv) (inr behind)

  -- it stays in its opening
  goes_further : (s m : State F) (i : ℕ) (b : Behind p n W s m i) (left : ℕ) (g : F) → Lags p n W s m → W (perform m i (passing g b.buffer)) → b.left ≡ suc left → goes_on (readable (n.own i) b.buffer s.memory) b.buffer (p.next b.frame) ≡ Some g → Lags p n W s (perform m i (passing g b.buffer))
  goes_further s m i b left g h w more on =
      let mv : Move F = passing g b.buffer in
      let behind : Behind p n W s (perform m i mv) i = record {
        buffer = b.buffer;
        kind = b.kind;
        frame = g;
        passed = suc b.passed;
        left = left;
        seen = b.seen;
        earlier = b.earlier;
        idle = b.idle;
        begun = get_set_same m.threads i _ _ b.begun;
        may = b.may;
        counts = (let c = b.counts in omega (arith, c, more));
        leads = (b.frame, b.leads, on);
        calls = b.calls;
        last = b.last;
        saw = b.saw;
      } in
      lags_after p n W s m s (perform m i mv) i h w h.memory h.shaped (shaped_after p n W m i mv h.shaped') (onward_same p n W s i) (elsewhere p n W m i mv) (inr behind)

  -- an entry of its buffer is written
  behind_drains : (s m : State F) (i : ℕ) (b : Behind p n W s m i) (e : ℕ × ℕ) (rest : Buffer) → Lags p n W s m → b.buffer ≡ e ∷ rest →
      Lags p n W (perform s i (record { access = Write e.0 e.1; after = λ w. record { core = Resting; buffer = rest }; log = Same })) (perform m i (record { access = Write e.0 e.1; after = λ w. record { core = Executing b.frame; buffer = rest }; log = Same }))
  behind_drains s m i b e rest h is =
      let mv : Move F = record { access = Write e.0 e.1; after = λ w. record { core = Resting; buffer = rest }; log = Same } in
      let mv' : Move F = record { access = Write e.0 e.1; after = λ w. record { core = Executing b.frame; buffer = rest }; log = Same } in
      let lt = in_history p n W s i _ h.shaped b.idle in
      let over = begins_not_over p s i b.buffer b.kind b.idle b.may in
      let moves_there : move p m (Drains i) ≡ Some mv' = (let at = b.begun in rw (at, is) refl) in
      let inside : (q : ℕ) → n.own i q ≡ true → e.0 < length s.memory = λ q o. subst (λ w. e.0 < length w) (sym h.memory) (subst (Within (length m.memory)) is (laws.in_range m i q _ h.holds o b.begun)).0 in
      let there1 : Passed p (readable (n.own i) (e ∷ rest) s.memory) (e ∷ rest) b.passed (p.start b.kind) b.frame = subst (λ y. Passed p (readable (n.own i) y s.memory) y b.passed (p.start b.kind) b.frame) is b.leads in
      let behind : Behind p n W (perform s i mv) (perform m i mv') i = record {
        buffer = rest;
        kind = b.kind;
        frame = b.frame;
        passed = b.passed;
        left = b.left;
        seen = b.seen;
        earlier = b.earlier;
        idle = get_set_same s.threads i _ _ b.idle;
        begun = get_set_same m.threads i _ _ b.begun;
        may = next_own p s i mv refl ∙ b.may;
        counts = b.counts;
        leads = subst (λ r. Passed p r rest b.passed (p.start b.kind) b.frame) (readable_drained (n.own i) e rest s.memory inside) (passed_drained p (readable (n.own i) (e ∷ rest) s.memory) e rest b.passed (p.start b.kind) b.frame there1);
        calls = b.calls;
        last = b.last;
        saw = b.saw;
      } in
      lags_after p n W s m (perform s i mv) (perform m i mv') i h (goes_holds s m (Drains i) mv' h moves_there) (ap (λ w. set w e.0 e.1) h.memory) (shaped_after p n W s i mv h.shaped) (shaped_after p n W m i mv' h.shaped') (onward p n W s i mv lt over (spares s m (Drains i) mv' h moves_there over)) (elsewhere p n W m i mv') (inr behind)

  drain_in_step : (s m : State F) (i : ℕ) (t : CompactThread F) (mv : Move F) → Lags p n W s m → InStep p n W s m i → slice_get m.threads i ≡ Some t → move p m (Drains i) ≡ Some mv → Follows s (perform m i mv)
  drain_in_step s m i t mv h x at em =
      let at_s : slice_get s.threads i ≡ Some t = x.thread ∙ at in
      let own : drain_move t.core t.buffer ≡ Some mv = rw at at em in
      let es : move p s (Drains i) ≡ Some mv = rw at_s own in
      moves_once s (perform s i mv) (perform m i mv) (Drains i) (late_of s (Drains i) (one_part mv) (drain_parts p n s i t mv at_s es))
      (same_step s m (Drains i) t mv h x at em es (λ k l. drain_begins_none t.core t.buffer mv k own l))

  drain_behind : (s m : State F) (i : ℕ) (mv : Move F) (b : Behind p n W s m i) → Lags p n W s m → move p m (Drains i) ≡ Some mv → Follows s (perform m i mv)
  drain_behind s m i mv b h em = go b.buffer refl (rw b.begun at em)
    where
      go : (y : Buffer) → b.buffer ≡ y → drain_move (Executing b.frame) b.buffer ≡ Some mv → Follows s (perform m i mv)
      go [] is e = absurd (none-some mv (sym (ap (drain_move (Executing b.frame)) is) ∙ e))
      go (x ∷ rest) is e =
          let mine : Move F = record { access = Write x.0 x.1; after = λ w. record { core = Resting; buffer = rest }; log = Same } in
          let es : move p s (Drains i) ≡ Some mine = rw (b.idle, is) refl in
          let same = same_Some _ mv (sym (ap (drain_move (Executing b.frame)) is) ∙ e) in
          subst (λ y. Follows s (perform m i y)) same
          (moves_once s (perform s i mine) _ (Drains i) (late_of s (Drains i) (one_part mine) (drain_parts p n s i _ mine b.idle es)) (behind_drains s m i b x rest h is))

  call_in_step : (s m : State F) (i : ℕ) (b : Buffer) (mv : Move F) (o : Option CallKind) → Lags p n W s m → InStep p n W s m i → slice_get m.threads i ≡ Some (record { core = Resting; buffer = b }) → next_call p m i ≡ o →
      call_move p b o ≡ Some mv → Follows s (perform m i mv)
  call_in_step s m i b mv None h x at call e = absurd (none-some mv e)
  call_in_step s m i b mv (Some k) h x at call e = subst (λ y. Follows s (perform m i y)) (same_Some _ mv e) (stays_put s _ (call_begins s m i b k h x at call))

  exec_in_step : (s m : State F) (i : ℕ) (c : CompactCore F) (b : Buffer) (mv : Move F) → Lags p n W s m → InStep p n W s m i → slice_get m.threads i ≡ Some (record { core = c; buffer = b }) → move p m (Exec i) ≡ Some mv →
      core_move p (next_call p m i) c b ≡ Some mv → Follows s (perform m i mv)
  exec_in_step s m i Resting b mv h x at em own = call_in_step s m i b mv (next_call p m i) h x at refl own
  exec_in_step s m i (Executing f) b mv h x at em own =
      let at_s : slice_get s.threads i ≡ Some (record { core = Executing f; buffer = b }) = x.thread ∙ at in
      let es : move p s (Exec i) ≡ Some mv = rw at_s own in
      moves_once s (perform s i mv) (perform m i mv) (Exec i) (late_of s (Exec i) (one_part mv) (exec_parts p n s i f b mv at_s own))
      (same_step s m (Exec i) _ mv h x at em es (λ k l. action_begins_none b (p.next f) mv k own l))
  exec_in_step s m i Halted b mv h x at em own = absurd (none-some mv own)

  -- where its opening ends
  abbrev reads : State F → State F → (i : ℕ) → Buffer → ℕ → Option ℕ
  reads s m i b = readable (n.own i) b s.memory

  ends_at : (s m : State F) (i : ℕ) (b : Behind p n W s m i) → opened p (reads s m i b.buffer) b.left b.buffer b.frame ≡ b.frame → opened_call p n i s.memory b.buffer b.kind ≡ b.frame
  ends_at s m i b e = opened_past p (reads s m i b.buffer) b.buffer b.passed b.left n.most (p.start b.kind) b.frame b.leads b.counts ∙ e

  leaves : (s m : State F) (i : ℕ) (b : Behind p n W s m i) (mv : Move F) → Lags p n W s m → opened p (reads s m i b.buffer) b.left b.buffer b.frame ≡ b.frame → move p m (Exec i) ≡ Some mv → action_move b.buffer (p.next b.frame) ≡ Some mv → Follows s (perform m i mv)
  leaves s m i b mv h e em own =
      let first : Move F = opening b.buffer b.kind b.frame in
      let c = catch_up s m i b h in
      let at_s = c.own.thread ∙ b.begun in
      let es : move p (perform s i first) (Exec i) ≡ Some mv = rw at_s own in
      moves_once s (perform (perform s i first) i mv) (perform m i mv) (Exec i)
      (late_of s (Exec i) (first ∷ mv ∷ []) (begun_parts p n s i b.buffer b.kind b.frame mv b.idle b.may (ends_at s m i b e) own))
      (same_step (perform s i first) m (Exec i) _ mv c.lags c.own b.begun em es (λ k l. action_begins_none b.buffer (p.next b.frame) mv k own l))

  exec_behind : (s m : State F) (i : ℕ) (mv : Move F) (b : Behind p n W s m i) → Lags p n W s m → move p m (Exec i) ≡ Some mv → Follows s (perform m i mv)
  exec_behind s m i mv b h em = go (goes_on (reads s m i b.buffer) b.buffer (p.next b.frame)) b.left refl refl
    where
      own : action_move b.buffer (p.next b.frame) ≡ Some mv
      own = rw b.begun at em

      go : (o : Option F) (l : ℕ) → goes_on (reads s m i b.buffer) b.buffer (p.next b.frame) ≡ o → b.left ≡ l → Follows s (perform m i mv)
      go o zero on left = leaves s m i b mv h (ap (λ l. opened p (reads s m i b.buffer) l b.buffer b.frame) left) em own
      go None (suc l) on left = leaves s m i b mv h (ap (λ x. opened p (reads s m i b.buffer) x b.buffer b.frame) left ∙ ap (or_stay (opened p (reads s m i b.buffer) l b.buffer) b.frame) on) em own
      go (Some g) (suc l) on left =
          let on' : goes_on (readable (n.own i) b.buffer m.memory) b.buffer (p.next b.frame) ≡ Some g = subst (λ w. goes_on (readable (n.own i) b.buffer w) b.buffer (p.next b.frame) ≡ Some g) h.memory on in
          let (x, ex, alike) = passing_move (n.own i) b.buffer m i (p.next b.frame) g on' in
          let same : perform m i mv ≡ perform m i (passing g b.buffer) = ap (perform m i) (same_Some mv x (sym own ∙ ex)) ∙ alike in
          let w : W (perform m i (passing g b.buffer)) = subst W same (goes_holds s m (Exec i) mv h em) in
          subst (λ y. Follows s y) (sym same) (stays_put s _ (goes_further s m i b l g h w left on))

  -- moves follow a step
  by_actor : (s m : State F) (a : Actor) (t : CompactThread F) (mv : Move F) → Lags p n W s m → slice_get m.threads (thread_of a) ≡ Some t → move p m a ≡ Some mv → InStep p n W s m (thread_of a) ⊎ Behind p n W s m (thread_of a) → Follows s (perform m (thread_of a) mv)
  by_actor s m (Exec i) t mv h at em (inl x) = exec_in_step s m i t.core t.buffer mv h x at em (rw at at em)
  by_actor s m (Exec i) t mv h at em (inr b) = exec_behind s m i mv b h em
  by_actor s m (Drains i) t mv h at em (inl x) = drain_in_step s m i t mv h x at em
  by_actor s m (Drains i) t mv h at em (inr b) = drain_behind s m i mv b h em

  follow_one : (s m m' : State F) (a : Actor) → Lags p n W s m → step p m a ≡ Some m' → Follows s m'
  follow_one s m m' a h e =
      let (mv, em, is) = moves.move_of p m m' a e in
      let (t, at) = there p m a mv em in
      subst (λ x. Follows s x) (sym is) (by_actor s m a t mv h at em (h.each (thread_of a)))

  abbrev join : (s t : State F) (x : Follows s t) (u : State F) → Follows x.state u → Follows s u
  join s t x u y = record { moves = x.moves ++ y.moves; state = y.state; run = steps_append (late_move p n) x.moves y.moves s x.state y.state x.run y.run; lags = y.lags }

  -- and a run of steps
  pub follow : (steps : List Actor) (s m t : State F) → Lags p n W s m → Steps (step p) m steps t → Follows s t
  follow [] s m t h r = stays_put s t (subst (λ x. Lags p n W s x) r h)
  follow (a ∷ rest) s m t h (m', e, r) =
      let x = follow_one s m m' a h e in
      join s m' x t (follow rest x.state m' t x.lags r)

  -- AT AN END

  empty_of : (c : CompactCore F) (b : Buffer) → drain_move c b ≡ None → b ≡ []
  empty_of c [] e = refl
  empty_of c (x ∷ b) e = absurd (none-some _ (sym e))

  stuck_is_cut : (act : Action F) → action_move [] act ≡ None → act ≡ Cut
  stuck_is_cut act e = grind arith

  pub record CatchesUp (s t : State F) (k : ℕ) : Type 0 where
    pub follows : Follows s t
    pub in_step : (i : ℕ) → i < k → InStep p n W follows.state t i

  -- a thread that lags at an end is cut
  lags_cut : (s t : State F) (i : ℕ) (b : Behind p n W s t i) → Over (step p) t → p.next b.frame ≡ Cut
  lags_cut s t i b z =
      let none : drain_move (Executing b.frame) b.buffer ≡ None = rw b.begun at (moves.no_move p t (Drains i) (z (Drains i))) in
      let empty : b.buffer ≡ [] = empty_of (Executing b.frame) b.buffer none in
      let stuck : action_move b.buffer (p.next b.frame) ≡ None = rw b.begun at (moves.no_move p t (Exec i) (z (Exec i))) in
      stuck_is_cut (p.next b.frame) (subst (λ y. action_move y (p.next b.frame) ≡ None) empty stuck)

  at_cut : (r : ℕ → Option ℕ) (l : ℕ) (b : Buffer) (f : F) → p.next f ≡ Cut → opened p r l b f ≡ f
  at_cut r zero b f e = refl
  at_cut r (suc l) b f e = ap (λ act. or_stay (opened p r l b) f (goes_on r b act)) e

  below_or_at : (i k : ℕ) → i < suc k → i ≢ k → i < k
  below_or_at i k lt ne = omega (arith, lt, ne)

  one_more : (s t : State F) (k : ℕ) (x : CatchesUp s t k) → Over (step p) t → InStep p n W x.follows.state t k ⊎ Behind p n W x.follows.state t k → CatchesUp s t (suc k)
  one_more s t k x z (inl own) = record {
    follows = x.follows;
    in_step = λ i lt. elim (cases_eq i k) [ inl same ↦ subst (λ j. InStep p n W x.follows.state t j) (sym same) own | inr other ↦ x.in_step i (below_or_at i k lt other) ];
  }
  one_more s t k x z (inr b) =
      let s1 = x.follows.state in
      let cut = lags_cut s1 t k b z in
      let c = catch_up s1 t k b x.follows.lags in
      let first : Move F = opening b.buffer b.kind b.frame in
      let once : Follows s1 t = moves_once s1 (perform s1 k first) t (Exec k) (late_of s1 (Exec k) (one_part first) (cut_parts p n s1 k b.buffer b.kind b.frame b.idle b.may (ends_at s1 t k b (at_cut (reads s1 t k b.buffer) b.left b.buffer b.frame cut)) cut)) c.lags in
      record {
        follows = join s t x.follows t once;
        in_step = λ i lt. elim (cases_eq i k) [ inl same ↦ subst (λ j. InStep p n W (perform s1 k first) t j) (sym same) c.own | inr other ↦ c.others i (λ e. other (sym e)) (x.in_step i (below_or_at i k lt other)) ];
      }

  catch_all : (s t : State F) → Follows s t → Over (step p) t → (k : ℕ) → CatchesUp s t k
  catch_all s t x z zero = record { follows = x; in_step = λ i lt. absurd (omega (arith, lt)) }
  catch_all s t x z (suc k) = let y = catch_all s t x z k in one_more s t k y z (y.follows.lags.each k)

-- LISTS THAT ARE ALIKE AT EACH PLACE

same_list : {A : Type 0} (xs ys : List A) → ((i : ℕ) → slice_get xs i ≡ slice_get ys i) → xs ≡ ys
same_list [] [] h = refl
same_list [] (y ∷ ys) h = absurd (none-some y (h 0))
same_list (x ∷ xs) [] h = absurd (none-some x (sym (h 0)))
same_list (x ∷ xs) (y ∷ ys) h = let a = same_Some x y (h 0) in let b = same_list xs ys (λ i. h (suc i)) in cc

same_history : (xs ys : List (List Called)) → length xs ≡ length ys → ((i : ℕ) → AllZip CalledAtLeast (calls_in xs i) (calls_in ys i)) → HistoryAtLeast xs ys
same_history [] [] e h = tt
same_history [] (y ∷ ys) e h = absurd (omega (arith, e))
same_history (x ∷ xs) [] e h = absurd (omega (arith, e))
same_history (x ∷ xs) (y ∷ ys) e h = (h 0, same_history xs ys (omega (arith, e)) (λ i. h (suc i)))

module _ {F : Type 0} (p : Program F) (n : Extent) (W : State F → Type 0) where
  all_in_step : (s t : State F) → Lags p n W s t → ((i : ℕ) → i < length t.threads → InStep p n W s t i) → (i : ℕ) → InStep p n W s t i
  all_in_step s t h below i = elim (h.each i) [ inl x ↦ x | inr b ↦ below i (slice_get_within t.threads i _ b.begun) ]

  none_behind : (s t : State F) → Lags p n W s t → ((i : ℕ) → InStep p n W s t i) → AtLeast s t
  none_behind s t h all =
      let threads : s.threads ≡ t.threads = same_list s.threads t.threads (λ i. (all i).thread) in
      let long : length s.history ≡ length t.history = h.shaped ∙ (ap length threads ∙ sym h.shaped') in
      record { memory = h.memory; threads = threads; history = same_history s.history t.history long (λ i. (all i).calls) }

module _ {F : Type 0} (p : Program F) (n : Extent) where
  -- NO MOVE WHERE THERE IS NO STEP

  no_idle_parts : (i : ℕ) (memory : List ℕ) (b : Buffer) (o : Option CallKind) → call_move p b o ≡ None → idle_parts p n i memory b o ≡ None
  no_idle_parts i memory b None e = refl
  no_idle_parts i memory b (Some k) e = absurd (none-some _ (sym e))

  no_core_parts : (i : ℕ) (memory : List ℕ) (c : CompactCore F) (b : Buffer) (o : Option CallKind) → core_move p o c b ≡ None → core_parts p n i memory o c b ≡ None
  no_core_parts i memory Resting b o e = no_idle_parts i memory b o e
  no_core_parts i memory (Executing f) b o e = ap (option_map one_part) e
  no_core_parts i memory Halted b o e = refl

  pub no_parts : (s : State F) (a : Actor) → move p s a ≡ None → parts p n s a ≡ None
  no_parts s (Exec i) e = go (slice_get s.threads i) e
    where
      go : (o : Option (CompactThread F)) → option_and_then (λ t. core_move p (next_call p s i) t.core t.buffer) o ≡ None → option_and_then (λ t. core_parts p n i s.memory (next_call p s i) t.core t.buffer) o ≡ None
      go None e = refl
      go (Some t) e = no_core_parts i s.memory t.core t.buffer (next_call p s i) e
  no_parts s (Drains i) e = go (slice_get s.threads i) e
    where
      go : (o : Option (CompactThread F)) → option_and_then (λ t. drain_move t.core t.buffer) o ≡ None → option_and_then (λ t. option_map one_part (drain_move t.core t.buffer)) o ≡ None
      go None e = refl
      go (Some t) e = ap (option_map one_part) e

  pub over_late : (s : State F) → Over (step p) s → Over (late_move p n) s
  over_late s z a = ap (option_map (perform_all s (thread_of a))) (no_parts s a (moves.no_move p s a (z a)))

-- where no other thread writes what openings may read
pub dominated : {F : Type 0} (p : Program F) (n : Extent) (W : State F → Type 0) → IsUnwritten p n W → (s t : State F) (steps : List Actor) → W s → IsShaped s → Steps (step p) s steps t → Over (step p) t → IsDominated p n s t
dominated p n W laws s t steps w shaped run z =
    let x = catch_all p n W laws s t (follow p n W laws steps s s t (lags_refl p n W s w shaped) run) z (length t.threads) in
    let u = x.follows.state in
    let stricter : AtLeast u t = none_behind p n W u t x.follows.lags (all_in_step p n W u t x.follows.lags x.in_step) in
    record {
      moves = x.follows.moves;
      end = u;
      run = x.follows.run;
      over = over_late p n u (λ a. as_ended p u t a stricter (z a));
      stricter = stricter;
    }

pub late_runs_dominate : (F : Type 0) → LateRunsDominate F
late_runs_dominate F p n size sound rank r s t steps w own run z =
    dominated p n (λ x. IsWellFormed p size sound x × Reached p n s x) (reached_unwritten p n size sound rank r s own) s t steps (w, ([], refl)) (w.histories ∙ sym w.threads) run z

pub silent_runs_dominate : (F : Type 0) → SilentRunsDominate F
silent_runs_dominate F p n none s t steps shaped run z = dominated p n (λ x. Unit {0}) (none_read p n none) s t steps tt shaped run z
