-- A state is well-formed exactly where the model calls what it sees of it well-formed.
use Rattle.std.proofs.Common.{◌≡◌, ◌↔◌, ℕ, zero, suc, ◌<◌, ◌≤◌, Bool, true, false, nat_le, nat_lt, List, [], ◌∷◌, length, map, get_or, slice_get, Option, Some, None, inl, inr, refl, sym, ap, subst, ◌∙◌, arith, length-append}
use Rattle.std.specs.Option.{option_map}
use Rattle.std.proofs.lemmas.Bool.{and_parts, and_from}
use Rattle.std.proofs.lemmas.Bool.Decides.{nat_tests}
use Rattle.std.proofs.lemmas.List.{get_or_past, length-map}
use Rattle.std.proofs.lemmas.Option.{get_or_from_slice_get, none-some, same_Some, slice_get-get_or, slice_get-map, slice_get_past, slice_get_within}
use Rattle.tso_flow.specs.Calls.{as_thread}
use Rattle.tso_flow.specs.declared.location.ProcedureKind.{ProcedureKind}
use Rattle.tso_hist.proofs.Viewed.{returned-view}
use Rattle.tso_hist.specs.declared.call.Call.{Call}
use Rattle.tso_hist.specs.Views.{called_view, history_view}
use Rattle.tso_line.specs.declared.instruction.CallKind.{CallKind}
use Rattle.tso_machine.proofs.CallLists.{calls_last, calls_of_thread, none_past}
use Rattle.tso_machine.specs.Activations.{Activation}
use Rattle.tso_machine.specs.declared.buffer.Entry.{Entry}
use Rattle.tso_machine.specs.Instructions.{instructions_of}
use Rattle.tso_machine.specs.Machines.{entry_view}
use Rattle.tso_machine.specs.Programs.{program_of, prologue_number}
use Rattle.tso_machine.specs.Soundness.{is_sound, is_sound_or_past_end}
use Rattle.tso_model.specs.Programs.{CallKind as ModelKind, calls_of}
use Rattle.tso_model.specs.Prologue.{is_over, is_thread_over, is_resting}
use Rattle.tso_model.specs.States.{Buffer, Called, CompactCore, CompactThread, Executing, Halted, Resting, begun_by, calls_in, returned}
use Rattle.tso_model.proofs.Counts.{all_returned_count}
use Rattle.tso_model.specs.WellFormed as model
use Rattle.tso_model.specs.WellFormed.{AllReturned}
use Rattle.tso_prog.specs.Views.{call_view}
use Rattle.tso_prog.specs.declared.client.Client.{Client}
use Rattle.tso_state.specs.declared.state.Core.{Core}
use Rattle.tso_state.specs.declared.state.Core.TheVariants.{Idle, Running, Stopped}
use Rattle.tso_state.specs.declared.state.State.{State}
use Rattle.tso_state.specs.declared.state.Thread.{Thread}
use Rattle.tso_state.specs.Initial.{idle_thread}
use Rattle.tso_state.specs.Views.{core_view, running_procedure, state_of, thread_view}
use Rattle.tso_state.specs.WellFormed.{HasStarted, IsCallAt, IsClientsCall, IsPrologueOver, IsThreadAt, IsWellFormed, answered_count, calls_by, client_calls, thread_total, word_count}
use Rattle.tso_state.proofs.ClientLemmas.{calls_of-width, kinds-are}
use Rattle.tso_state.proofs.ListLemmas.{call_thread}
use Rattle.tso_state.proofs.ModelFits.{AreFitting, fits_view, option_map_some, same_kind, view_fits, view_within, within_view}
use Rattle.tso_state.proofs.ViewLemmas.{begun_by-state_of, calls_in-history_view, length-threads_view, slice_get-threads_view}

-- ---- of the client

kinds_view : (c : Client) (i : ℕ) → calls_of (program_of c) i ≡ map call_view (client_calls c i)
kinds_view c i = calls_of_thread c.threads c.prologue i ∙ ap (map call_view) (kinds-are c i)

kind_view : (c : Client) (i k : ℕ) → slice_get (calls_of (program_of c) i) k ≡ option_map call_view (slice_get (client_calls c i) k)
kind_view c i k = ap (λ (ks : List ModelKind). slice_get ks k) (kinds_view c i) ∙ slice_get-map call_view (client_calls c i) k

of_prologue : (c : Client) → client_calls c (length c.threads) ≡ c.prologue
of_prologue c = sym (kinds-are c (length c.threads)) ∙ calls_last c.threads c.prologue

prologue_there : (prologue : List CallKind) (n j : ℕ) → prologue_number prologue n ≡ Some j → (0 < length prologue) × (n ≡ j)
prologue_there [] n j e = absurd (none-some j e)
prologue_there (k ∷ ks) n j e = (omega arith, same_Some n j e)

there_prologue : (prologue : List CallKind) (n : ℕ) → 0 < length prologue → prologue_number prologue n ≡ Some n
there_prologue [] n lt = absurd (omega arith)
there_prologue (k ∷ ks) n lt = refl

-- ---- of the state

module _ (c : Client) (s : State) where
  -- a thread that the model sees
  pub record IsSeen (i : ℕ) (t : CompactThread Activation) : Type 0 where
    pub thread : Thread
    pub here : IsThreadAt s i thread
    pub seen : thread_view (running_procedure (calls_by s i)) thread ≡ t

  seen_thread : (i : ℕ) (t : CompactThread Activation) → slice_get (state_of s).threads i ≡ Some t → IsSeen i t
  seen_thread i t at =
      let (u, here, seen) = option_map_some (thread_view (running_procedure (calls_by s i))) (slice_get s.threads i) t (sym (slice_get-threads_view s.history s.threads i) ∙ at) in
      record { thread = u; here = here; seen = seen }

  thread_seen : (i : ℕ) (t : Thread) → IsThreadAt s i t → slice_get (state_of s).threads i ≡ Some (thread_view (running_procedure (calls_by s i)) t)
  thread_seen i t at = slice_get-threads_view s.history s.threads i ∙ ap (option_map (thread_view (running_procedure (calls_by s i)))) at

  -- a call that the model sees
  call_seen : (i k : ℕ) → slice_get (calls_in (history_view s.history) i) k ≡ option_map called_view (slice_get (calls_by s i) k)
  call_seen i k = ap (λ (cs : List Called). slice_get cs k) (calls_in-history_view s.history i) ∙ slice_get-map called_view (calls_by s i) k

  count_seen : (j : ℕ) → returned (calls_in (history_view s.history) j) ≡ answered_count (calls_by s j)
  count_seen j = ap returned (calls_in-history_view s.history j) ∙ sym (returned-view (calls_by s j))

  -- ---- from the list to the model

  module _ (w : IsWellFormed c s) where
    fitting : (i : ℕ) (t : Thread) → IsThreadAt s i t → AreFitting c t.core (calls_by s i)
    fitting i t at = record { earlier = w.earlier i; last = w.last i t at; frame = λ f e. w.frames i t f at e }

    seen_at_most : (i k : ℕ) (call : Call) (j : ℕ) (o : Option ℕ) → IsCallAt s i k call → slice_get call.seen j ≡ o → get_or call.seen j 0 ≤ answered_count (calls_by s j)
    seen_at_most i k call j None at e = let past = get_or_past call.seen j 0 (none_past call.seen j e) in omega (arith, past)
    seen_at_most i k call j (Some n) at e =
        let is = get_or_from_slice_get call.seen j n 0 e in
        let le = (w.calls i k call at).others j n e in
        omega (arith, is, le)

    call_of : (i k : ℕ) (call : Call) → IsCallAt s i k call → model.IsCallOf (program_of c) (history_view s.history) i k (called_view call)
    call_of i k call at =
        let is = w.calls i k call at in
        record {
          kind = kind_view c i k ∙ ap (option_map call_view) is.kind;
          width = w.sizes.seen i k call at ∙ sym (calls_of-width c);
          own = get_or_from_slice_get call.seen i k 0 is.own;
          others = λ j. (let le = seen_at_most i k call j (slice_get call.seen j) at refl in let count = count_seen j in omega (arith, le, count));
        }

    started_from : (i : ℕ) → model.HasStarted (state_of s) i → HasStarted s i
    started_from i (inl lt) = inl (let e = begun_by-state_of s i in omega (arith, lt, e))
    started_from i (inr (t, at, lt)) =
        let u = seen_thread i t at in
        let e : length t.buffer ≡ length u.thread.buffer = ap (λ (x : CompactThread Activation). length x.buffer) (sym u.seen) ∙ length-map u.thread.buffer entry_view in
        inr (u.thread, u.here, omega (arith, lt, e))

    over : (j : ℕ) → length c.threads ≡ j → IsPrologueOver c s → is_thread_over (program_of c) j (begun_by (state_of s) j) (slice_get (state_of s).threads j) ≡ true
    over j same o =
        let at : IsThreadAt s j idle_thread = subst (λ n. IsThreadAt s n idle_thread) same o.thread in
        let begun : begun_by (state_of s) j ≡ length c.prologue = begun_by-state_of s j ∙ subst (λ n. length (calls_by s n) ≡ length c.prologue) same o.begun in
        let none : slice_get (calls_of (program_of c) j) (length c.prologue) ≡ None =
        kind_view c j (length c.prologue) ∙ ap (option_map call_view) (subst (λ n. slice_get (client_calls c n) (length c.prologue) ≡ None) same
        (ap (λ (ks : List CallKind). slice_get ks (length c.prologue)) (of_prologue c) ∙ slice_get_past c.prologue (length c.prologue) (omega arith))) in
        rw (thread_seen j idle_thread at, begun, none) refl

    pub to_model : model.IsWellFormed (program_of c) (word_count c) (is_sound c) (state_of s)
    to_model = record {
      memory = w.sizes.memory;
      threads = length-threads_view s.history s.threads ∙ (w.sizes.threads ∙ sym (calls_of-width c));
      histories = length-map s.history (map called_view) ∙ (w.sizes.history ∙ sym (calls_of-width c));
      buffers = λ i t at. (
          let u = seen_thread i t at in
          subst (λ (x : CompactThread Activation). model.Within (word_count c) x.buffer) u.seen (within_view (word_count c) u.thread.buffer (λ n e here. w.sizes.places i n u.thread e u.here here)));
      fit = λ i t at. (
          let u = seen_thread i t at in
          let fits = fits_view c u.thread.core (calls_by s i) (fitting i u.thread u.here) in
          subst (λ (x : CompactThread Activation). model.CallsFit (is_sound c) x.core (calls_in (history_view s.history) i)) u.seen (rw (calls_in-history_view s.history i) fits));
      calls = λ i k x at. (
          let (call, here, seen) = option_map_some called_view (slice_get (calls_by s i) k) x (sym (call_seen i k) ∙ at) in
          subst (λ y. model.IsCallOf (program_of c) (history_view s.history) i k y) seen (call_of i k call here));
      prologue = λ i j is other started. (
          let (some, same) = prologue_there c.prologue (length c.threads) j is in
          over j same (w.prologue some i (λ e. other (e ∙ same)) (started_from i started)));
    }

-- ---- from the model to the list

over_parts : (b : Bool) (o : Option ModelKind) (buffer : Buffer) → is_over b o buffer ≡ true → (b ≡ true) × (o ≡ None) × (buffer ≡ [])
over_parts false o buffer e = cc
over_parts true (Some k) buffer e = cc
over_parts true None (x ∷ rest) e = cc
over_parts true None [] e = (refl, refl, refl)

resting_idle : (p : ProcedureKind) (core : Core) → is_resting (core_view p core) ≡ true → core ≡ Idle
resting_idle p Idle e = refl
resting_idle p (Running f) e = cc
resting_idle p Stopped e = cc

nothing_buffered : (es : List Entry) → map entry_view es ≡ [] → es ≡ []
nothing_buffered [] e = refl
nothing_buffered (x ∷ es) e = cc

one_more : (prologue : List CallKind) → 0 < length prologue → length (as_thread prologue) ≡ 1
one_more [] lt = absurd (omega arith)
one_more (k ∷ ks) lt = omega arith

prologue_below : (c : Client) → 0 < length c.prologue → length c.threads < thread_total c
prologue_below c some = omega (arith, length-append c.threads (as_thread c.prologue), one_more c.prologue some)

module _ (c : Client) (s : State) (m : model.IsWellFormed (program_of c) (word_count c) (is_sound c) (state_of s)) where
  history_length : length s.history ≡ thread_total c
  history_length = sym (length-map s.history (map called_view)) ∙ (m.histories ∙ calls_of-width c)

  threads_length : length s.threads ≡ thread_total c
  threads_length = sym (length-threads_view s.history s.threads) ∙ (m.threads ∙ calls_of-width c)

  model_call : (i k : ℕ) (call : Call) → IsCallAt s i k call → model.IsCallOf (program_of c) (history_view s.history) i k (called_view call)
  model_call i k call at = m.calls i k (called_view call) (call_seen c s i k ∙ ap (option_map called_view) at)

  seen_length : (i k : ℕ) (call : Call) → IsCallAt s i k call → length call.seen ≡ thread_total c
  seen_length i k call at = (model_call i k call at).width ∙ calls_of-width c

  clients_kind : (i k : ℕ) (call : Call) → IsCallAt s i k call → slice_get (client_calls c i) k ≡ Some call.kind
  clients_kind i k call at =
      let (kind, is, same) = option_map_some call_view (slice_get (client_calls c i) k) (call_view call.kind) (sym (kind_view c i k) ∙ (model_call i k call at).kind) in
      is ∙ ap Some (same_kind kind call.kind same)

  clients_call : (i k : ℕ) (call : Call) → IsCallAt s i k call → IsClientsCall c s i k call
  clients_call i k call at =
      let o = model_call i k call at in
      let lt = call_thread c s i k call at in
      record {
        kind = clients_kind i k call at;
        own = slice_get-get_or call.seen i 0 (let width = seen_length i k call at in omega (arith, lt, width, history_length)) ∙ ap Some o.own;
        others = λ j n e. (
            let is = get_or_from_slice_get call.seen j n 0 e in
            let le = o.others j in
            let count = count_seen c s j in
            omega (arith, is, le, count));
      }

  fitting_at : (i : ℕ) (t : Thread) → IsThreadAt s i t → AreFitting c t.core (calls_by s i)
  fitting_at i t at =
      let fit = m.fit i (thread_view (running_procedure (calls_by s i)) t) (thread_seen c s i t at) in
      view_fits c t.core (calls_by s i) (subst (λ cs. model.CallsFit (is_sound c) (core_view (running_procedure (calls_by s i)) t.core) cs) (calls_in-history_view s.history i) fit)

  thread_there : (i : ℕ) → i < thread_total c → IsThreadAt s i (get_or s.threads i idle_thread)
  thread_there i lt = slice_get-get_or s.threads i idle_thread (omega (arith, lt, threads_length))

  begun_within : (i n : ℕ) (o : Option Call) → length (calls_by s i) ≡ suc n → slice_get (calls_by s i) n ≡ o → suc n ≤ length (client_calls c i)
  begun_within i n None is e = let past = none_past (calls_by s i) n e in absurd (omega (arith, past, is))
  begun_within i n (Some call) is e = let lt = slice_get_within (client_calls c i) n call.kind (clients_kind i n call e) in omega (arith, lt)

  begun_bound : (i n : ℕ) → length (calls_by s i) ≡ n → n ≤ length (client_calls c i)
  begun_bound i zero is = omega arith
  begun_bound i (suc n) is = begun_within i n (slice_get (calls_by s i) n) is refl

  started_to : (i : ℕ) → HasStarted s i → model.HasStarted (state_of s) i
  started_to i (inl lt) = inl (let e = begun_by-state_of s i in omega (arith, lt, e))
  started_to i (inr (t, at, lt)) = inr (thread_view (running_procedure (calls_by s i)) t, thread_seen c s i t at, (let e = length-map t.buffer entry_view in omega (arith, lt, e)))

  is_over_from : (j : ℕ) (t : Thread) → length c.threads ≡ j → IsThreadAt s j t
      → is_thread_over (program_of c) j (begun_by (state_of s) j) (slice_get (state_of s).threads j) ≡ true → IsPrologueOver c s
  is_over_from j t same at over =
      let parts = over_parts (is_resting (core_view (running_procedure (calls_by s j)) t.core)) (slice_get (calls_of (program_of c) j) (begun_by (state_of s) j)) (map entry_view t.buffer)
      (rw (thread_seen c s j t at) at over) in
      let idle = resting_idle (running_procedure (calls_by s j)) t.core parts.0 in
      let empty = nothing_buffered t.buffer parts.2 in
      let kinds : client_calls c j ≡ c.prologue = subst (λ n. client_calls c n ≡ c.prologue) same (of_prologue c) in
      let past : length (calls_of (program_of c) j) ≤ begun_by (state_of s) j = none_past (calls_of (program_of c) j) (begun_by (state_of s) j) parts.1 in
      let as_many : length (calls_of (program_of c) j) ≡ length (client_calls c j) = ap (λ (ks : List ModelKind). length ks) (kinds_view c j) ∙ length-map (client_calls c j) call_view in
      let begun = begun_by-state_of s j in
      let bound = begun_bound j (length (calls_by s j)) refl in
      let count : length (calls_by s j) ≡ length c.prologue = omega (arith, past, as_many, begun, bound, ap (λ (ks : List CallKind). length ks) kinds) in
      let fit = m.fit j (thread_view (running_procedure (calls_by s j)) t) (thread_seen c s j t at) in
      let all : AllReturned (calls_in (history_view s.history) j) = subst (λ k. model.CallsFit (is_sound c) (core_view (running_procedure (calls_by s j)) k) (calls_in (history_view s.history) j)) idle fit in
      let returns = all_returned_count (calls_in (history_view s.history) j) all in
      let answered : answered_count (calls_by s j) ≡ length c.prologue = omega (arith, returns, count_seen c s j, begun, count) in
      record {
        thread = subst (λ n. IsThreadAt s n idle_thread) (sym same) (at ∙ ap Some (λ i. record { core = idle i; buffer = empty i }));
        begun = subst (λ n. length (calls_by s n) ≡ length c.prologue) (sym same) count;
        answered = subst (λ n. answered_count (calls_by s n) ≡ length c.prologue) (sym same) answered;
      }

  pub from_model : IsWellFormed c s
  from_model = record {
    sizes = record {
      memory = m.memory;
      threads = threads_length;
      history = history_length;
      seen = seen_length;
      places = λ i n t e at here. view_within (word_count c) t.buffer (m.buffers i (thread_view (running_procedure (calls_by s i)) t) (thread_seen c s i t at)) n e here;
    };
    calls = clients_call;
    earlier = λ i k call at lt. (
        let below = call_thread c s i k call at in
        (fitting_at i (get_or s.threads i idle_thread) (thread_there i (omega (arith, below, history_length)))).earlier k call at lt);
    last = λ i t at. (fitting_at i t at).last;
    frames = λ i t f at e. (fitting_at i t at).frame f e;
    prologue = λ some i other started. (
        let over = m.prologue i (length c.threads) (there_prologue c.prologue (length c.threads) some) other (started_to i started) in
        is_over_from (length c.threads) (get_or s.threads (length c.threads) idle_thread) refl (thread_there (length c.threads) (prologue_below c some)) over);
  }

pub well_formed_alike : (c : Client) (s : State) → IsWellFormed c s ↔ model.IsWellFormed (program_of c) (word_count c) (is_sound c) (state_of s)
well_formed_alike c s = (to_model c s, from_model c s)

-- ---- frames at an instruction, or just behind the last

lt_le : (a b : ℕ) → nat_lt a b ≡ true → nat_le a b ≡ true
lt_le a b h = grind (arith, nat_tests)

sound_past_end : (c : Client) (k : ModelKind) (a : Activation) → is_sound c k a ≡ true → is_sound_or_past_end c k a ≡ true
sound_past_end c k a h =
    let (runs, rest) = and_parts _ _ h in
    let (position, within) = and_parts _ _ rest in
    and_from _ _ runs (and_from _ _ (lt_le a.frame.pc (length (instructions_of c a.procedure)) position) within)

in_last_more : (f g : ModelKind → Bool) → ((k : ModelKind) → f k ≡ true → g k ≡ true) → (cs : List Called) → model.IsInLast f cs → model.IsInLast g cs
in_last_more f g more [] h = h
in_last_more f g more (x ∷ []) h = (h.0, more x.kind h.1)
in_last_more f g more (x ∷ y ∷ cs) h = (h.0, in_last_more f g more (y ∷ cs) h.1)

fit_more : (c : Client) (core : CompactCore Activation) (cs : List Called) → model.CallsFit (is_sound c) core cs → model.CallsFit (is_sound_or_past_end c) core cs
fit_more c Resting cs h = h
fit_more c (Executing a) cs h = in_last_more (λ k. is_sound c k a) (λ k. is_sound_or_past_end c k a) (λ k. sound_past_end c k a) cs h
fit_more c Halted cs h = h

pub may_be_past_end : (c : Client) (s : State) → IsWellFormed c s → model.IsWellFormed (program_of c) (word_count c) (is_sound_or_past_end c) (state_of s)
may_be_past_end c s w =
    let m = to_model c s w in
    record {
      memory = m.memory;
      threads = m.threads;
      histories = m.histories;
      buffers = m.buffers;
      fit = λ i t at. fit_more c t.core (calls_in (state_of s).history i) (m.fit i t at);
      calls = m.calls;
      prologue = m.prologue;
    }
