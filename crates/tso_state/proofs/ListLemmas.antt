-- A state is well-formed exactly where the tests that the code makes, thread by thread, hold.
use Rattle.std.proofs.Common.{◌≡◌, ℕ, zero, suc, ◌+◌, ◌-◌, ◌<◌, List, [], ◌∷◌, length, take, get_or, slice_get, Option, Some, None, inl, inr, refl, sym, subst, ◌∙◌, arith}
use Rattle.std.proofs.lemmas.List.{get_or-take, length-take}
use Rattle.std.proofs.lemmas.Option.{get_or_from_slice_get, same_Some, slice_get-get_or, slice_get_within}
use Rattle.tso_flow.specs.Calls.{calls_of_client}
use Rattle.tso_flow.specs.declared.location.ProcedureKind.{ProcedureKind}
use Rattle.tso_hist.specs.declared.call.Call.{Call}
use Rattle.tso_machine.proofs.CallLists.{none_past}
use Rattle.tso_machine.specs.declared.frame.Frame.{Frame}
use Rattle.tso_prog.specs.declared.client.Client.{Client}
use Rattle.tso_state.specs.declared.state.Core.{Core}
use Rattle.tso_state.specs.declared.state.Core.TheVariants.{Idle, Running, Stopped}
use Rattle.tso_state.specs.declared.state.State.{State}
use Rattle.tso_state.specs.declared.state.Thread.{Thread}
use Rattle.tso_state.specs.Fitting.{FitsAt, FrameFits, HasLengths, HistoryFits, IsNumbered, ListsFit, PartsFit, PrologueFits, SeenFits, ThreadFits, ThreadsFit}
use Rattle.tso_state.specs.Views.{running_procedure}
use Rattle.tso_state.specs.WellFormed.{HasStarted, IsAnswered, IsCallAt, IsClientsCall, IsFrameOf, IsThreadAt, IsWellFormed, LastFits, calls_by, last_call, thread_total}

-- ---- lists

-- only a list that is there has an item
nonempty_there : {X : Type 0} (h : List (List X)) (i : ℕ) → 0 < length (get_or h i []) → i < length h
nonempty_there [] i lt = absurd (omega arith)
nonempty_there (xs ∷ h) zero lt = omega arith
nonempty_there (xs ∷ h) (suc i) lt = omega (arith, nonempty_there h i lt)

-- ---- frames

frame_fits : (c : Client) (p : ProcedureKind) (core : Core) → ((f : Frame) → core ≡ Running f → IsFrameOf c p f) → FrameFits c p core
frame_fits c p Idle fits = tt
frame_fits c p (Running f) fits = fits f refl
frame_fits c p Stopped fits = tt

module _ (c : Client) (s : State) where
  pub call_thread : (i k : ℕ) (call : Call) → IsCallAt s i k call → i < length s.history
  call_thread i k call at = nonempty_there s.history i (let lt = slice_get_within (calls_by s i) k call at in omega (arith, lt))

  pub started_thread : (i : ℕ) → length s.threads ≡ length s.history → HasStarted s i → i < length s.history
  started_thread i same (inl lt) = nonempty_there s.history i lt
  started_thread i same (inr (t, at, lt)) = let within = slice_get_within s.threads i t at in omega (arith, within, same)

  -- ---- from the list to the tests

  module _ (w : IsWellFormed c s) where
    inside : (i : ℕ) (t : Thread) (calls : List Call) → IsThreadAt s i t → calls_by s i ≡ calls → ThreadFits c t calls
    inside i t calls at is = record {
      inside = λ k d lt. w.sizes.places i k t (get_or t.buffer k d) at (slice_get-get_or t.buffer k d lt);
      fit = record {
        last = subst (λ xs. LastFits t.core (last_call xs)) is (w.last i t at);
        frame = subst (λ xs. FrameFits c (running_procedure xs) t.core) is (frame_fits c (running_procedure (calls_by s i)) t.core (λ f e. w.frames i t f at e));
      };
    }

    threads_at : (i : ℕ) (o : Option Thread) (h : Option (List Call)) → i < thread_total c → slice_get s.threads i ≡ o → slice_get s.history i ≡ h → FitsAt c o h
    threads_at i None h lt e f = let past = none_past s.threads i e in absurd (omega (arith, past, lt, w.sizes.threads))
    threads_at i (Some t) None lt e f = let past = none_past s.history i f in absurd (omega (arith, past, lt, w.sizes.history))
    threads_at i (Some t) (Some calls) lt e f = inside i t calls e (get_or_from_slice_get s.history i calls [] f)

    threads_of : ThreadsFit c s
    threads_of i lt = threads_at i (slice_get s.threads i) (slice_get s.history i) lt refl refl

    seen_of : SeenFits s.history (thread_total c)
    seen_of j below i lt k d less n e = (w.calls i k (get_or (calls_by s i) k d) (slice_get-get_or (calls_by s i) k d less)).others j n e

    lists_of : ListsFit c s.history
    lists_of i lt =
        let calls = calls_by s i in
        record {
          numbered = λ k d lt. (
              let here : IsCallAt s i k (get_or calls k d) = slice_get-get_or calls k d lt in
              let call = w.calls i k (get_or calls k d) here in
              record { kind = call.kind; seen = w.sizes.seen i k (get_or calls k d) here; own = call.own });
          earlier = λ k d lt. (
              let below : k < length calls - 1 = omega (arith, lt, length-take (length calls - 1) calls) in
              let here : IsCallAt s i k (get_or calls k d) = slice_get-get_or calls k d (omega (arith, below)) in
              let more : k + 1 < length calls = omega (arith, below) in
              subst (λ x. IsAnswered x) (sym (get_or-take (length calls - 1) calls k d below)) (w.earlier i k (get_or calls k d) here more));
        }

    pub parts_of : PartsFit c s
    parts_of = record { lengths = record { memory = w.sizes.memory; threads = w.sizes.threads; history = w.sizes.history }; history = record { lists = lists_of; seen = seen_of }; threads = threads_of }

    pub prologue_of : PrologueFits c s
    prologue_of some i lt started = w.prologue some i started.other started.started

  -- ---- from the tests to the list

  pub record ThreadAt (i : ℕ) : Type 0 where
    pub thread : Thread
    pub here : IsThreadAt s i thread
    pub fits : ThreadFits c thread (calls_by s i)

  module _ (l : HasLengths c s) (h : HistoryFits c s.history) (threads : ThreadsFit c s) where
    at_thread : (i : ℕ) (o : Option Thread) (k : Option (List Call)) → slice_get s.threads i ≡ o → slice_get s.history i ≡ k → FitsAt c o k → ThreadAt i
    at_thread i None k e f fits = absurd fits
    at_thread i (Some t) None e f fits = absurd fits
    at_thread i (Some t) (Some calls) e f fits = record { thread = t; here = e; fits = subst (λ xs. ThreadFits c t xs) (sym (get_or_from_slice_get s.history i calls [] f)) fits }

    thread_at : (i : ℕ) → i < thread_total c → ThreadAt i
    thread_at i lt = at_thread i (slice_get s.threads i) (slice_get s.history i) refl refl (threads i lt)

    fits_at : (i : ℕ) (t : Thread) → IsThreadAt s i t → ThreadFits c t (calls_by s i)
    fits_at i t at =
        let within = slice_get_within s.threads i t at in
        let a = thread_at i (omega (arith, within, l.threads)) in
        let same : a.thread ≡ t = same_Some a.thread t (sym a.here ∙ at) in
        subst (λ u. ThreadFits c u (calls_by s i)) same a.fits

    numbered_at : (i k : ℕ) (call : Call) → IsCallAt s i k call → IsNumbered (get_or (calls_of_client c) i []) (thread_total c) i k call
    numbered_at i k call at =
        let a = h.lists i (let lt = call_thread i k call at in omega (arith, lt, l.history)) in
        let n = a.numbered k call (slice_get_within (calls_by s i) k call at) in
        subst (λ x. IsNumbered (get_or (calls_of_client c) i []) (thread_total c) i k x) (get_or_from_slice_get (calls_by s i) k call call at) n

    clients_call : (i k : ℕ) (call : Call) → IsCallAt s i k call → IsClientsCall c s i k call
    clients_call i k call at =
        let n = numbered_at i k call at in
        let lt = call_thread i k call at in
        let is = get_or_from_slice_get (calls_by s i) k call call at in
        record {
          kind = n.kind;
          own = n.own;
          others = λ j m e. (
              let within = slice_get_within call.seen j m e in
              let there : slice_get (get_or (calls_by s i) k call).seen j ≡ Some m = subst (λ (x : Call). slice_get x.seen j ≡ Some m) (sym is) e in
              h.seen j (omega (arith, within, n.seen)) i (omega (arith, lt, l.history)) k call (slice_get_within (calls_by s i) k call at) m there);
        }

    earlier_at : (i k : ℕ) (call : Call) → IsCallAt s i k call → k + 1 < length (calls_by s i) → IsAnswered call
    earlier_at i k call at more =
        let a = h.lists i (let lt = call_thread i k call at in omega (arith, lt, l.history)) in
        let below : k < length (calls_by s i) - 1 = omega (arith, more) in
        let lt : k < length (take (length (calls_by s i) - 1) (calls_by s i)) = omega (arith, below, length-take (length (calls_by s i) - 1) (calls_by s i)) in
        let is = get_or-take (length (calls_by s i) - 1) (calls_by s i) k call below ∙ get_or_from_slice_get (calls_by s i) k call call at in
        subst (λ x. IsAnswered x) is (a.earlier k call lt)

    pub list_of : PrologueFits c s → IsWellFormed c s
    list_of prologue = record {
      sizes = record {
        memory = l.memory;
        threads = l.threads;
        history = l.history;
        seen = λ i k call at. (numbered_at i k call at).seen;
        places = λ i n t e at here. (
            let lt = slice_get_within t.buffer n e here in
            let less = (fits_at i t at).inside n e lt in
            let is = get_or_from_slice_get t.buffer n e e here in
            rw is at less);
      };
      calls = clients_call;
      earlier = earlier_at;
      last = λ i t at. (fits_at i t at).fit.last;
      frames = λ i t f at e. subst (λ k. FrameFits c (running_procedure (calls_by s i)) k) e (fits_at i t at).fit.frame;
      prologue = λ some i other started. (
          let lt = started_thread i (l.threads ∙ sym l.history) started in
          prologue some i (omega (arith, lt, l.history)) (record { other = other; started = started }));
    }
