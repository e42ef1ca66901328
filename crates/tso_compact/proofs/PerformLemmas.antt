-- The state after a step, seen in the model.
use Rattle.std.proofs.Common.{◌≡◌, ◌∙◌, ℕ, zero, suc, ◌<◌, List, [], ◌∷◌, ◌++◌, length, map, slice_set, slice_index_or, refl, sym, ap, arith}
use Rattle.std.proofs.lemmas.List.{length-map}
use Rattle.std.proofs.lemmas.Option.{slice_get-get_or}
use Rattle.tso_compact.specs.Motions.{access_of, log_of, procedure_after, thread_after}
use Rattle.tso_compact.specs.Plans.{motion_view, procedure_in, thread_in}
use Rattle.tso_compact.specs.declared.motion.Motion.{Motion}
use Rattle.tso_compact.specs.declared.motion.Motion.TheVariants as the
use Rattle.tso_flow.specs.Calls.{kind_of}
use Rattle.tso_flow.specs.declared.location.ProcedureKind.{ProcedureKind}
use Rattle.tso_flow.specs.declared.location.ProcedureKind.TheVariants as procedures
use Rattle.tso_hist.specs.declared.call.Call.{Call}
use Rattle.tso_hist.specs.Views.{called_view, history_view}
use Rattle.tso_line.specs.declared.instruction.CallKind.{CallKind}
use Rattle.tso_line.specs.declared.instruction.CallKind.TheVariants as calls
use Rattle.tso_machine.specs.Activations.{Activation}
use Rattle.tso_model.specs.Programs as model
use Rattle.tso_model.specs.States.{Called, CompactThread, answered, calls_in, logged, begun_call}
use Rattle.tso_model.specs.Steps.{memory_after, perform, word_read}
use Rattle.tso_prog.specs.Views.{answer_view, call_view}
use Rattle.tso_state.proofs.ViewLemmas.{calls_in-history_view}
use Rattle.tso_state.specs.Views.{running_procedure, state_of, thread_view, threads_view}
use Rattle.tso_state.specs.declared.state.Core.TheVariants.{Idle}
use Rattle.tso_state.specs.declared.state.State.{State}
use Rattle.tso_state.specs.declared.state.Thread.{Thread}

-- ---- the procedure of the last call, from the model's history

by_call : model.CallKind → ProcedureKind
by_call (model.Push v) = procedures.Push
by_call model.Pop = procedures.Pop

kind_of-view : (k : CallKind) → kind_of k ≡ by_call (call_view k)
unfolding by_call
kind_of-view (calls.Push v) = refl
kind_of-view calls.Pop = refl

abbrev last_procedure : List Called → ProcedureKind
last_procedure [] = procedures.Pop
last_procedure (c ∷ []) = by_call c.kind
last_procedure (c ∷ d ∷ rest) = last_procedure (d ∷ rest)

last_procedure-view : (cs : List Call) → running_procedure cs ≡ last_procedure (map called_view cs)
last_procedure-view [] = refl
last_procedure-view (c ∷ []) = kind_of-view c.kind
last_procedure-view (c ∷ d ∷ rest) = last_procedure-view (d ∷ rest)

last_procedure-append : (cs : List Called) (c : Called) → last_procedure (cs ++ c ∷ []) ≡ by_call c.kind
last_procedure-append [] c = refl
last_procedure-append (b ∷ []) c = refl
last_procedure-append (b ∷ d ∷ rest) c = last_procedure-append (d ∷ rest) c

last_procedure-answered : (a : model.Answer) (cs : List Called) → last_procedure (answered a cs) ≡ last_procedure cs
last_procedure-answered a [] = refl
last_procedure-answered a (c ∷ []) = refl
last_procedure-answered a (c ∷ d ∷ []) = refl
last_procedure-answered a (c ∷ d ∷ e ∷ rest) = last_procedure-answered a (d ∷ e ∷ rest)

-- ---- threads, by the model's history

abbrev threads_by : List (List Called) → List Thread → List (CompactThread Activation)
threads_by h [] = []
threads_by [] (t ∷ rest) = thread_view procedures.Pop t ∷ threads_by [] rest
threads_by (calls ∷ h) (t ∷ rest) = thread_view (last_procedure calls) t ∷ threads_by h rest

threads_by-view : (h : List (List Call)) (ts : List Thread) → threads_view h ts ≡ threads_by (history_view h) ts
threads_by-view h [] = refl
threads_by-view [] (t ∷ ts) = ap (λ (l : List (CompactThread Activation)). thread_view procedures.Pop t ∷ l) (threads_by-view [] ts)
threads_by-view (cs ∷ h) (t ∷ ts) =
    ap (λ p. thread_view p t ∷ threads_view h ts) (last_procedure-view cs)
    ∙ ap (λ (l : List (CompactThread Activation)). thread_view (last_procedure (map called_view cs)) t ∷ l) (threads_by-view h ts)

threads_by-set_thread : (h : List (List Called)) (ts : List Thread) (i : ℕ) (t : Thread) → i < length h
    → threads_by h (slice_set ts i t) ≡ slice_set (threads_by h ts) i (thread_view (last_procedure (calls_in h i)) t)
threads_by-set_thread h [] i t lt = refl
threads_by-set_thread [] (u ∷ ts) i t lt = absurd (omega arith)
threads_by-set_thread (cs ∷ h) (u ∷ ts) zero t lt = refl
threads_by-set_thread (cs ∷ h) (u ∷ ts) (suc i) t lt =
    ap (λ (l : List (CompactThread Activation)). thread_view (last_procedure cs) u ∷ l) (threads_by-set_thread h ts i t (omega arith))

threads_by-set_both : (h : List (List Called)) (ts : List Thread) (i : ℕ) (calls : List Called) (t : Thread) → i < length h
    → threads_by (slice_set h i calls) (slice_set ts i t) ≡ slice_set (threads_by h ts) i (thread_view (last_procedure calls) t)
threads_by-set_both h [] i calls t lt = refl
threads_by-set_both [] (u ∷ ts) i calls t lt = absurd (omega arith)
threads_by-set_both (cs ∷ h) (u ∷ ts) zero calls t lt = refl
threads_by-set_both (cs ∷ h) (u ∷ ts) (suc i) calls t lt =
    ap (λ (l : List (CompactThread Activation)). thread_view (last_procedure cs) u ∷ l) (threads_by-set_both h ts i calls t (omega arith))

-- the thread's step, with its entry in the history
threads_by-motion : (h : List (List Called)) (ts : List Thread) (i : ℕ) (t : Thread) (m : Motion) → i < length h
    → threads_by (logged h i (log_of m)) (slice_set ts i t) ≡ slice_set (threads_by h ts) i (thread_view (procedure_after (last_procedure (calls_in h i)) m) t)
threads_by-motion h ts i t (the.Begin kind jumps) lt =
    threads_by-set_both h ts i (calls_in h i ++ begun_call (call_view kind) h ∷ []) t lt
    ∙ ap (λ p. slice_set (threads_by h ts) i (thread_view p t)) (last_procedure-append (calls_in h i) (begun_call (call_view kind) h) ∙ sym (kind_of-view kind))
threads_by-motion h ts i t (the.Return a) lt =
    threads_by-set_both h ts i (answered (answer_view a) (calls_in h i)) t lt
    ∙ ap (λ p. slice_set (threads_by h ts) i (thread_view p t)) (last_procedure-answered (answer_view a) (calls_in h i))
threads_by-motion h ts i t _ lt = threads_by-set_thread h ts i t lt

threads_after : (s : State) (i : ℕ) (t : Thread) (m : Motion) (h : List (List Call)) → i < length s.history → history_view h ≡ logged (history_view s.history) i (log_of m)
    → threads_view h (slice_set s.threads i t) ≡ slice_set (threads_view s.history s.threads) i (thread_view (procedure_after (procedure_in s i) m) t)
threads_after s i t m h lt e =
    let inside : i < length (history_view s.history) = omega (arith, length-map s.history (map called_view)) in
    let same : procedure_in s i ≡ last_procedure (calls_in (history_view s.history) i) =
    last_procedure-view (slice_index_or s.history i []) ∙ ap (λ cs. last_procedure cs) (sym (calls_in-history_view s.history i)) in
    threads_by-view h (slice_set s.threads i t)
    ∙ ap (λ g. threads_by g (slice_set s.threads i t)) e
    ∙ threads_by-motion (history_view s.history) s.threads i t m inside
    ∙ ap (λ ts. slice_set ts i (thread_view (procedure_after (last_procedure (calls_in (history_view s.history) i)) m) t)) (sym (threads_by-view s.history s.threads))
    ∙ ap (λ p. slice_set (threads_view s.history s.threads) i (thread_view (procedure_after p m) t)) (sym same)

-- ---- the whole state

-- these are the parts of the state after the step of thread i, which was t and is u
pub record AreParts (s : State) (i : ℕ) (m : Motion) (t : Thread) (memory : List ℕ) (u : Thread) (threads : List Thread) (history : List (List Call)) : Type 0 where
  pub inside : i < length s.history
  pub there : thread_in s i ≡ t
  pub memory_is : memory ≡ memory_after s.memory (access_of t m)
  pub thread_is : u ≡ thread_after t m (word_read s.memory (access_of t m))
  pub threads_are : threads ≡ slice_set s.threads i u
  pub history_is : history_view history ≡ logged (history_view s.history) i (log_of m)

pub performed-view : (s : State) (i : ℕ) (m : Motion) (t : Thread) (memory : List ℕ) (u : Thread) (threads : List Thread) (history : List (List Call))
    → AreParts s i m t memory u threads history
    → state_of (record { memory = memory; threads = threads; history = history }) ≡ perform (state_of s) i (motion_view s i m)
performed-view s i m t memory u threads history parts =
    let word = word_read s.memory (access_of (thread_in s i) m) in
    let memory_is : memory ≡ memory_after s.memory (access_of (thread_in s i) m) = parts.memory_is ∙ ap (λ v. memory_after s.memory (access_of v m)) (sym parts.there) in
    let thread_is : u ≡ thread_after (thread_in s i) m word = parts.thread_is ∙ ap (λ v. thread_after v m (word_read s.memory (access_of v m))) (sym parts.there) in
    let threads_are : threads_view history threads ≡ slice_set (threads_view s.history s.threads) i (thread_view (procedure_after (procedure_in s i) m) (thread_after (thread_in s i) m word)) =
    ap (λ ts. threads_view history ts) parts.threads_are
    ∙ threads_after s i u m history parts.inside parts.history_is
    ∙ ap (λ v. slice_set (threads_view s.history s.threads) i (thread_view (procedure_after (procedure_in s i) m) v)) thread_is in
    λ k. record { memory = memory_is k; threads = threads_are k; history = parts.history_is k }

-- the thread at an index that is there
pub thread_in-at : (s : State) (i : ℕ) (t : Thread) → i < length s.threads → t ≡ slice_index_or s.threads i t → thread_in s i ≡ t
thread_in-at s i t lt e =
    let other = slice_get-get_or s.threads i t lt in
    let idle : Thread = record { core = Idle; buffer = [] } in
    let first = slice_get-get_or s.threads i idle lt in
    cc (first, other, e)
