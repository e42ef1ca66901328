-- What the model sees of a state whose threads and calls are read or replaced.
use Rattle.std.proofs.Common.{◌≡◌, ℕ, zero, suc, ◌-◌, ◌<◌, ◌≤◌, List, [], ◌∷◌, ◌∙◌, length, map, None, slice_get, slice_set, slice_index_or, unwrap_or, refl, sym, ap, arith}
use Rattle.std.specs.Option.{option_map}
use Rattle.std.proofs.Math.ListN.{get_or-map}
use Rattle.std.proofs.lemmas.List.{length-map, map-set}
use Rattle.std.proofs.lemmas.Option.{slice_get-map, unwrap_or-slice_get}
use Rattle.tso_flow.specs.Calls.{kind_of}
use Rattle.tso_hist.specs.declared.call.Call.{Call}
use Rattle.tso_hist.specs.Views.{called_view, history_view}
use Rattle.tso_machine.specs.Activations.{Activation}
use Rattle.tso_model.specs.States.{Called, CompactThread, begun_by, calls_in}
use Rattle.tso_state.specs.declared.state.State.{State}
use Rattle.tso_state.specs.declared.state.Thread.{Thread}
use Rattle.tso_state.specs.Views.{running_procedure, state_of, thread_view, threads_view}

-- past the end there is the default
pub none_there : {X : Type 0} (xs : List X) (i : ℕ) (d : X) → slice_get xs i ≡ None → slice_index_or xs i d ≡ d
none_there xs i d e = sym (unwrap_or-slice_get xs i d) ∙ ap (λ o. unwrap_or o d) e

-- ---- threads

pub slice_get-threads_view : (h : List (List Call)) (ts : List Thread) (i : ℕ)
    → slice_get (threads_view h ts) i ≡ option_map (thread_view (running_procedure (slice_index_or h i []))) (slice_get ts i)
slice_get-threads_view h [] i = refl
slice_get-threads_view [] (t ∷ ts) zero = refl
slice_get-threads_view [] (t ∷ ts) (suc i) = slice_get-threads_view [] ts i
slice_get-threads_view (cs ∷ h) (t ∷ ts) zero = refl
slice_get-threads_view (cs ∷ h) (t ∷ ts) (suc i) = slice_get-threads_view h ts i

pub length-threads_view : (h : List (List Call)) (ts : List Thread) → length (threads_view h ts) ≡ length ts
length-threads_view h [] = refl
length-threads_view [] (t ∷ ts) = ap suc (length-threads_view [] ts)
length-threads_view (cs ∷ h) (t ∷ ts) = ap suc (length-threads_view h ts)

-- one thread is replaced
pub threads_view-set_thread : (h : List (List Call)) (ts : List Thread) (i : ℕ) (t : Thread)
    → threads_view h (slice_set ts i t) ≡ slice_set (threads_view h ts) i (thread_view (running_procedure (slice_index_or h i [])) t)
threads_view-set_thread h [] i t = refl
threads_view-set_thread [] (u ∷ ts) zero t = refl
threads_view-set_thread [] (u ∷ ts) (suc i) t = ap (λ (l : List (CompactThread Activation)). thread_view (running_procedure []) u ∷ l) (threads_view-set_thread [] ts i t)
threads_view-set_thread (cs ∷ h) (u ∷ ts) zero t = refl
threads_view-set_thread (cs ∷ h) (u ∷ ts) (suc i) t = ap (λ (l : List (CompactThread Activation)). thread_view (running_procedure cs) u ∷ l) (threads_view-set_thread h ts i t)

-- one list of calls is replaced by one whose last call runs the same procedure
pub threads_view-set_calls : (h : List (List Call)) (ts : List Thread) (i : ℕ) (calls : List Call)
    → running_procedure calls ≡ running_procedure (slice_index_or h i []) → threads_view (slice_set h i calls) ts ≡ threads_view h ts
threads_view-set_calls h [] i calls e = refl
threads_view-set_calls [] (t ∷ ts) i calls e = refl
threads_view-set_calls (cs ∷ h) (t ∷ ts) zero calls e = ap (λ p. thread_view p t ∷ threads_view h ts) e
threads_view-set_calls (cs ∷ h) (t ∷ ts) (suc i) calls e = ap (λ (l : List (CompactThread Activation)). thread_view (running_procedure cs) t ∷ l) (threads_view-set_calls h ts i calls e)

-- a thread and its list of calls are replaced
pub threads_view-set_both : (h : List (List Call)) (ts : List Thread) (i : ℕ) (calls : List Call) (t : Thread) → i < length h
    → threads_view (slice_set h i calls) (slice_set ts i t) ≡ slice_set (threads_view h ts) i (thread_view (running_procedure calls) t)
threads_view-set_both h [] i calls t lt = refl
threads_view-set_both [] (u ∷ ts) i calls t lt = absurd (omega arith)
threads_view-set_both (cs ∷ h) (u ∷ ts) zero calls t lt = refl
threads_view-set_both (cs ∷ h) (u ∷ ts) (suc i) calls t lt =
    ap (λ (l : List (CompactThread Activation)). thread_view (running_procedure cs) u ∷ l) (threads_view-set_both h ts i calls t (omega arith))

-- ---- histories

pub slice_get-history_view : (h : List (List Call)) (i : ℕ) → slice_get (history_view h) i ≡ option_map (map called_view) (slice_get h i)
slice_get-history_view h i = slice_get-map (map called_view) h i

pub history_view-set_calls : (h : List (List Call)) (i : ℕ) (calls : List Call) → history_view (slice_set h i calls) ≡ slice_set (history_view h) i (map called_view calls)
history_view-set_calls h i calls = map-set (map called_view) h i calls

pub calls_in-history_view : (h : List (List Call)) (i : ℕ) → calls_in (history_view h) i ≡ map called_view (slice_index_or h i [])
calls_in-history_view h i = get_or-map (map called_view) h i []

pub begun_by-state_of : (s : State) (i : ℕ) → begun_by (state_of s) i ≡ length (slice_index_or s.history i [])
begun_by-state_of s i = ap (λ (cs : List Called). length cs) (calls_in-history_view s.history i) ∙ length-map (slice_index_or s.history i []) called_view

-- ---- the last call

pub running_procedure-last : (calls : List Call) (c : Call) → 1 ≤ length calls → c ≡ slice_index_or calls (length calls - 1) c → running_procedure calls ≡ kind_of c.kind
running_procedure-last [] c some e = absurd (omega arith)
running_procedure-last (x ∷ []) c some e = ap (λ (k : Call). kind_of k.kind) (sym e)
running_procedure-last (x ∷ y ∷ rest) c some e =
    let shift : length (x ∷ y ∷ rest) - 1 ≡ suc (length (y ∷ rest) - 1) = omega arith in
    running_procedure-last (y ∷ rest) c (omega arith) (e ∙ ap (λ k. slice_index_or (x ∷ y ∷ rest) k c) shift)
