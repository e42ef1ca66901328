-- The state in which a call has begun and its opening has led to a frame, by its parts.
use Rattle.std.proofs.Common.{◌≡◌, ◌∙◌, ℕ, zero, suc, ◌<◌, List, [], ◌∷◌, length, map, Some, slice_get, slice_set, slice_index_or, refl, sym, ap, subst, arith}
use Rattle.std.specs.Option.{option_map}
use Rattle.std.proofs.lemmas.List.{length-map, length-set}
use Rattle.std.proofs.lemmas.Option.{same_Some, slice_get-get_or}
use Rattle.tso_compact.proofs.PerformLemmas.{AreParts, performed-view}
use Rattle.tso_compact.specs.Motions.{argument_of}
use Rattle.tso_compact.specs.Plans.{thread_in}
use Rattle.tso_compact.specs.declared.motion.Motion.{Motion}
use Rattle.tso_compact.specs.declared.motion.Motion.TheVariants as motions
use Rattle.tso_crossing.specs.Moves.{opening}
use Rattle.tso_flow.specs.Calls.{kind_of}
use Rattle.tso_flow.specs.declared.location.ProcedureKind.{ProcedureKind}
use Rattle.tso_hist.specs.Views.{called_view, history_view}
use Rattle.tso_hist.specs.declared.call.Call.{Call}
use Rattle.tso_line.specs.declared.instruction.CallKind.{CallKind}
use Rattle.tso_machine.specs.Activations.{Activation, activation}
use Rattle.tso_machine.specs.Changes.{first_frame}
use Rattle.tso_machine.specs.declared.frame.Frame.{Frame}
use Rattle.tso_model.proofs.Places.{get_set_same}
use Rattle.tso_model.specs.States as model
use Rattle.tso_model.specs.Steps.{perform}
use Rattle.tso_move.specs.Begun.{AreBegun, begun_thread}
use Rattle.tso_move.specs.Parts.{own_buffer}
use Rattle.tso_prog.specs.Views.{call_view}
use Rattle.tso_state.proofs.ViewLemmas.{length-threads_view, slice_get-threads_view}
use Rattle.tso_state.specs.Views.{core_view, running_procedure, state_of, thread_view, threads_view}
use Rattle.tso_state.specs.declared.state.Core.TheVariants.{Running}
use Rattle.tso_state.specs.declared.state.State.{State}
use Rattle.tso_state.specs.declared.state.Thread.{Thread}

set_twice : {X : Type 0} (xs : List X) (i : ℕ) (x y : X) → slice_set (slice_set xs i x) i y ≡ slice_set xs i y
set_twice [] i x y = refl
set_twice (z ∷ zs) zero x y = refl
set_twice (z ∷ zs) (suc i) x y = ap (λ l. z ∷ l) (set_twice zs i x y)

-- another thread in its place, with the same calls
set_idle : (ts : List Thread) (i : ℕ) (t : Thread) → threads_view [] (slice_set ts i t) ≡ slice_set (threads_view [] ts) i (thread_view (running_procedure []) t)
set_idle [] i t = refl
set_idle (u ∷ us) zero t = refl
set_idle (u ∷ us) (suc i) t = ap (λ (l : List (model.CompactThread Activation)). thread_view (running_procedure []) u ∷ l) (set_idle us i t)

set_thread : (h : List (List Call)) (ts : List Thread) (i : ℕ) (t : Thread) → threads_view h (slice_set ts i t) ≡ slice_set (threads_view h ts) i (thread_view (running_procedure (slice_index_or h i [])) t)
set_thread [] ts zero t = set_idle ts zero t
set_thread [] ts (suc i) t = set_idle ts (suc i) t
set_thread (cs ∷ h) [] i t = refl
set_thread (cs ∷ h) (u ∷ us) zero t = refl
set_thread (cs ∷ h) (u ∷ us) (suc i) t = ap (λ (l : List (model.CompactThread Activation)). thread_view (running_procedure cs) u ∷ l) (set_thread h us i t)

-- the procedure of a running core
abbrev procedure_of : model.CompactCore Activation → ProcedureKind → ProcedureKind
procedure_of model.Resting other = other
procedure_of (model.Executing a) other = a.procedure
procedure_of model.Halted other = other

-- of two lists that are the same the threads at one place are
same_procedure : (name other : ProcedureKind) (h : List (List Call)) (ts : List Thread) (views : List (model.CompactThread Activation)) (i : ℕ) (t : Thread) (frame : Frame) → t.core ≡ Running frame → i < length ts → i < length views
    → threads_view h (slice_set ts i t) ≡ slice_set views i (thread_view name t) → running_procedure (slice_index_or h i []) ≡ name
same_procedure name other h ts views i t frame runs inside within e =
    let own = slice_get-get_or ts i t inside in
    let there = slice_get-get_or views i (thread_view name t) within in
    let left : slice_get (threads_view h (slice_set ts i t)) i ≡ Some (thread_view (running_procedure (slice_index_or h i [])) t) =
    slice_get-threads_view h (slice_set ts i t) i ∙ ap (option_map (thread_view (running_procedure (slice_index_or h i [])))) (get_set_same ts i _ t own) in
    let right : slice_get (slice_set views i (thread_view name t)) i ≡ Some (thread_view name t) = get_set_same views i _ (thread_view name t) there in
    let same : thread_view (running_procedure (slice_index_or h i [])) t ≡ thread_view name t = same_Some _ _ (sym left ∙ ap (λ l. slice_get l i) e ∙ right) in
    let cores : model.Executing (activation (running_procedure (slice_index_or h i [])) frame) ≡ model.Executing (activation name frame) =
    sym (ap (core_view (running_procedure (slice_index_or h i []))) runs) ∙ ap (λ (x : model.CompactThread Activation). x.core) same ∙ ap (core_view name) runs in
    ap (λ x. procedure_of x other) cores

pub begun_view : (s : State) (i : ℕ) (kind : CallKind) (frame : Frame) (memory : List ℕ) (threads : List Thread) (history : List (List Call)) → AreBegun s i kind frame memory threads history
    → state_of (record { memory = memory; threads = threads; history = history }) ≡ perform (state_of s) i (opening (own_buffer s i) (call_view kind) (activation (kind_of kind) frame))
begun_view s i kind frame memory threads history x =
    let start : Thread = begun_thread s i (first_frame (argument_of kind) 0) in
    let opened : Thread = begun_thread s i frame in
    let m : Motion = motions.Begin kind 0 in
    let parts : AreParts s i m (thread_in s i) s.memory start (slice_set s.threads i start) history = record {
      inside = (let a = x.inside in let b = x.lists in omega (arith, a, b));
      there = refl;
      memory_is = refl;
      thread_is = refl;
      threads_are = refl;
      history_is = x.history_is;
    } in
    let first = performed-view s i m (thread_in s i) s.memory start (slice_set s.threads i start) history parts in
    let started : threads_view history (slice_set s.threads i start) ≡ slice_set (threads_view s.history s.threads) i (thread_view (kind_of kind) start) = ap (λ (y : model.State Activation). y.threads) first in
    let within : i < length (threads_view s.history s.threads) = subst (λ n. i < n) (sym (length-threads_view s.history s.threads)) x.inside in
    let same = same_procedure (kind_of kind) (kind_of kind) history s.threads (threads_view s.history s.threads) i start (first_frame (argument_of kind) 0) refl x.inside within started in
    let threads_are : threads_view history threads ≡ slice_set (threads_view s.history s.threads) i (thread_view (kind_of kind) opened) =
    ap (threads_view history) (x.threads_are ∙ sym (set_twice s.threads i start opened))
    ∙ set_thread history (slice_set s.threads i start) i opened
    ∙ ap (λ l. slice_set l i (thread_view (running_procedure (slice_index_or history i [])) opened)) started
    ∙ set_twice (threads_view s.history s.threads) i (thread_view (kind_of kind) start) (thread_view (running_procedure (slice_index_or history i [])) opened)
    ∙ ap (λ p. slice_set (threads_view s.history s.threads) i (thread_view p opened)) same in
    λ k. record { memory = x.memory_is k; threads = threads_are k; history = x.history_is k }

-- there is a list of calls for each thread still
pub begun_lists : (s : State) (i : ℕ) (kind : CallKind) (frame : Frame) (memory : List ℕ) (threads : List Thread) (history : List (List Call)) → AreBegun s i kind frame memory threads history → length history ≡ length threads
begun_lists s i kind frame memory threads history x =
    let lists : length (history_view history) ≡ length (history_view s.history) = ap length x.history_is ∙ length-set (history_view s.history) i _ in
    sym (length-map history (map called_view)) ∙ lists ∙ length-map s.history (map called_view) ∙ x.lists ∙ sym (length-set s.threads i (begun_thread s i frame)) ∙ sym (ap length x.threads_are)
