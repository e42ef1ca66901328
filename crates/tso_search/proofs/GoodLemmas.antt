-- Runs to new states stay good where no call returns, or their calls are explained.
use Rattle.std.proofs.Common.{◌≡◌, ◌∙◌, ℕ, zero, suc, ◌<◌, ◌++◌, inr, Bool, true, false, List, [], ◌∷◌, Option, None, Some, slice_get, refl, sym, ap, subst}
use Rattle.std.specs.Prelude.{Err, IfOk, MatchBool, Ok, Result, slice_set}
use Rattle.std.proofs.lemmas.Bool.{false≢true}
use Rattle.std.specs.Option.{option_and_then, option_map}
use Rattle.std.proofs.lemmas.Option.{none-some, same_Some}
use Rattle.tso_compact.specs.Plans.{IsStep}
use Rattle.tso_flow.specs.declared.location.ProcedureKind.{ProcedureKind}
use Rattle.tso_search.specs.Goodness.{AllGood, AllGoodBelow, HasNoOrderAt, HasOrderAt, IsGood, StaysExplained, is_running, is_running_if}
use Rattle.tso_search.proofs.KeptOrders.{call_keeps}
use Rattle.tso_search.specs.Reached.{IsBadAt}
use Rattle.tso_search.specs.Searched.{IsGoodAt}
use Rattle.tso_rec.specs.Conditions.{HasNoStopped}
use Rattle.tso_store.specs.Sheets.{IsKeptSuccessor}
use Rattle.tso_fifo.specs.Orders.{HasOrder}
use Rattle.tso_hist.specs.declared.call.Call.{Call}
use Rattle.tso_machine.specs.Activations.{Activation}
use Rattle.tso_machine.specs.Programs.{program_of}
use Rattle.tso_model.specs.Linear.{IsOrder, Placed}
use Rattle.tso_model.specs.Objects.{Object, Queue}
use Rattle.tso_model.specs.Programs.{Action, Barrier, CallKind, Cut, Fail, Load, Locked, Program, Ret, Silent, Store}
use Rattle.tso_model.specs.States.{Answered, Began, Buffer, CompactCore, Called, CompactThread, Executing, Halted, Log, Resting, Same, logged}
use Rattle.tso_model.specs.States as states
use Rattle.tso_model.specs.Steps as model
use Rattle.tso_prog.specs.Views.{mode_view}
use Rattle.tso_prog.specs.declared.client.Client.{Client}
use Rattle.tso_state.specs.Views.{core_view, running_procedure, state_of, thread_view, threads_view}
use Rattle.tso_state.specs.declared.actor.Actor.{Actor}
use Rattle.tso_state.specs.declared.actor.Actor.TheVariants.{Drain, Exec}
use Rattle.tso_state.specs.declared.state.Core.{Core}
use Rattle.tso_state.specs.declared.state.Core.TheVariants.{Idle, Running, Stopped}
use Rattle.tso_state.specs.declared.state.State.{State}
use Rattle.tso_state.specs.declared.state.Thread.{Thread}
use Rattle.tso_parts.proofs.Marked.{of_longer}

-- an entry that is no answer
abbrev IsNoAnswer : Log → Type 0
IsNoAnswer Same = Unit {0}
IsNoAnswer (Began k) = Unit {0}
IsNoAnswer (Answered a) = ⊥

-- an order of the calls so far is one of those after such an entry
order_stays : (object : Object) (h : List (List Called)) (i : ℕ) (l : Log) (order : List Placed) → IsNoAnswer l → IsOrder object h order → IsOrder object (logged h i l) order
order_stays object h i Same order none is = is
order_stays object h i (Began k) order none is = call_keeps object h i k order is
order_stays object h i (Answered a) order none is = absurd none

abbrev IsExecuting : {F : Type 0} → CompactCore F → Type 0
IsExecuting Resting = ⊥
IsExecuting (Executing f) = Unit {0}
IsExecuting Halted = ⊥

-- a move that leaves its thread in a call answers none
abbrev GoesOn : {F : Type 0} → Option (model.Move F) → Type 0
GoesOn None = Unit {0}
GoesOn (Some m) = (w : ℕ) → IsExecuting (m.after w).core → IsNoAnswer m.log

-- a move that answers no call
abbrev AnswersNone : {F : Type 0} → Option (model.Move F) → Type 0
AnswersNone None = Unit {0}
AnswersNone (Some m) = IsNoAnswer m.log

module _ {F : Type 0} where
  on_empty : (b : Buffer) (m : model.Move F) → GoesOn (Some m) → GoesOn (model.when_empty b m)
  on_empty [] m h = h
  on_empty (x ∷ rest) m h = tt

  on_action : (b : Buffer) (x : Action F) → GoesOn (model.action_move b x)
  on_action b (Silent g) = λ w h. tt
  on_action b (Load p k) = λ w h. tt
  on_action b (Store p v g) = λ w h. tt
  on_action b (Barrier g) = on_empty b _ (λ w h. tt)
  on_action b (Locked p new k) = on_empty b _ (λ w h. tt)
  on_action b (Ret a) = λ w h. absurd h
  on_action b (Fail n) = λ w h. tt
  on_action b Cut = tt

  on_call : (p : Program F) (b : Buffer) (call : Option CallKind) → GoesOn (model.call_move p b call)
  on_call p b None = tt
  on_call p b (Some k) = λ w h. tt

  on_core : (p : Program F) (call : Option CallKind) (core : CompactCore F) (b : Buffer) → GoesOn (model.core_move p call core b)
  on_core p call Resting b = on_call p b call
  on_core p call Halted b = tt
  on_core p call (Executing f) b = on_action b (p.next f)

  on_then : (o : Option (CompactThread F)) (f : CompactThread F → Option (model.Move F)) → ((t : CompactThread F) → GoesOn (f t)) → GoesOn (option_and_then f o)
  on_then None f q = tt
  on_then (Some t) f q = q t

  on_move : (p : Program F) (s : states.State F) (i : ℕ) → GoesOn (model.move p s (model.Exec i))
  on_move p s i = on_then (slice_get s.threads i) _ (λ t. on_core p _ t.core t.buffer)

  drained : (core : CompactCore F) (b : Buffer) → AnswersNone (model.drain_move core b)
  drained core [] = tt
  drained core (e ∷ rest) = tt

  none_then : (o : Option (CompactThread F)) (f : CompactThread F → Option (model.Move F)) → ((t : CompactThread F) → AnswersNone (f t)) → AnswersNone (option_and_then f o)
  none_then None f q = tt
  none_then (Some t) f q = q t

  none_drained : (p : Program F) (s : states.State F) (i : ℕ) → AnswersNone (model.move p s (model.Drains i))
  none_drained p s i = none_then (slice_get s.threads i) _ (λ t. drained t.core t.buffer)

  -- what stands at the place that was set
  set_there : (xs : List (CompactThread F)) (i : ℕ) (v y : CompactThread F) → slice_get (slice_set xs i v) i ≡ Some y → v ≡ y
  set_there [] i v y e = absurd (none-some y e)
  set_there (x ∷ xs) zero v y e = same_Some v y e
  set_there (x ∷ xs) (suc i) v y e = set_there xs i v y e

  performed_stays : (object : Object) (order : List Placed) (s t : states.State F) (i : ℕ) (o : Option (model.Move F)) → ((m : model.Move F) → o ≡ Some m → model.perform s i m ≡ t → IsNoAnswer m.log)
      → option_map (model.perform s i) o ≡ Some t → IsOrder object s.history order → IsOrder object t.history order
  performed_stays object order s t i None none f is = absurd (none-some t f)
  performed_stays object order s t i (Some m) none f is =
      let same : model.perform s i m ≡ t = same_Some (model.perform s i m) t f in
      subst (λ (u : states.State F). IsOrder object u.history order) same (order_stays object s.history i m.log order (none m refl same) is)

  -- of a move after which its thread is in a call
  none_running : (p : Program F) (s t : states.State F) (i : ℕ) (u : CompactThread F) → slice_get t.threads i ≡ Some u → IsExecuting u.core → (m : model.Move F) → model.move p s (model.Exec i) ≡ Some m
      → model.perform s i m ≡ t → IsNoAnswer m.log
  none_running p s t i u at runs m e same =
      let w = model.word_read s.memory m.access in
      let there : slice_get (slice_set s.threads i (m.after w)) i ≡ Some u = ap (λ (x : states.State F). slice_get x.threads i) same ∙ at in
      let is : m.after w ≡ u = set_there s.threads i (m.after w) u there in
      let on : GoesOn (Some m) = subst GoesOn e (on_move p s i) in
      on w (subst (λ (x : CompactThread F). IsExecuting x.core) (sym is) runs)

-- a thread whose call is running, as the model sees it
record IsSeenRunning (threads : List (CompactThread Activation)) (i : ℕ) : Type 0 where
  pub thread : CompactThread Activation
  pub at : slice_get threads i ≡ Some thread
  pub runs : IsExecuting thread.core

running_core : (name : ProcedureKind) (core : Core) → is_running core ≡ true → IsExecuting (core_view name core)
running_core name Idle e = absurd (false≢true e)
running_core name (Running frame) e = tt
running_core name Stopped e = absurd (false≢true e)

seen_running : (history : List (List Call)) (threads : List Thread) (i : ℕ) → is_running_if (slice_get threads i) ≡ true → IsSeenRunning (threads_view history threads) i
seen_running history [] i e = absurd (false≢true e)
seen_running [] (t ∷ rest) zero e = record { thread = thread_view (running_procedure []) t; at = refl; runs = running_core (running_procedure []) t.core e }
seen_running [] (t ∷ rest) (suc i) e = let seen = seen_running [] rest i e in record { thread = seen.thread; at = seen.at; runs = seen.runs }
seen_running (calls ∷ history) (t ∷ rest) zero e = record { thread = thread_view (running_procedure calls) t; at = refl; runs = running_core (running_procedure calls) t.core e }
seen_running (calls ∷ history) (t ∷ rest) (suc i) e = let seen = seen_running history rest i e in record { thread = seen.thread; at = seen.at; runs = seen.runs }

-- a thread whose call is running behind its step has answered none
pub running_stays : (c : Client) (i : ℕ) (t : State) → is_running_if (slice_get t.threads i) ≡ true → StaysExplained c (Exec i) t
running_stays c i t e s step (order, is) =
    let seen = seen_running t.history t.threads i e in (
      order,
      performed_stays (Queue (mode_view c.mode) c.capacity) order (state_of s) (state_of t) i (model.move (program_of c) (state_of s) (model.Exec i))
          (none_running (program_of c) (state_of s) (state_of t) i seen.thread seen.at seen.runs) step is,
    )

-- no drain answers a call
pub drain_stays : (c : Client) (i : ℕ) (t : State) → StaysExplained c (Drain i) t
drain_stays c i t s step (order, is) = (
  order,
  performed_stays (Queue (mode_view c.mode) c.capacity) order (state_of s) (state_of t) i (model.move (program_of c) (state_of s) (model.Drains i))
      (λ m e same. let none : AnswersNone (Some m) = subst AnswersNone e (none_drained (program_of c) (state_of s) i) in none) step is,
)

-- one more good state
pub all_good_more : (c : Client) (states : List State) (t : State) → AllGood c states → IsGood c t → AllGood c (states ++ t ∷ [])
all_good_more c states t all good n s here = of_longer states t s n here (λ old. all n s old) (λ last same. subst (IsGood c) same good)

-- state number new, after a step from a good state that leaves its calls explained, without a stopped thread
pub good_after : (c : Client) (states : List State) (n new : ℕ) (a : Actor) (after : State) → IsKeptSuccessor c states n a new → n < new → AllGoodBelow c states new
    → slice_get states new ≡ Some after → StaysExplained c a after → HasNoStopped after → IsGoodAt c states new
good_after c states n new a after next early below at_new stays unstopped =
    let to_is : next.to ≡ after = same_Some next.to after (sym next.number ∙ at_new) in
    let step : IsStep c next.from a after = subst (IsStep c next.from a) to_is next.step in
    record { state = after; at = at_new; good = record { unstopped = unstopped; explained = stays next.from step (below n next.from early next.at).explained } }

-- one whose calls are judged
pub judged_by : {E : Type 0} (c : Client) (states : List State) (new : ℕ) (after : State) → slice_get states new ≡ Some after → HasNoStopped after → (r : Result Bool E)
    → IfOk r (λ found. MatchBool found (HasOrderAt c states new) (HasNoOrderAt c states new)) → IfOk r (λ good. MatchBool good (IsGoodAt c states new) (IsBadAt c states new))
judged_by c states new after at unstopped (Ok true) is = record { state = after; at = at; good = record { unstopped = unstopped; explained = is after at } }
judged_by c states new after at unstopped (Ok false) is = record { state = after; at = at; bad = inr (is after at) }
judged_by c states new after at unstopped (Err e) is = tt

-- a state without a stopped thread is good where its calls are explained
pub good_if : {E : Type 0} (c : Client) (s : State) (Q : Type 0) (r : Result Bool E) → HasNoStopped s → IfOk r (λ found. MatchBool found (HasOrder c.mode c.capacity s.history) Q) → IfOk r (λ good. good ≡ true → IsGood c s)
good_if c s Q (Ok true) none is = λ e. record { unstopped = none; explained = is }
good_if c s Q (Ok false) none is = λ e. absurd (let clash : false ≡ true = e in cc)
good_if c s Q (Err e) none is = tt
