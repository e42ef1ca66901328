-- An actor has a compact step exactly where it has a label.
use Rattle.std.proofs.Common.{◌≡◌, ℕ, zero, suc, List, [], ◌∷◌, length, slice_get, refl, Option, Some, None}
use Rattle.std.specs.Option.{option_and_then, option_map}
use Rattle.tso_model.specs.Labels.{Thread, core_of, machine_of, thread_view, thread_views}
use Rattle.tso_model.specs.Offers.{offer, offer_call, offer_core, offer_drain, offer_entry, offer_exec, offer_outside}
use Rattle.tso_model.specs.Programs.{Action, Barrier, CallKind, Cut, Fail, Load, Locked, Program, Ret, Silent, Store}
use Rattle.tso_model.specs.Prologue.{next_call}
use Rattle.tso_model.specs.Relation.{Free, IsShaped}
use Rattle.tso_model.specs.States.{Buffer, Called, CompactCore, CompactThread, Executing, Halted, Resting, State, calls_in}
use Rattle.tso_model.specs.StepLabels.{ActorsAgree}
use Rattle.tso_model.specs.Steps.{Actor, Drains, Exec, action_move, call_move, core_move, drain_move, perform, step}
use Rattle.tso_model.proofs.Begin.{next_same}
use Rattle.tso_model.proofs.Threads.{shaped_get, threads_get}

-- both are there, or neither is
abbrev Alike : {A B : Type 0} → Option A → Option B → Type 0
Alike None None = Unit {0}
Alike None (Some y) = ⊥
Alike (Some x) None = ⊥
Alike (Some x) (Some y) = Unit {0}

alike_left : {A B : Type 0} (o : Option A) (p : Option B) → Alike o p → o ≡ None → p ≡ None
alike_left None None a e = refl
alike_left None (Some y) a e = absurd a
alike_left (Some x) p a e = cc

alike_right : {A B : Type 0} (o : Option A) (p : Option B) → Alike o p → p ≡ None → o ≡ None
alike_right None None a e = refl
alike_right (Some x) None a e = absurd a
alike_right o (Some y) a e = cc

module _ {F : Type 0} (P : Program F) where
  no_view : (hs : List (List Called)) (ts : List (CompactThread F)) (i : ℕ) → slice_get ts i ≡ None → slice_get (thread_views hs ts) i ≡ None
  no_view [] ts i e = refl
  no_view (h ∷ hs) [] i e = refl
  no_view (h ∷ hs) (t ∷ ts) zero e = cc
  no_view (h ∷ hs) (t ∷ ts) (suc i) e = no_view hs ts i e

  alike_call : (c : State F) (i : ℕ) (v : Thread F) (b : Buffer) (o : Option CallKind) → Alike (option_map (perform c i) (call_move P b o)) (offer_call P (machine_of c) i v o)
  alike_call c i v b None = tt
  alike_call c i v b (Some k) = tt

  alike_action : (c : State F) (i : ℕ) (h : List Called) (t : CompactThread F) (f : F) (b : Buffer) → t.buffer ≡ b → (a : Action F)
      → Alike (option_map (perform c i) (action_move t.buffer a)) (offer_outside (machine_of c) i (thread_view h t) f a)
  alike_action c i h t f b e (Silent g) = tt
  alike_action c i h t f b e (Load p k) = tt
  alike_action c i h t f b e (Store p v g) = tt
  alike_action c i h t f [] e (Barrier g) = rw e tt
  alike_action c i h t f (x ∷ b) e (Barrier g) = rw e tt
  alike_action c i h t f [] e (Locked p n k) = rw e tt
  alike_action c i h t f (x ∷ b) e (Locked p n k) = rw e tt
  alike_action c i h t f b e (Ret a) = tt
  alike_action c i h t f b e (Fail n) = tt
  alike_action c i h t f b e Cut = tt

  alike_core : (c : State F) (i : ℕ) (t : CompactThread F) → IsShaped c → (core : CompactCore F)
      → Alike (option_map (perform c i) (core_move P (next_call P c i) core t.buffer)) (offer_core P (machine_of c) i (thread_view (calls_in c.history i) t) (core_of core))
  alike_core c i t shaped Resting = rw (next_same P c Free i (length (calls_in c.history i)) shaped refl) (alike_call c i (thread_view (calls_in c.history i) t) t.buffer (next_call P c i))
  alike_core c i t shaped (Executing f) = alike_action c i (calls_in c.history i) t f t.buffer refl (P.next f)
  alike_core c i t shaped Halted = tt

  alike_exec : (c : State F) (i : ℕ) → IsShaped c → (o : Option (CompactThread F)) → slice_get c.threads i ≡ o
      → Alike (option_map (perform c i) (option_and_then (λ t. core_move P (next_call P c i) t.core t.buffer) o)) (offer_exec P (machine_of c) i (slice_get (thread_views c.history c.threads) i))
  alike_exec c i shaped None at = rw (no_view c.history c.threads i at) tt
  alike_exec c i shaped (Some t) at =
      rw (threads_get c.history c.threads i (calls_in c.history i) t (shaped_get c i t shaped at) at) (alike_core c i t shaped t.core)

  alike_entry : (c : State F) (i : ℕ) (v : Thread F) (core : CompactCore F) (b : Buffer) → Alike (option_map (perform c i) (drain_move core b)) (offer_entry (machine_of c) i v b)
  alike_entry c i v core [] = tt
  alike_entry c i v core (e ∷ rest) = tt

  alike_drain : (c : State F) (i : ℕ) → IsShaped c → (o : Option (CompactThread F)) → slice_get c.threads i ≡ o
      → Alike (option_map (perform c i) (option_and_then (λ t. drain_move t.core t.buffer) o)) (offer_drain (machine_of c) i (slice_get (thread_views c.history c.threads) i))
  alike_drain c i shaped None at = rw (no_view c.history c.threads i at) tt
  alike_drain c i shaped (Some t) at =
      rw (threads_get c.history c.threads i (calls_in c.history i) t (shaped_get c i t shaped at) at) (alike_entry c i (thread_view (calls_in c.history i) t) t.core t.buffer)

  alike : (c : State F) (a : Actor) → IsShaped c → Alike (step P c a) (offer P (machine_of c) a)
  alike c (Exec i) shaped = alike_exec c i shaped (slice_get c.threads i) refl
  alike c (Drains i) shaped = alike_drain c i shaped (slice_get c.threads i) refl

pub actors_agree : {F : Type 0} → ActorsAgree F
actors_agree P c a shaped =
    (alike_left (step P c a) (offer P (machine_of c) a) (alike P c a shaped), alike_right (step P c a) (offer P (machine_of c) a) (alike P c a shaped))
