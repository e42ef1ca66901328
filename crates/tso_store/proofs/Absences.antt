-- States after steps that are not kept.
use Rattle.std.proofs.Common.{◌≡◌, ℕ, zero, suc, List, [], ◌∷◌, Option, Some, None, refl, sym, ap, subst, ◌∙◌, slice_get, slice_set}
use Rattle.std.specs.Option.{option_map}
use Rattle.tso_compact.specs.Motions.{access_of, log_of, thread_after}
use Rattle.tso_compact.specs.Plans.{IsStep, motion_view, thread_in}
use Rattle.tso_compact.specs.declared.motion.Motion.{Motion}
use Rattle.tso_hist.specs.declared.call.Call.{Call}
use Rattle.tso_hist.specs.Views.{history_view}
use Rattle.tso_machine.specs.Activations.{Activation}
use Rattle.tso_model.specs.States.{logged, State as ModelState}
use Rattle.tso_model.specs.Steps.{Move, memory_after, perform, word_read}
use Rattle.tso_parts.specs.Numbers.{IsNowhere, IsNumbered}
use Rattle.tso_prog.specs.declared.client.Client.{Client}
use Rattle.tso_state.specs.Actors.{thread_of}
use Rattle.tso_state.specs.Views.{state_of}
use Rattle.tso_state.specs.declared.actor.Actor.{Actor}
use Rattle.tso_state.specs.declared.actor.Actor.TheVariants.{Drain, Exec}
use Rattle.tso_state.specs.declared.state.State.{State}
use Rattle.tso_state.specs.declared.state.Thread.{Thread}
use Rattle.tso_keys.specs.declared.key.Key.{Key}
use Rattle.tso_keys.specs.declared.parts.Parts.{Parts}
use Rattle.tso_store.specs.declared.sought.Sought.{Sought}
use Rattle.tso_store.specs.declared.sought.Sought.TheVariants.{Disabled, Absent, At}
use Rattle.tso_keys.specs.Keys.{AreKept, IsKeyOf, IsKept, state_at, states_at}
use Rattle.tso_store.specs.Seeking.{HasNoKeyAfter, IsSoughtFrom, IsStepSought, IsThreadSought}
use Rattle.tso_store.specs.Sheets.{IsSuccessorNowhere}
use Rattle.tso_store.specs.Stepping.{IsPlanned, IsStepOf}
use Rattle.tso_compact.specs.declared.motion.Motion.TheVariants as the
use Rattle.tso_machine.specs.declared.buffer.Entry.{Entry}
use Rattle.tso_store.specs.Remembered.{IsDrained}
use Rattle.tso_store.proofs.Performed.{after_view, left_drained}
use Rattle.tso_keys.proofs.Rows.{row_has}
use Rattle.tso_keys.proofs.StateLemmas.{same_key, state_got, there_key}
use Rattle.tso_store.proofs.Sheeted.{can_step, cannot}
use Rattle.tso_confluence.proofs.Views.{same_history, same_state}

-- ---- steps have one state each

performed : (s : ModelState Activation) (i : ℕ) (o : Option (Move Activation)) (m : Move Activation) (t : ModelState Activation) → o ≡ Some m → option_map (perform s i) o ≡ Some t → t ≡ perform s i m
performed s i o m t e h =
    let k : Some t ≡ Some (perform s i m) = sym h ∙ ap (option_map (perform s i)) e in
    cc

one_state : (c : Client) (s t : State) (a : Actor) (m : Motion) → IsPlanned c s a m → IsStep c s a t → state_of t ≡ perform (state_of s) (thread_of a) (motion_view s (thread_of a) m)
one_state c s t (Exec i) m planned is = performed (state_of s) i _ _ (state_of t) planned.is is
one_state c s t (Drain i) m planned is = performed (state_of s) i _ _ (state_of t) planned.is is

steps_agree : (c : Client) (s t u : State) (a : Actor) → IsStep c s a t → IsStep c s a u → t ≡ u
steps_agree c s t u a p q =
    let e : Some (state_of t) ≡ Some (state_of u) = sym p ∙ q in
    let f : state_of t ≡ state_of u = cc in
    same_state t u f

-- ---- a part that is not kept

pub no_memory : (c : Client) (p : Parts) (k : Key) (a : Actor) (m : Motion) → IsPlanned c (state_at p k) a m
    → IsNowhere p.memories (memory_after (state_at p k).memory (access_of (thread_in (state_at p k) (thread_of a)) m)) → HasNoKeyAfter c p k a
no_memory c p k a m planned none t l is key =
    let e = one_state c (state_at p k) t a m planned is in
    let same = ap (λ (v : ModelState Activation). v.memory) e in
    none l.memory (key.memory ∙ ap Some same)

pub no_history : (c : Client) (p : Parts) (k : Key) (a : Actor) (m : Motion) (h : List (List Call)) → IsPlanned c (state_at p k) a m
    → history_view h ≡ logged (history_view (state_at p k).history) (thread_of a) (log_of m) → IsNowhere p.histories h → HasNoKeyAfter c p k a
no_history c p k a m h planned is_h none t l is key =
    let e = one_state c (state_at p k) t a m planned is in
    let seen = ap (λ (v : ModelState Activation). v.history) e in
    let same = same_history t.history h (seen ∙ sym is_h) in
    none l.history (key.history ∙ ap Some same)

set_here : {X : Type 0} (xs : List X) (i : ℕ) (x y : X) → slice_get xs i ≡ Some y → slice_get (slice_set xs i x) i ≡ Some x
set_here [] i x y e = absurd (let h : None ≡ Some y = e in cc)
set_here (z ∷ xs) zero x y e = refl
set_here (z ∷ xs) (suc i) x y e = set_here xs i x y e

pub no_moved : (c : Client) (p : Parts) (k : Key) (a : Actor) (m : Motion) (h : List (List Call)) → IsKept c p k → IsPlanned c (state_at p k) a m
    → history_view h ≡ logged (history_view (state_at p k).history) (thread_of a) (log_of m)
    → slice_get (state_at p k).threads (thread_of a) ≡ Some (thread_in (state_at p k) (thread_of a))
    → IsNowhere p.threads (thread_after (thread_in (state_at p k) (thread_of a)) m (word_read (state_at p k).memory (access_of (thread_in (state_at p k) (thread_of a)) m)))
    → HasNoKeyAfter c p k a
no_moved c p k a m h kept planned is_h here none t l is key =
    let s : State = state_at p k in
    let i = thread_of a in
    let old : Thread = thread_in s i in
    let u : Thread = thread_after old m (word_read s.memory (access_of old m)) in
    let after : State = record { memory = memory_after s.memory (access_of old m); threads = slice_set s.threads i u; history = h } in
    let view = after_view c p k a m h kept planned is_h in
    let same : t ≡ after = same_state t after (one_state c s t a m planned is ∙ sym view) in
    let there : slice_get t.threads i ≡ Some u = ap (λ (v : State). slice_get v.threads i) same ∙ set_here s.threads i u old here in
    let has = row_has p.threads l.threads t.threads i u key.threads there in
    none has.0 has.1

-- ---- among all states

pub no_successor_key : (c : Client) (p : Parts) (ks : List Key) (k : Key) (n : ℕ) (a : Actor) → AreKept c p ks → slice_get ks n ≡ Some k → HasNoKeyAfter c p k a → IsSuccessorNowhere c (states_at p ks) n a
no_successor_key c p ks k n a all at none from to from_at step i there =
    let both : Some from ≡ Some (state_at p k) = sym from_at ∙ state_got p ks n k at in
    let same : from ≡ state_at p k = cc in
    let S : State → Type 0 = λ s. IsStep c s a to in
    let f = there_key c p ks i to all there in
    none to f.0 (subst S same step) f.2

pub key_nowhere : (c : Client) (p : Parts) (ks : List Key) (k next : Key) (n : ℕ) (a : Actor) → IsNumbered p.memories → IsNumbered p.histories → IsNumbered p.threads → AreKept c p ks → slice_get ks n ≡ Some k
    → IsStepOf c p k a p next → IsNowhere ks next → IsSuccessorNowhere c (states_at p ks) n a
key_nowhere c p ks k next n a one two three all at by none from to from_at step i there =
    let both : Some from ≡ Some (state_at p k) = sym from_at ∙ state_got p ks n k at in
    let same : from ≡ state_at p k = cc in
    let S : State → Type 0 = λ s. IsStep c s a to in
    let equal : to ≡ by.state = steps_agree c (state_at p k) to by.state a (subst S same step) by.step in
    let f = there_key c p ks i to all there in
    let K : State → Type 0 = λ s. IsKeyOf p f.0 s in
    none i (f.1 ∙ ap Some (same_key p f.0 next by.state one two three (subst K equal f.2) by.key))

-- what is known of a key is known of the state with its number
pub sought_from : (c : Client) (p : Parts) (ks : List Key) (k : Key) (n : ℕ) (a : Actor) (sought : Sought) → AreKept c p ks → slice_get ks n ≡ Some k → IsStepSought c p k a sought → IsSoughtFrom c p ks n a sought
sought_from c p ks k n a Disabled all at none = cannot c p ks k n a at none
sought_from c p ks k n a Absent all at none = (can_step c p ks k n a at none.0, no_successor_key c p ks k n a all at none.1)
sought_from c p ks k n a (At next) all at by = record { from = k; at = at; step = by }

-- ---- a drain that is known

pub drain_sought : (pool : List Thread) (n k w : ℕ) (e : Entry) → IsDrained pool n k → IsThreadSought pool n (the.Drain e) w (Some k)
drain_sought pool n k w e d t at = left_drained pool pool n k w e (λ i x h. h) d t at
