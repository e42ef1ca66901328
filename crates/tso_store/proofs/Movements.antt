-- The state after a move, by its key.
use Rattle.std.proofs.Common.{◌≡◌, ◌∙◌, ℕ, ◌<◌, ◌^◌, List, length, map, Option, Some, None, refl, sym, ap, subst, slice_get}
use Rattle.std.specs.Prelude.{Err, IfOk, IsSome, Ok, Result}
use Rattle.std.specs.Option.{option_map}
use Rattle.std.proofs.lemmas.Bool.{false≢true}
use Rattle.std.proofs.lemmas.Option.{none-some, slice_get_within}
use Rattle.tso_compact.specs.Plans.{thread_in}
use Rattle.tso_crossing.specs.Moves.{late_move, parts}
use Rattle.tso_flow.specs.Calls.{kind_of}
use Rattle.tso_foot.specs.declared.table.ArrayTable.{ArrayTable}
use Rattle.tso_line.specs.declared.instruction.CallKind.{CallKind}
use Rattle.tso_machine.specs.Activations.{Activation, activation}
use Rattle.tso_machine.specs.Instructions.{next_action}
use Rattle.tso_machine.specs.Kinds.{kind_of_action}
use Rattle.tso_machine.specs.Machines.{entry_view}
use Rattle.tso_machine.specs.Programs.{program_of}
use Rattle.tso_machine.specs.declared.buffer.Entry.{Entry}
use Rattle.tso_machine.specs.declared.frame.Frame.{Frame}
use Rattle.tso_machine.specs.declared.kinds.ActionKind.TheVariants as kinds
use Rattle.tso_model.specs.Programs.{Action, Barrier, Cut, Fail, Load, Locked, Ret, Silent, Store}
use Rattle.tso_model.specs.Programs as model
use Rattle.tso_model.specs.Steps as steps
use Rattle.tso_move.proofs.MoveLemmas.{cut_moves, disabled_same, steps_late, steps_on}
use Rattle.tso_move.proofs.PartLemmas.{begun_parts}
use Rattle.tso_move.specs.Own.{extent_of}
use Rattle.tso_move.specs.Parts.{begun_by_thread, begun_in, opened_in, opened_kinds, own_buffer, part_kinds}
use Rattle.tso_move.specs.Runs.{HasMove}
use Rattle.tso_prog.specs.Views.{call_view}
use Rattle.tso_prog.specs.declared.client.Client.{Client}
use Rattle.tso_state.specs.Actors.{actor_of, thread_of}
use Rattle.tso_state.specs.Views.{state_of}
use Rattle.tso_state.specs.declared.actor.Actor.{Actor}
use Rattle.tso_state.specs.declared.actor.Actor.TheVariants.{Drain, Exec}
use Rattle.tso_state.specs.declared.state.State.{State}
use Rattle.tso_state.specs.declared.state.Thread.{Thread}
use Rattle.tso_keys.proofs.StateLemmas.{kept_of, key_state}
use Rattle.tso_keys.specs.Keys.{Grows, IsKept, state_at}
use Rattle.tso_keys.specs.declared.key.Key.{Key}
use Rattle.tso_keys.specs.declared.parts.Parts.{Parts}
use Rattle.tso_store.specs.Arriving.{AreOpened, IsBegunOf, IsBehind, IsMoveKey, IsMoveOf}
use Rattle.tso_store.specs.Stepping.{IsStepKey}
use Rattle.tso_store.specs.declared.moved.Behind.{Behind}
use Rattle.tso_store.specs.declared.moved.Behind.TheVariants as behinds

-- ---- what was returned

pub ok_on : {A E : Type 0} {P Q : A → Type 0} (r : Result A E) → ((x : A) → P x → Q x) → IfOk r P → IfOk r Q
ok_on (Ok x) f p = f x p
ok_on (Err e) f p = tt

-- ---- growth

pub grows_on : (a b c : Parts) → Grows a b → Grows b c → Grows a c
grows_on a b c one two = record {
  memories = λ i x e. two.memories i x (one.memories i x e);
  histories = λ i x e. two.histories i x (one.histories i x e);
  threads = λ i x e. two.threads i x (one.threads i x e);
  small = λ s. two.small (one.small s);
}

-- ---- where a call begins there is a thread

there_at : (c : Client) (s : State) (i : ℕ) (k : model.CallKind) (o : Option Thread) → slice_get s.threads i ≡ o → begun_by_thread c s i o ≡ Some k → i < length s.threads
there_at c s i k None at begun = absurd (none-some k begun)
there_at c s i k (Some t) at begun = slice_get_within s.threads i t at

pub begins_there : (c : Client) (s : State) (a : Actor) (k : model.CallKind) → begun_in c s a ≡ Some k → thread_of a < length s.threads
begins_there c s (Exec i) k begun = there_at c s i k (slice_get s.threads i) refl begun
begins_there c s (Drain i) k begun = absurd (none-some k begun)

-- ---- a move that is a step

pub moved_on : (c : Client) (own : ArrayTable) (old mid new : Parts) (k opened : Key) (a : Actor) (o : Option Key)
    → late_move (program_of c) (extent_of c own) (state_of (state_at old k)) (actor_of a) ≡ steps.step (program_of c) (state_of (state_at mid opened)) (actor_of a)
    → IsStepKey c mid opened a new o → IsMoveKey c own old k a new o
moved_on c own old mid new k opened a None same none = disabled_same c own (state_at old k) (state_at mid opened) a same none
moved_on c own old mid new k opened a (Some next) same by = record { state = by.state; move = same ∙ by.step; key = by.key; fits = by.fits }

-- one that begins no call
pub moved_by_step : (c : Client) (own : ArrayTable) (old new : Parts) (k : Key) (a : Actor) (o : Option Key) → begun_in c (state_at old k) a ≡ None → IsStepKey c old k a new o → IsMoveKey c own old k a new o
moved_by_step c own old new k a o none is = moved_on c own old old new k k a o (steps_late c own (state_at old k) a none) is

-- ---- a move that begins a call

cut_action : (action : Action Activation) → kind_of_action action ≡ kinds.Cut → action ≡ Cut
cut_action (Silent g) e = absurd cc
cut_action (Load p r) e = absurd cc
cut_action (Store p v g) e = absurd cc
cut_action (Barrier g) e = absurd cc
cut_action (Locked p new r) e = absurd cc
cut_action (Ret a) e = absurd cc
cut_action (Fail n) e = absurd cc
cut_action Cut e = refl

-- the opened state is that of its key, and kept
pub begun_state : (old mid : Parts) (k opened : Key) (i : ℕ) (call : CallKind) (frame : Frame) → length mid.threads < 2 ^ 32 → (b : IsBegunOf old k i call frame mid opened) → state_at mid opened ≡ b.state
begun_state old mid k opened i call frame small b = key_state mid opened b.state small b.key

pub begun_kept : (c : Client) (old mid : Parts) (k opened : Key) (i : ℕ) (call : CallKind) (frame : Frame) → IsKept c old k → length mid.threads < 2 ^ 32 → IsBegunOf old k i call frame mid opened → IsKept c mid opened
begun_kept c old mid k opened i call frame kept small b = kept_of c mid opened b.state small b.key (b.fits c kept.fits)

module _ (c : Client) (own : ArrayTable) (old mid : Parts) (k opened : Key) (a : Actor) (i : ℕ) (call : CallKind) (frame : Frame) (begins : begun_in c (state_at old k) a ≡ Some (call_view call)) (same : i ≡ thread_of a)
    (b : IsBegunOf old k i call frame mid opened) where
  pub moved_cut : IsKept c old k → AreOpened c own (state_at old k) i call frame behinds.Cut → IsMoveOf c own old k a mid opened
  moved_cut kept o = record {
    state = b.state;
    move = cut_moves c own (state_at old k) a call frame b.state i begins same o.frame_is b.is (cut_action _ o.behind_is);
    key = b.key;
    fits = b.fits c kept.fits;
  }

  pub moved_behind : (new : Parts) (r : Option Key) → length mid.threads < 2 ^ 32 → AreOpened c own (state_at old k) i call frame behinds.Steps → IsStepKey c mid opened a new r → IsMoveKey c own old k a new r
  moved_behind new r small o is =
      let steps_there = steps_on c own (state_at old k) a call frame b.state i begins same o.frame_is b.is (λ cut. o.behind_is (ap kind_of_action cut)) in
      let F : State → Type 0 = λ s. late_move (program_of c) (extent_of c own) (state_of (state_at old k)) (actor_of a) ≡ steps.step (program_of c) (state_of s) (actor_of a) in
      moved_on c own old mid new k opened a r (subst F (sym (begun_state old mid k opened i call frame small b)) steps_there) is

-- ---- where an opening leads

pub opened_there : (c : Client) (own : ArrayTable) (s view : State) (i : ℕ) (call : CallKind) (frame : Frame) (behind : Behind) (buffer : List Entry) → view ≡ s
    → activation (kind_of call) frame ≡ opened_in c own view i (call_view call) → buffer ≡ (thread_in view i).buffer
    → IsBehind (map entry_view buffer) (kind_of_action (next_action c (activation (kind_of call) frame))) behind → AreOpened c own s i call frame behind
opened_there c own s view i call frame behind buffer same leads seen goes =
    let own_is : map entry_view buffer ≡ own_buffer s i = ap (map entry_view) (seen ∙ ap (λ (x : State). (thread_in x i).buffer) same) in
    record {
      frame_is = leads ∙ ap (λ (x : State). opened_in c own x i (call_view call)) same;
      behind_is = subst (λ b. IsBehind b (kind_of_action (next_action c (activation (kind_of call) frame))) behind) own_is goes;
    }

-- ---- a call that waits

nothing_of : {X Y Z : Type 0} (f : X → Y) (g : X → Z) (o : Option X) → option_map f o ≡ None → IsSome (option_map g o) → ⊥
nothing_of f g None e has = false≢true has
nothing_of f g (Some x) e has = none-some (f x) (sym e)

pub no_parts : (c : Client) (own : ArrayTable) (s : State) (a : Actor) → part_kinds c own s a ≡ None → HasMove c own s a → ⊥
no_parts c own s a none has = nothing_of _ _ (parts (program_of c) (extent_of c own) (state_of s) (actor_of a)) none has

pub waits_there : (c : Client) (own : ArrayTable) (s : State) (a : Actor) (i : ℕ) (call : CallKind) (frame : Frame) → begun_in c s a ≡ Some (call_view call) → i ≡ thread_of a → AreOpened c own s i call frame behinds.Waits → HasMove c own s a → ⊥
waits_there c own s a i call frame begins same o =
    let kinds_are : part_kinds c own s a ≡ None =
    begun_parts c own s a (call_view call) begins
    ∙ ap (λ j. opened_kinds (own_buffer s j) (kind_of_action (next_action c (opened_in c own s j (call_view call))))) (sym same)
    ∙ ap (λ (f : Activation). opened_kinds (own_buffer s i) (kind_of_action (next_action c f))) (sym o.frame_is)
    ∙ o.behind_is in
    no_parts c own s a kinds_are
