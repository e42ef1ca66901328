-- Each move leaves fewer labels, so runs of moves end.
use Rattle.std.proofs.Common.{◌≡◌, ◌∙◌, ℕ, zero, suc, ◌<◌, ◌≤◌, Bool, true, List, [], ◌∷◌, length, Option, None, Some, slice_get, refl, sym, ap, subst, arith}
use Rattle.std.specs.Option.{option_map}
use Rattle.std.proofs.lemmas.Option.{none-some, option_and_then_some, same_Some}
use Rattle.tso_crossing.proofs.AsSteps.{moves_are_steps}
use Rattle.tso_machine.proofs.Ranked.{ranked}
use Rattle.tso_machine.specs.Activations.{Activation}
use Rattle.tso_machine.specs.Places.{first_memory}
use Rattle.tso_machine.specs.Programs.{program_of}
use Rattle.tso_machine.specs.Soundness.{is_sound_or_past_end, rank}
use Rattle.tso_model.proofs.Falls.{falls, sound_run, sound_step}
use Rattle.tso_model.proofs.Labelled.{steps_are_runs}
use Rattle.tso_model.proofs.Leaves.{steps_give_runs}
use Rattle.tso_model.specs.Labels.{Core, Idle, Label, Machine, Run, Running, Stage, Stopped, Thread, core_of, machine_of, thread_views}
use Rattle.tso_model.specs.Measure.{AllSound, IsSound, labels_left}
use Rattle.tso_model.specs.Programs.{Action, Barrier, CallKind, Cut, Fail, Load, Locked, Ret, Silent, Store}
use Rattle.tso_model.specs.Prologue.{next_call}
use Rattle.tso_model.specs.Reduce.{Steps}
use Rattle.tso_model.specs.Relation.{IsShaped}
use Rattle.tso_model.specs.StepLabels.{labels_of, labels_of_action, labels_of_call, labels_of_core, labels_of_entry, labels_of_exec, labels_of_drain}
use Rattle.tso_model.specs.States.{Buffer, Called, CompactCore, CompactThread, Executing, Halted, Resting, State as ModelState, calls_in}
use Rattle.tso_model.specs.Steps as steps
use Rattle.tso_model.specs.WellFormed.{CallsFit, IsInLast}
use Rattle.tso_move.specs.Cost.{MovesCost}
use Rattle.tso_move.specs.Own.{extent_of}
use Rattle.tso_prog.specs.declared.client.Client.{Client}
use Rattle.tso_state.proofs.ModelLemmas.{may_be_past_end}
use Rattle.tso_state.specs.Actors.{actor_of}
use Rattle.tso_state.specs.Views.{state_of}

-- ---- a step has a label

some_of_action : (memory : List ℕ) (i : ℕ) (b : Buffer) (action : Action Activation) (m : steps.Move Activation) → steps.action_move b action ≡ Some m → labels_of_action memory i b action ≡ [] → ⊥
some_of_action memory i b (Silent g) m e n = absurd cc
some_of_action memory i b (Load p k) m e n = absurd cc
some_of_action memory i b (Store p v g) m e n = absurd cc
some_of_action memory i b (Barrier g) m e n = absurd cc
some_of_action memory i b (Locked p new k) m e n = absurd cc
some_of_action memory i b (Ret a) m e n = absurd cc
some_of_action memory i b (Fail x) m e n = absurd cc
some_of_action memory i b Cut m e n = none-some m e

some_of_call : (c : Client) (i : ℕ) (b : Buffer) (call : Option CallKind) (m : steps.Move Activation) → steps.call_move (program_of c) b call ≡ Some m → labels_of_call i call ≡ [] → ⊥
some_of_call c i b None m e n = none-some m e
some_of_call c i b (Some k) m e n = absurd cc

some_of_core : (c : Client) (s : ModelState Activation) (i : ℕ) (core : CompactCore Activation) (b : Buffer) (m : steps.Move Activation) → steps.core_move (program_of c) (next_call (program_of c) s i) core b ≡ Some m → labels_of_core (program_of c) s i b core ≡ [] → ⊥
some_of_core c s i Resting b m e n = some_of_call c i b (next_call (program_of c) s i) m e n
some_of_core c s i (Executing f) b m e n = some_of_action s.memory i b ((program_of c).next f) m e n
some_of_core c s i Halted b m e n = none-some m e

some_of_drain : (i : ℕ) (core : CompactCore Activation) (b : Buffer) (m : steps.Move Activation) → steps.drain_move core b ≡ Some m → labels_of_entry i b ≡ [] → ⊥
some_of_drain i core [] m e n = none-some m e
some_of_drain i core (x ∷ rest) m e n = absurd cc

mapped_some : {X Y : Type 0} (f : X → Y) (o : Option X) (y : Y) → option_map f o ≡ Some y → (x : X) × (o ≡ Some x) × (f x ≡ y)
mapped_some f None y e = absurd (none-some y e)
mapped_some f (Some x) y e = (x, refl, same_Some (f x) y e)

has_labels : (c : Client) (s s' : ModelState Activation) (a : steps.Actor) → steps.step (program_of c) s a ≡ Some s' → labels_of (program_of c) s a ≡ [] → ⊥
has_labels c s s' (steps.Exec i) e n =
    let (m, at, is) = mapped_some (steps.perform s i) (steps.move (program_of c) s (steps.Exec i)) s' e in
    option_and_then_some _ (slice_get s.threads i) m at (λ t here moves. some_of_core c s i t.core t.buffer m moves (ap (labels_of_exec (program_of c) s i) (sym here) ∙ n))
has_labels c s s' (steps.Drains i) e n =
    let (m, at, is) = mapped_some (steps.perform s i) (steps.move (program_of c) s (steps.Drains i)) s' e in
    option_and_then_some _ (slice_get s.threads i) m at (λ t here moves. some_of_drain i t.core t.buffer m moves (ap (labels_of_drain i) (sym here) ∙ n))

-- ---- the frames of a well-formed state can occur

in_last : (test : CallKind → Bool) (calls : List Called) → IsInLast test calls → (k : CallKind) × (test k ≡ true)
in_last test [] h = absurd h
in_last test (c ∷ []) h = (c.kind, h.1)
in_last test (c ∷ d ∷ rest) h = in_last test (d ∷ rest) h.1

abbrev frame_or : Activation → Core Activation → Activation
frame_or f Idle = f
frame_or f (Running g stage) = g
frame_or f Stopped = f

core_sound : (sound : CallKind → Activation → Bool) (core : CompactCore Activation) (calls : List Called) (f : Activation) (stage : Stage) → CallsFit sound core calls → core_of core ≡ Running f stage → IsSound sound f
core_sound sound Resting calls f stage fit e = absurd (let clash : Idle ≡ Running f stage = e in cc)
core_sound sound (Executing g) calls f stage fit e =
    let same : g ≡ f = ap (frame_or g) e in
    subst (IsSound sound) same (in_last (λ k. sound k g) calls fit)
core_sound sound Halted calls f stage fit e = absurd (let clash : Stopped ≡ Running f stage = e in cc)

threads_sound : (sound : CallKind → Activation → Bool) (history : List (List Called)) (threads : List (CompactThread Activation)) → ((i : ℕ) (t : CompactThread Activation) → slice_get threads i ≡ Some t → CallsFit sound t.core (calls_in history i))
    → (i : ℕ) (t : Thread Activation) (f : Activation) (stage : Stage) → slice_get (thread_views history threads) i ≡ Some t → t.core ≡ Running f stage → IsSound sound f
threads_sound sound [] threads fit i t f stage at is = absurd (none-some t at)
threads_sound sound (h ∷ hs) [] fit i t f stage at is = absurd (none-some t at)
threads_sound sound (h ∷ hs) (u ∷ us) fit zero t f stage at is =
    core_sound sound u.core h f stage (fit zero u refl) (ap (λ (x : Thread Activation). x.core) (same_Some _ t at) ∙ is)
threads_sound sound (h ∷ hs) (u ∷ us) fit (suc i) t f stage at is = threads_sound sound hs us (λ j v there. fit (suc j) v there) i t f stage at is

-- ---- steps and moves

module _ (c : Client) where
  abbrev left : ModelState Activation → ℕ
  left s = labels_left (program_of c) (rank c) (machine_of s)

  abbrev Sound : ModelState Activation → Type 0
  Sound s = AllSound (is_sound_or_past_end c) (machine_of s)

  run_le : (m m' : Machine Activation) (ls : List Label) → AllSound (is_sound_or_past_end c) m → Run (program_of c) m ls m' → labels_left (program_of c) (rank c) m' ≤ labels_left (program_of c) (rank c) m
  run_le m m' [] sound run = let e = ap (labels_left (program_of c) (rank c)) run in omega (arith, e)
  run_le m m' (l ∷ ls) sound run =
      let one = falls (program_of c) (length (first_memory c.arrays)) (is_sound_or_past_end c) (rank c) (ranked c) m l run.0 sound run.1 in
      let more = run_le run.0 m' ls (sound_step (program_of c) (length (first_memory c.arrays)) (is_sound_or_past_end c) (rank c) (ranked c) m l run.0 sound run.1) run.2 in
      omega (arith, one, more)

  labelled_less : (s s' : ModelState Activation) (a : steps.Actor) (ls : List Label) → Sound s → steps.step (program_of c) s a ≡ Some s' → labels_of (program_of c) s a ≡ ls → Run (program_of c) (machine_of s) ls (machine_of s') → left s' < left s
  labelled_less s s' a [] sound e none run = absurd (has_labels c s s' a e none)
  labelled_less s s' a (l ∷ ls) sound e is run =
      let one = falls (program_of c) (length (first_memory c.arrays)) (is_sound_or_past_end c) (rank c) (ranked c) (machine_of s) l run.0 sound run.1 in
      let more = run_le run.0 (machine_of s') ls (sound_step (program_of c) (length (first_memory c.arrays)) (is_sound_or_past_end c) (rank c) (ranked c) (machine_of s) l run.0 sound run.1) run.2 in
      omega (arith, one, more)

  step_less : (s s' : ModelState Activation) (a : steps.Actor) → IsShaped s → Sound s → steps.step (program_of c) s a ≡ Some s' → left s' < left s
  step_less s s' a shaped sound e = labelled_less s s' a (labels_of (program_of c) s a) sound e refl (steps_are_runs (program_of c) s a s' shaped e)

  still_sound : (s s' : ModelState Activation) (a : steps.Actor) → IsShaped s → Sound s → steps.step (program_of c) s a ≡ Some s' → Sound s'
  still_sound s s' a shaped sound e =
      sound_run (program_of c) (length (first_memory c.arrays)) (is_sound_or_past_end c) (rank c) (ranked c) (machine_of s) (machine_of s') (labels_of (program_of c) s a) sound (steps_are_runs (program_of c) s a s' shaped e)

  still_shaped : (s s' : ModelState Activation) (a : steps.Actor) → IsShaped s → steps.step (program_of c) s a ≡ Some s' → IsShaped s'
  still_shaped s s' a shaped e = let (ls, run, same, is) = steps_give_runs (program_of c) s (a ∷ []) s' shaped (s', e, refl) in is

  steps_le : (s s' : ModelState Activation) (actors : List steps.Actor) → IsShaped s → Sound s → Steps (steps.step (program_of c)) s actors s' → left s' ≤ left s
  steps_le s s' [] shaped sound run = let e = ap left run in omega (arith, e)
  steps_le s s' (a ∷ rest) shaped sound (m, e, more) =
      let one = step_less s m a shaped sound e in
      let others = steps_le m s' rest (still_shaped s m a shaped e) (still_sound s m a shaped sound e) more in
      omega (arith, one, others)

pub moves_cost : (c : Client) → MovesCost c
moves_cost c own s s' a w move =
    let well = may_be_past_end c s w in
    let shaped : IsShaped (state_of s) = well.histories ∙ sym well.threads in
    let sound : Sound c (state_of s) = threads_sound (is_sound_or_past_end c) (state_of s).history (state_of s).threads well.fit in
    let (first, rest, one, same, more) = moves_are_steps Activation (program_of c) (extent_of c own) (state_of s) (state_of s') (actor_of a) move in
    let start = step_less c (state_of s) first (actor_of a) shaped sound one in
    let others = steps_le c first (state_of s') rest (still_shaped c (state_of s) first (actor_of a) shaped one) (still_sound c (state_of s) first (actor_of a) shaped sound one) more in
    omega (arith, start, others)
