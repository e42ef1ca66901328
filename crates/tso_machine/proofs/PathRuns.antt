-- What each instruction keeps of a running call holds of all running calls, however a run goes on.
use Rattle.std.proofs.Common.{◌≡◌, ◌∙◌, ℕ, ◌<◌, true, nat_le, nat_lt, ◌&&◌, List, [], ◌∷◌, length, Some, slice_get, slice_set, refl, sym, ap, subst}
use Rattle.std.proofs.lemmas.Bool.{and_parts, and_from, lt-ltb}
use Rattle.std.proofs.lemmas.Option.{same_Some}
use Rattle.std.proofs.Math.Decide.{ℕ_discrete}
use Rattle.tso_prog.specs.declared.client.Client.{Client}
use Rattle.tso_flow.specs.Faults.{HasNoFault}
use Rattle.tso_machine.proofs.Edges.{follow_paths, start_on_path}
use Rattle.tso_machine.specs.Activations.{Activation}
use Rattle.tso_machine.specs.Control.{GoesOnWith, IsOnPath}
use Rattle.tso_machine.specs.Instructions.{instructions_of}
use Rattle.tso_machine.specs.Laws.{FramesStayOnPaths}
use Rattle.tso_machine.specs.Places.{first_memory}
use Rattle.tso_machine.specs.Programs.{program_of}
use Rattle.tso_machine.specs.Soundness.{are_within, bounds_in, is_sound, is_sound_or_past_end, runs_procedure}
use Rattle.tso_model.proofs.Falls.{first_at_rest}
use Rattle.tso_model.proofs.Places.{get_set_other, get_set_same}
use Rattle.tso_model.specs.Labels.{By, Core, HasLock, Idle, Kind, Label, Machine, Outside, Rule, Run, Running, Stage, Step, Stopped, Thread, call, drain, fault, fence, first_machine, lock, read, read_locked, reg, return, unlock, write, write_locked}
use Rattle.tso_model.specs.Programs.{Action, Barrier, CallKind, Load, Locked, Program, Silent, Store}
use Rattle.tso_model.specs.States.{word_seen}

module _ (p : Program Activation) (Q : Activation → Type 0) (starts : (k : CallKind) → Q (p.start k)) (goes : (a : Activation) → Q a → GoesOnWith Q (p.next a)) where
  abbrev Has : Core Activation → Type 0
  Has core = (a : Activation) (st : Stage) → core ≡ Running a st → Q a

  abbrev AllHave : Machine Activation → Type 0
  AllHave m = (i : ℕ) (t : Thread Activation) (a : Activation) (st : Stage) → slice_get m.threads i ≡ Some t → t.core ≡ Running a st → Q a

  running : (b : Activation) (su : Stage) → Q b → Has (Running b su)
  running b su q a st e = let same : b ≡ a = cc in subst Q same q

  idle : Has Idle
  idle a st e = absurd cc

  stopped : Has Stopped
  stopped a st e = absurd cc

  record Keeps (m : Machine Activation) (i : ℕ) (m' : Machine Activation) : Type 0 where
    thread : Thread Activation
    threads : m'.threads ≡ slice_set m.threads i thread
    has : Has thread.core

  after : (a : Activation) (action : Action Activation) → Q a → p.next a ≡ action → GoesOnWith Q action
  after a action q e = let R : Action Activation → Type 0 = λ x. GoesOnWith Q x in subst R e (goes a q)

  keeps : (m : Machine Activation) (i : ℕ) (t : Thread Activation) → Has t.core → {k : Kind} {m' : Machine Activation} → Rule p m i t k m' → Keeps m i m'
  keeps m i t s (call k at_rest found) = record { thread = _; threads = refl; has = running (p.start k) Outside (starts k) }
  keeps m i t s (reg f g here next) = record { thread = _; threads = refl; has = running g Outside (after f (Silent g) (s f Outside here) next) }
  keeps m i t s (read f q k here next free) =
      record { thread = _; threads = refl; has = running (k (word_seen t.buffer m.memory q)) Outside (after f (Load q k) (s f Outside here) next (word_seen t.buffer m.memory q)) }
  keeps m i t s (write f q v g here next) = record { thread = _; threads = refl; has = running g Outside (after f (Store q v g) (s f Outside here) next) }
  keeps m i t s (drain q v rest entry free) = record { thread = _; threads = refl; has = s }
  keeps m i t s (fence f g here next empty) = record { thread = _; threads = refl; has = running g Outside (after f (Barrier g) (s f Outside here) next) }
  keeps m i t s (lock f q w k here next free empty) = record { thread = _; threads = refl; has = running f HasLock (s f Outside here) }
  keeps m i t s (read_locked f q w k here next free) = record { thread = _; threads = refl; has = running f _ (s f HasLock here) }
  keeps m i t s (write_locked f q w k old here next) = record { thread = _; threads = refl; has = running f _ (s f _ here) }
  keeps m i t s (unlock f q w k old here next held empty) = record { thread = _; threads = refl; has = running (k old) Outside (after f (Locked q w k) (s f _ here) next old) }
  keeps m i t s (return f a here next) = record { thread = _; threads = refl; has = idle }
  keeps m i t s (fault f n here next) = record { thread = _; threads = refl; has = stopped }

  kept_at : (m m' : Machine Activation) (i j : ℕ) (t u : Thread Activation) (a : Activation) (st : Stage) → AllHave m → slice_get m.threads i ≡ Some t → Keeps m i m'
      → slice_get m'.threads j ≡ Some u → u.core ≡ Running a st → Dec (i ≡ j) → Q a
  kept_at m m' i j t u a st s at h e here (yes q) =
      let R : ℕ → Type 0 = λ n. slice_get m'.threads n ≡ Some u in
      let e1 : slice_get m'.threads i ≡ Some u = subst R (sym q) e in
      let e2 : slice_get m'.threads i ≡ Some h.thread = rw h.threads (get_set_same m.threads i t h.thread at) in
      let same = same_Some h.thread u (sym e2 ∙ e1) in
      h.has a st (ap (λ (v : Thread Activation). v.core) same ∙ here)
  kept_at m m' i j t u a st s at h e here (no n) =
      s j u a st (sym (get_set_other m.threads i j h.thread n) ∙ (rw h.threads at e)) here

  after_step : (m : Machine Activation) (l : Label) (m' : Machine Activation) → AllHave m → Step p m l m' → AllHave m'
  after_step m (By i k) m' s x =
      λ j u a st e here. kept_at m m' i j x.0 u a st s x.1 (keeps m i x.0 (λ b su f. s i x.0 b su x.1 f) x.2) e here (ℕ_discrete i j)

  pub after_run : (m m' : Machine Activation) (ls : List Label) → AllHave m → Run p m ls m' → AllHave m'
  after_run m m' [] s x = subst AllHave (sym x) s
  after_run m m' (l ∷ ls) s x = after_run x.0 m' ls (after_step m l x.0 s x.1) x.2

  pub at_first : (memory : List ℕ) → AllHave (first_machine p memory)
  at_first memory i t a st e here = idle a st (sym (first_at_rest p.calls i t e) ∙ here)

-- a path leads to each running call's position
pub frames_stay_on_paths : (c : Client) → HasNoFault c → FramesStayOnPaths c
frames_stay_on_paths c sound ls m run =
    let p = program_of c in
    after_run p (IsOnPath c) (start_on_path c) (follow_paths c sound) (first_machine p (first_memory c.arrays)) m ls
    (at_first p (IsOnPath c) (start_on_path c) (follow_paths c sound) (first_memory c.arrays)) run

-- where an instruction stands at the position, a frame that can occur or stand just behind the end can occur
pub sound_inside : (c : Client) (k : CallKind) (a : Activation) → is_sound_or_past_end c k a ≡ true → a.frame.pc < length (instructions_of c a.procedure) → is_sound c k a ≡ true
sound_inside c k a e inside =
    let counts = are_within a.frame.taken (bounds_in c a.procedure) in
    let position = nat_le a.frame.pc (length (instructions_of c a.procedure)) in
    let first = and_parts (runs_procedure k a.procedure) (position && counts) e in
    let second = and_parts position counts first.1 in
    and_from (runs_procedure k a.procedure) (nat_lt a.frame.pc (length (instructions_of c a.procedure)) && counts) first.0
    (and_from (nat_lt a.frame.pc (length (instructions_of c a.procedure))) counts (lt-ltb a.frame.pc (length (instructions_of c a.procedure)) inside) second.1)
