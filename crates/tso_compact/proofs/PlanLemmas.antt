-- Threads and calls of a state, and which call may begin.
use Rattle.std.proofs.Common.{◌≡◌, ◌∙◌, ℕ, ◌<◌, ◌==◌, Bool, true, false, List, [], ◌∷◌, length, map, Option, Some, None, IfSome, slice_get, slice_index_or, refl, sym, ap, subst, arith}
use Rattle.std.proofs.lemmas.Grind.{common_steps}
use Rattle.std.proofs.lemmas.Option.{IfSome_then, get_or_from_slice_get, slice_get_within}
use Rattle.std.specs.Option.{option_and_then, option_map}
use Rattle.tso_compact.specs.Motions.{Fits, core_labels, labels_in, move_of}
use Rattle.tso_compact.specs.Plans.{motion_view, procedure_in, thread_in}
use Rattle.tso_compact.specs.declared.motion.Motion.{Motion}
use Rattle.tso_flow.specs.declared.location.ProcedureKind.{ProcedureKind}
use Rattle.tso_line.specs.declared.instruction.CallKind.{CallKind}
use Rattle.tso_machine.specs.Activations.{Activation}
use Rattle.tso_machine.specs.Machines.{entry_view}
use Rattle.tso_machine.specs.Programs.{program_of, prologue_number}
use Rattle.tso_model.specs.Programs.{Program}
use Rattle.tso_model.specs.Prologue.{is_thread_over, may_begin, next_call}
use Rattle.tso_model.specs.StepLabels.{labels_of, labels_of_core, labels_of_drain, labels_of_entry, labels_of_exec}
use Rattle.tso_model.specs.States.{Buffer, CompactCore, CompactThread, Executing, Halted, Resting, State as ModelState, begun_by}
use Rattle.tso_model.specs.Steps.{core_move, drain_move, move}
use Rattle.tso_prog.specs.Views.{call_view}
use Rattle.tso_prog.specs.declared.client.Client.{Client}
use Rattle.tso_state.proofs.ViewLemmas.{slice_get-threads_view}
use Rattle.tso_state.specs.Actors.{actor_of, thread_of}
use Rattle.tso_state.specs.Views.{core_view, running_procedure, state_of, thread_view}
use Rattle.tso_state.specs.declared.actor.Actor.{Actor}
use Rattle.tso_state.specs.declared.actor.Actor.TheVariants.{Drain, Exec}
use Rattle.tso_state.specs.declared.state.State.{State}
use Rattle.tso_state.specs.declared.state.Thread.{Thread}

-- another thread's calls wait for the prologue's
pub waits : (prologue : List CallKind) (n thread first : ℕ) (over : ℕ → Bool) (b : Bool) → (length prologue == 0) ≡ false → first ≡ n → (thread ≡ first → ⊥) → b ≡ over first
    → b ≡ may_begin (prologue_number prologue n) thread over
waits [] n thread first over b some is other e = cc
waits (k ∷ ks) n thread first over b some is other e = grind (arith, common_steps)

-- whether a thread that is there is over
pub over_there : (c : Client) (s : State) (i : ℕ) (t : Thread) (b : Bool) → Some t ≡ slice_get s.threads i
    → ((name : ProcedureKind) → b ≡ is_thread_over (program_of c) i (begun_by (state_of s) i) (Some (thread_view name t)))
    → b ≡ is_thread_over (program_of c) i (begun_by (state_of s) i) (slice_get (state_of s).threads i)
over_there c s i t b there over =
    let name = running_procedure (slice_index_or s.history i []) in
    over name ∙ ap (λ o. is_thread_over (program_of c) i (begun_by (state_of s) i) o) (ap (option_map (thread_view name)) there ∙ sym (slice_get-threads_view s.history s.threads i))

-- one that is not there is
pub over_nowhere : (c : Client) (s : State) (i : ℕ) → None ≡ slice_get s.threads i → true ≡ is_thread_over (program_of c) i (begun_by (state_of s) i) (slice_get (state_of s).threads i)
over_nowhere c s i nowhere =
    ap (λ o. is_thread_over (program_of c) i (begun_by (state_of s) i) o)
    (ap (option_map (thread_view (running_procedure (slice_index_or s.history i [])))) nowhere ∙ sym (slice_get-threads_view s.history s.threads i))

-- ---- what an actor does next

pub record IsPlan (c : Client) (s : State) (a : Actor) (r : Option Motion) : Type 0 where
  pub is : option_map (motion_view s (thread_of a)) r ≡ move (program_of c) (state_of s) (actor_of a)
  pub there : IfSome r (λ m. thread_of a < length s.threads)
  pub fits : IfSome r (Fits (thread_in s (thread_of a)))
  pub labels : IfSome r (λ m. labels_in s.memory (thread_of a) (thread_in s (thread_of a)) m ≡ labels_of (program_of c) (state_of s) (actor_of a))

pub thread_in-is : (s : State) (i : ℕ) (t : Thread) → Some t ≡ slice_get s.threads i → thread_in s i ≡ t
thread_in-is s i t there = get_or_from_slice_get s.threads i t _ (sym there)

pub thread_viewed : (s : State) (i : ℕ) (t : Thread) → Some t ≡ slice_get s.threads i → Some (thread_view (procedure_in s i) t) ≡ slice_get (state_of s).threads i
thread_viewed s i t there = ap (option_map (thread_view (procedure_in s i))) there ∙ sym (slice_get-threads_view s.history s.threads i)

any_there : (s : State) (i : ℕ) (t : Thread) (r : Option Motion) → Some t ≡ slice_get s.threads i → IfSome r (λ m. i < length s.threads)
any_there s i t None there = tt
any_there s i t (Some m) there = slice_get_within s.threads i t (sym there)

any_fits : (s : State) (i : ℕ) (t : Thread) (r : Option Motion) → Some t ≡ slice_get s.threads i → IfSome r (Fits t) → IfSome r (Fits (thread_in s i))
any_fits s i t r there fits = let Q : Thread → Type 0 = λ u. IfSome r (Fits u) in subst Q (sym (thread_in-is s i t there)) fits

core_labels-is : (p : Program Activation) (s : ModelState Activation) (i : ℕ) (b : Buffer) (core : CompactCore Activation)
    → core_labels p s.memory i (next_call p s i) b core ≡ labels_of_core p s i b core
core_labels-is p s i b Resting = refl
core_labels-is p s i b (Executing a) = refl
core_labels-is p s i b Halted = refl

-- what core_motion says of a result
pub record IsCoreMotion (c : Client) (name : ProcedureKind) (call : Option CallKind) (t : Thread) (r : Option Motion) : Type 0 where
  pub is : option_map (move_of name t) r ≡ core_move (program_of c) (option_map call_view call) (core_view name t.core) (map entry_view t.buffer)
  pub fits : IfSome r (Fits t)
  pub labels : (memory : List ℕ) (i : ℕ) → IfSome r (λ m. labels_in memory i t m ≡ core_labels (program_of c) memory i (option_map call_view call) (map entry_view t.buffer) (core_view name t.core))

exec_is : (c : Client) (s : State) (i : ℕ) (t : Thread) (call : Option CallKind) (r : Option Motion) → Some t ≡ slice_get s.threads i
    → option_map call_view call ≡ next_call (program_of c) (state_of s) i → IsCoreMotion c (procedure_in s i) call t r
    → option_map (motion_view s i) r ≡ move (program_of c) (state_of s) (actor_of (Exec i))
exec_is c s i t call r there begins m =
    let p = program_of c in
    let name = procedure_in s i in
    ap (λ u. option_map (move_of name u) r) (thread_in-is s i t there)
    ∙ m.is
    ∙ ap (λ k. core_move p k (core_view name t.core) (map entry_view t.buffer)) begins
    ∙ ap (λ o. option_and_then (λ (u : CompactThread Activation). core_move p (next_call p (state_of s) i) u.core u.buffer) o) (thread_viewed s i t there)

exec_labels : (c : Client) (s : State) (i : ℕ) (t : Thread) (call : Option CallKind) (r : Option Motion) → Some t ≡ slice_get s.threads i
    → option_map call_view call ≡ next_call (program_of c) (state_of s) i → IsCoreMotion c (procedure_in s i) call t r
    → IfSome r (λ m. labels_in s.memory i (thread_in s i) m ≡ labels_of (program_of c) (state_of s) (actor_of (Exec i)))
exec_labels c s i t call r there begins m =
    let p = program_of c in
    let name = procedure_in s i in
    IfSome_then r (m.labels s.memory i) (λ n e.
    ap (λ u. labels_in s.memory i u n) (thread_in-is s i t there)
    ∙ e
    ∙ ap (λ k. core_labels p s.memory i k (map entry_view t.buffer) (core_view name t.core)) begins
    ∙ core_labels-is p (state_of s) i (map entry_view t.buffer) (core_view name t.core)
    ∙ ap (λ o. labels_of_exec p (state_of s) i o) (thread_viewed s i t there))

exec_at : (c : Client) (s : State) (i : ℕ) (t : Thread) (call : Option CallKind) (r : Option Motion) → Some t ≡ slice_get s.threads i
    → option_map call_view call ≡ next_call (program_of c) (state_of s) i → IsCoreMotion c (procedure_in s i) call t r → IsPlan c s (Exec i) r
exec_at c s i t call r there begins m = record {
  is = exec_is c s i t call r there begins m;
  there = any_there s i t r there;
  fits = any_fits s i t r there m.fits;
  labels = exec_labels c s i t call r there begins m;
}

pub exec_plan : (c : Client) (s : State) (a : Actor) (x i : ℕ) (t : Thread) (name : ProcedureKind) (call : Option CallKind) (r : Option Motion)
    → a ≡ Exec x → i ≡ thread_of a → Some t ≡ slice_get s.threads i → name ≡ procedure_in s i
    → option_map call_view call ≡ next_call (program_of c) (state_of s) i → IsCoreMotion c name call t r → IsPlan c s a r
exec_plan c s a x i t name call r is number there named begins m =
    let Q : Actor → Type 0 = λ b. IsPlan c s b r in
    let R : ProcedureKind → Type 0 = λ n. IsCoreMotion c n call t r in
    subst Q (ap Exec (number ∙ ap thread_of is) ∙ sym is) (exec_at c s i t call r there begins (subst R named m))

-- what drain_motion says of a result
pub record IsDrainMotion (t : Thread) (r : Option Motion) : Type 0 where
  pub is : (name : ProcedureKind) → option_map (move_of name t) r ≡ drain_move (core_view name t.core) (map entry_view t.buffer)
  pub fits : IfSome r (Fits t)
  pub labels : (memory : List ℕ) (i : ℕ) → IfSome r (λ m. labels_in memory i t m ≡ labels_of_entry i (map entry_view t.buffer))

drain_at : (c : Client) (s : State) (i : ℕ) (t : Thread) (r : Option Motion) → Some t ≡ slice_get s.threads i → IsDrainMotion t r → IsPlan c s (Drain i) r
drain_at c s i t r there m = record {
  is =
      ap (λ u. option_map (move_of (procedure_in s i) u) r) (thread_in-is s i t there)
      ∙ m.is (procedure_in s i)
      ∙ ap (λ o. option_and_then (λ (u : CompactThread Activation). drain_move u.core u.buffer) o) (thread_viewed s i t there);
  there = any_there s i t r there;
  fits = any_fits s i t r there m.fits;
  labels = IfSome_then r (m.labels s.memory i) (λ n e.
      ap (λ u. labels_in s.memory i u n) (thread_in-is s i t there) ∙ e ∙ ap (λ o. labels_of_drain i o) (thread_viewed s i t there));
}

pub drain_plan : (c : Client) (s : State) (a : Actor) (x i : ℕ) (t : Thread) (r : Option Motion)
    → a ≡ Drain x → i ≡ thread_of a → Some t ≡ slice_get s.threads i → IsDrainMotion t r → IsPlan c s a r
drain_plan c s a x i t r is number there m =
    let Q : Actor → Type 0 = λ b. IsPlan c s b r in
    subst Q (ap Drain (number ∙ ap thread_of is) ∙ sym is) (drain_at c s i t r there m)

pub no_move_at : (c : Client) (s : State) (a : Actor) → slice_get (state_of s).threads (thread_of a) ≡ None → None ≡ move (program_of c) (state_of s) (actor_of a)
no_move_at c s (Exec i) none = ap (λ o. option_and_then (λ (u : CompactThread Activation). core_move (program_of c) (next_call (program_of c) (state_of s) i) u.core u.buffer) o) (sym none)
no_move_at c s (Drain i) none = ap (λ o. option_and_then (λ (u : CompactThread Activation). drain_move u.core u.buffer) o) (sym none)

-- a thread that is not there does nothing
pub no_plan : (c : Client) (s : State) (a : Actor) (i : ℕ) (r : Option Motion) → i ≡ thread_of a → None ≡ slice_get s.threads i → r ≡ None
    → option_map (motion_view s (thread_of a)) r ≡ move (program_of c) (state_of s) (actor_of a)
no_plan c s a i r number nowhere none =
    let there : slice_get (state_of s).threads (thread_of a) ≡ None =
    slice_get-threads_view s.history s.threads (thread_of a) ∙ ap (option_map (thread_view (procedure_in s (thread_of a)))) (ap (λ k. slice_get s.threads k) (sym number) ∙ sym nowhere) in
    ap (option_map (motion_view s (thread_of a))) none ∙ no_move_at c s a there
