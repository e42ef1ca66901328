-- Moves written out by steps.
use Rattle.std.specs.Prelude.{◌≡◌, ◌≢◌, ℕ, Some, None, slice_get}
use Rattle.tso_model.specs.Programs.{CallKind, Cut, Program}
use Rattle.tso_model.specs.Prologue.{next_call}
use Rattle.tso_model.specs.States.{Buffer, Executing, Halted, Resting, State}
use Rattle.tso_model.specs.Steps.{Drains, Exec, perform, step}
use Rattle.tso_crossing.specs.Moves.{Extent, late_move, opened_call, opening}

-- the state in which thread i, idle with this buffer, has begun this call and gone through its opening
abbrev pub opened_state : {F : Type 0} → Program F → Extent → State F → ℕ → Buffer → CallKind → State F
opened_state p n s i b k = perform s i (opening b k (opened_call p n i s.memory b k))

-- a drain is a step, and so is what a running thread does; an idle thread has no move where it may begin no call, and else its opening
-- and the step that follows, or the opening alone where it is cut
pub record IsWrittenOut {F : Type 0} (p : Program F) (n : Extent) (s : State F) (i : ℕ) : Type 0 where
  pub drains : late_move p n s (Drains i) ≡ step p s (Drains i)
  pub runs : (f : F) (b : Buffer) → slice_get s.threads i ≡ Some (record { core = Executing f; buffer = b }) → late_move p n s (Exec i) ≡ step p s (Exec i)
  pub stopped : (b : Buffer) → slice_get s.threads i ≡ Some (record { core = Halted; buffer = b }) → late_move p n s (Exec i) ≡ None
  pub waits : (b : Buffer) → slice_get s.threads i ≡ Some (record { core = Resting; buffer = b }) → next_call p s i ≡ None → late_move p n s (Exec i) ≡ None
  pub cut : (b : Buffer) (k : CallKind) → slice_get s.threads i ≡ Some (record { core = Resting; buffer = b }) → next_call p s i ≡ Some k
      → p.next (opened_call p n i s.memory b k) ≡ Cut → late_move p n s (Exec i) ≡ Some (opened_state p n s i b k)
  pub begins : (b : Buffer) (k : CallKind) → slice_get s.threads i ≡ Some (record { core = Resting; buffer = b }) → next_call p s i ≡ Some k
      → p.next (opened_call p n i s.memory b k) ≢ Cut → late_move p n s (Exec i) ≡ step p (opened_state p n s i b k) (Exec i)

abbrev pub MovesAreWrittenOut : Type 0 → Type 0
MovesAreWrittenOut F = (p : Program F) (n : Extent) (s : State F) (i : ℕ) → IsWrittenOut p n s i
