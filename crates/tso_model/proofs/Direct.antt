-- The step as one would write it down is the step by moves.
use Rattle.std.proofs.Common.{◌≡◌, ℕ, [], ◌∷◌, Option, Some, None, refl}
use Rattle.std.specs.List.{slice_get}
use Rattle.std.specs.Option.{option_map, option_and_then}
use Rattle.tso_model.specs.Direct.{DirectIsStep, run_action, run_call, run_core, run_drain}
use Rattle.tso_model.specs.Programs.{Action, Barrier, CallKind, Cut, Fail, Load, Locked, Program, Ret, Silent, Store}
use Rattle.tso_model.specs.Prologue.{next_call}
use Rattle.tso_model.specs.States.{Buffer, CompactCore, Resting, Executing, State, Halted, CompactThread}
use Rattle.tso_model.specs.Steps.{Drains, Exec, action_move, call_move, core_move, drain_move, perform}

module _ {F : Type 0} (p : Program F) (s : State F) (i : ℕ) where
  same_action : (b : Buffer) (act : Action F) → run_action s i b act ≡ option_map (perform s i) (action_move b act)
  same_action b (Silent g) = refl
  same_action b (Load place k) = refl
  same_action b (Store place word g) = refl
  same_action [] (Barrier g) = refl
  same_action (e ∷ b) (Barrier g) = refl
  same_action [] (Locked place new k) = refl
  same_action (e ∷ b) (Locked place new k) = refl
  same_action b (Ret a) = refl
  same_action b (Fail n) = refl
  same_action b Cut = refl

  same_call : (b : Buffer) (o : Option CallKind) → run_call p s i b o ≡ option_map (perform s i) (call_move p b o)
  same_call b None = refl
  same_call b (Some k) = refl

  same_core : (b : Buffer) (c : CompactCore F) → run_core p s i b c ≡ option_map (perform s i) (core_move p (next_call p s i) c b)
  same_core b Resting = same_call b (next_call p s i)
  same_core b Halted = refl
  same_core b (Executing f) = same_action b (p.next f)

  same_drain : (c : CompactCore F) (b : Buffer) → run_drain s i c b ≡ option_map (perform s i) (drain_move c b)
  same_drain c [] = refl
  same_drain c (e ∷ rest) = refl

  same_exec : (o : Option (CompactThread F)) → option_and_then (λ t. run_core p s i t.buffer t.core) o ≡ option_map (perform s i) (option_and_then (λ t. core_move p (next_call p s i) t.core t.buffer) o)
  same_exec None = refl
  same_exec (Some t) = same_core t.buffer t.core

  same_drains : (o : Option (CompactThread F)) → option_and_then (λ t. run_drain s i t.core t.buffer) o ≡ option_map (perform s i) (option_and_then (λ t. drain_move t.core t.buffer) o)
  same_drains None = refl
  same_drains (Some t) = same_drain t.core t.buffer

pub direct_is_step : (F : Type 0) → DirectIsStep F
direct_is_step F p s (Exec i) = same_exec p s i (slice_get s.threads i)
direct_is_step F p s (Drains i) = same_drains p s i (slice_get s.threads i)
