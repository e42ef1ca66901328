-- Moves written out by steps.
use Rattle.std.proofs.Common.{◌≡◌, ◌≢◌, ℕ, [], ◌∷◌, Option, Some, None, refl, sym, ◌∙◌, ap}
use Rattle.std.specs.List.{slice_get}
use Rattle.std.specs.Option.{option_map, option_and_then}
use Rattle.tso_model.specs.Programs.{Action, Barrier, CallKind, Cut, Fail, Load, Locked, Program, Ret, Silent, Store}
use Rattle.tso_model.specs.Prologue.{next_call}
use Rattle.tso_model.specs.States.{Buffer, CompactThread, Executing, Resting, State}
use Rattle.tso_model.specs.Steps.{Exec, Move, action_move, drain_move, move, perform, step}
use Rattle.tso_model.proofs.Places.{get_set_same}
use Rattle.tso_crossing.specs.Direct.{IsWrittenOut, MovesAreWrittenOut, opened_state}
use Rattle.tso_crossing.specs.Moves.{Extent, call_parts, late_move, one_part, opened_call, opening, parts, perform_all}

module _ {F : Type 0} (s : State F) (i : ℕ) where
  one_alone : (o : Option (Move F)) → option_map (perform_all s i) (option_map one_part o) ≡ option_map (perform s i) o
  one_alone None = refl
  one_alone (Some m) = refl

  two_parts : (x : Move F) (o : Option (Move F)) → option_map (perform_all s i) (option_map (λ m. x ∷ m ∷ []) o) ≡ option_map (perform (perform s i x) i) o
  two_parts x None = refl
  two_parts x (Some m) = refl

  of_call : (b : Buffer) (k : CallKind) (f : F) (act : Action F) → act ≢ Cut → option_map (perform_all s i) (call_parts b k f act) ≡ option_map (perform (perform s i (opening b k f)) i) (action_move b act)
  of_call b k f (Silent g) n = two_parts (opening b k f) (action_move b (Silent g))
  of_call b k f (Load q l) n = two_parts (opening b k f) (action_move b (Load q l))
  of_call b k f (Store q v g) n = two_parts (opening b k f) (action_move b (Store q v g))
  of_call b k f (Barrier g) n = two_parts (opening b k f) (action_move b (Barrier g))
  of_call b k f (Locked q new l) n = two_parts (opening b k f) (action_move b (Locked q new l))
  of_call b k f (Ret a) n = two_parts (opening b k f) (action_move b (Ret a))
  of_call b k f (Fail x) n = two_parts (opening b k f) (action_move b (Fail x))
  of_call b k f Cut n = absurd (n refl)

module _ {F : Type 0} (p : Program F) (n : Extent) (s : State F) (i : ℕ) where
  draining : (o : Option (CompactThread F)) → option_map (perform_all s i) (option_and_then (λ t. option_map one_part (drain_move t.core t.buffer)) o) ≡ option_map (perform s i) (option_and_then (λ t. drain_move t.core t.buffer) o)
  draining None = refl
  draining (Some t) = one_alone s i (drain_move t.core t.buffer)

  beginning : (b : Buffer) (k : CallKind) → slice_get s.threads i ≡ Some (record { core = Resting; buffer = b }) → next_call p s i ≡ Some k → p.next (opened_call p n i s.memory b k) ≢ Cut → late_move p n s (Exec i) ≡ step p (opened_state p n s i b k) (Exec i)
  beginning b k at may ne =
      let f : F = opened_call p n i s.memory b k in
      let there : slice_get (opened_state p n s i b k).threads i ≡ Some (record { core = Executing f; buffer = b }) = get_set_same s.threads i _ _ at in
      let mine : parts p n s (Exec i) ≡ call_parts b k f (p.next f) = rw (at, may) refl in
      let theirs : move p (opened_state p n s i b k) (Exec i) ≡ action_move b (p.next f) = rw there refl in
      ap (option_map (perform_all s i)) mine ∙ (of_call s i b k f (p.next f) ne ∙ sym (ap (option_map (perform (opened_state p n s i b k) i)) theirs))

  written_out : IsWrittenOut p n s i
  written_out = record {
    drains = draining (slice_get s.threads i);
    runs = λ f b at. rw at (one_alone s i (action_move b (p.next f)));
    stopped = λ b at. rw at refl;
    waits = λ b at none. rw (at, none) refl;
    cut = λ b k at may is. rw (at, may, is) refl;
    begins = beginning;
  }

pub moves_are_written_out : (F : Type 0) → MovesAreWrittenOut F
moves_are_written_out F p n s i = written_out p n s i
