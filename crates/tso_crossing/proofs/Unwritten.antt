-- States at which no other thread writes what a thread's openings may read.
use Rattle.std.proofs.Common.{◌≡◌, ◌≢◌, ℕ, List, [], ◌∷◌, Some, length, Bool, true, refl, subst}
use Rattle.std.specs.List.{slice_get}
use Rattle.tso_model.specs.Accesses.{Writes}
use Rattle.tso_model.specs.Measure.{IsRanked}
use Rattle.tso_model.specs.Programs.{CallKind, Program}
use Rattle.tso_model.specs.Reasons.{Future, IsFuture}
use Rattle.tso_model.specs.Reduce.{Steps}
use Rattle.tso_model.specs.States.{CompactThread, State}
use Rattle.tso_model.specs.Steps.{Actor, Move, move, step, thread_of}
use Rattle.tso_model.specs.Table.{table_future}
use Rattle.tso_model.specs.WellFormed.{IsWellFormed, Within}
use Rattle.tso_model.proofs.Reduce.{steps_append}
use Rattle.tso_model.proofs.Theorems.{steps_stay_well_formed, tables_hold_futures}
use Rattle.tso_crossing.specs.Moves.{Extent}
use Rattle.tso_crossing.specs.Own.{ApartIsOwn, AreOwn, IsApart, ReadsNone}

-- at these states, which steps do not leave, no step of another thread than j writes a place that j's openings may read, but for the
-- prologue's; and a thread that may read some has in its buffer only places of the memory
pub record IsUnwritten {F : Type 0} (p : Program F) (n : Extent) (W : State F → Type 0) : Type 0 where
  pub stays : (s s' : State F) (a : Actor) → W s → step p s a ≡ Some s' → W s'
  pub in_range : (s : State F) (j q : ℕ) (t : CompactThread F) → W s → n.own j q ≡ true → slice_get s.threads j ≡ Some t → Within (length s.memory) t.buffer
  pub unwritten : (s : State F) (a : Actor) (m : Move F) (j q : ℕ) → W s → move p s a ≡ Some m → thread_of a ≢ j → (p.prologue ≡ Some (thread_of a) → ⊥) → n.own j q ≡ true → Writes m.access q → ⊥

module _ {F : Type 0} (p : Program F) (n : Extent) where
  -- where no opening reads, these are all states
  pub none_read : ReadsNone n → IsUnwritten p n (λ s. Unit {0})
  none_read none = record { stays = λ s s' a w e. tt; in_range = λ s j q t w o at. absurd (none j q o); unwritten = λ s a m j q w e ne pro o x. none j q o }

  -- what is reached from s
  abbrev pub Reached : State F → State F → Type 0
  Reached s x = (steps : List Actor) × Steps (step p) s steps x

  one_more : (s x y : State F) (a : Actor) → Reached s x → step p x a ≡ Some y → Reached s y
  one_more s x y a (steps, r) e = (_, steps_append (step p) steps (a ∷ []) s x y r (y, e, refl))

module _ {F : Type 0} (p : Program F) (n : Extent) (size : ℕ) (sound : CallKind → F → Bool) (rank : F → ℕ) (r : IsRanked p size sound rank) where
  buffers_within : (x : State F) (j : ℕ) (t : CompactThread F) → IsWellFormed p size sound x → slice_get x.threads j ≡ Some t → Within (length x.memory) t.buffer
  buffers_within x j t w at = rw w.memory (w.buffers j t at)

  -- where no run from s has such a step
  pub reached_unwritten : (s : State F) → AreOwn p n s → IsUnwritten p n (λ x. IsWellFormed p size sound x × Reached p n s x)
  reached_unwritten s own = record {
    stays = λ x y a w e. (steps_stay_well_formed F p size sound rank r x y a w.0 e, one_more p n s x y a w.1 e);
    in_range = λ x j q t w o at. buffers_within x j t w.0 at;
    unwritten = λ x a m j q w e ne pro o writes. own w.1.0 x a m j q w.1.1 e ne pro o writes;
  }

  -- where no thread's future has one
  pub apart_unwritten : (f : Future F) → IsFuture p (IsWellFormed p size sound) f → IsUnwritten p n (λ x. IsWellFormed p size sound x × IsApart p n f x)
  apart_unwritten f laws = record {
    stays = λ x y a w e. (steps_stay_well_formed F p size sound rank r x y a w.0 e, λ i j q ne pro o h. w.1 i j q ne pro o (laws.writes_shrink x y a i q w.0 e h));
    in_range = λ x j q t w o at. buffers_within x j t w.0 at;
    unwritten = λ x a m j q w e ne pro o writes. w.1 (thread_of a) j q ne pro o (laws.writes_now x a m q w.0 e writes);
  }

  apart_own : (f : Future F) → IsFuture p (IsWellFormed p size sound) f → (steps : List Actor) (s x : State F) → IsWellFormed p size sound s → IsApart p n f s → Steps (step p) s steps x → IsWellFormed p size sound x × IsApart p n f x
  apart_own f laws [] s x w apart e = subst (λ y. IsWellFormed p size sound y × IsApart p n f y) e (w, apart)
  apart_own f laws (a ∷ rest) s x w apart (y, e, run) =
      let next = (apart_unwritten f laws).stays s y a (w, apart) e in
      apart_own f laws rest y x next.0 next.1 run

pub apart_is_own : (F : Type 0) → ApartIsOwn F
apart_is_own F p n size sound rank t r closed s w apart steps x a m j q run e ne pro o writes =
    let f = table_future p t in
    let laws = tables_hold_futures F p size sound t closed in
    (apart_unwritten p n size sound rank r f laws).unwritten x a m j q (apart_own p n size sound rank r f laws steps s x w apart run) e ne pro o writes
