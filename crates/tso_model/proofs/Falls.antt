-- Each label lowers the measure, so every run goes on to an ended one.
use Rattle.std.proofs.Common.{◌≡◌, ℕ, zero, suc, ◌+◌, List, [], ◌∷◌, ◌++◌, map, length, slice_get, slice_set, get_or, Bool, refl, sym, ap, subst, ◌∙◌, arith, length-append, Some, inl, inr}
use Rattle.std.proofs.lemmas.Option.{none-some, same_Some}
use Rattle.std.proofs.Common.{◌<◌, ◌≤◌, ◌*◌, ◌⊎◌, drop}
use Rattle.std.proofs.Math.Decide.{ℕ_discrete}
use Rattle.tso_model.specs.Labels.{Running, Idle, By, Ended, Stopped, HasLock, HasRead, HasWritten, Kind, Label, Core, Thread, Machine, Outside, Rule, Run, Stage, Step, call, drain, fault, fence, first_machine, lock, read, read_locked, reg, return, unlock, write, write_locked}
use Rattle.tso_model.specs.Measure.{AllSound, IsRanked, IsSound, calls_cost, labels_left, step_limit, thread_cost, threads_cost}
use Rattle.tso_model.specs.Programs.{CallKind, Program, calls_of}
use Rattle.tso_model.specs.Bounds.{RunsAreBounded, RunsAreShort, RunsEnd}
use Rattle.tso_model.specs.States.{word_seen}
use Rattle.tso_model.proofs.Begin.{next_in_calls}
use Rattle.tso_model.proofs.Offered.{decide}
use Rattle.tso_model.proofs.Places.{get_set_other, get_set_same}
use Rattle.tso_model.proofs.WellFormed.{free}

length_more : (b : List (ℕ × ℕ)) (x : ℕ × ℕ) → length (b ++ x ∷ []) ≡ suc (length b)
length_more b x = omega (arith, length-append b (x ∷ []))

module _ {F : Type 0} where
  calls_drop : (P : Program F) (rank : F → ℕ) (ks : List CallKind) (b : ℕ) (k : CallKind) → slice_get ks b ≡ Some k
      → calls_cost P rank (drop b ks) ≡ (5 * rank (P.start k) + 1) + calls_cost P rank (drop (suc b) ks)
  calls_drop P rank [] b k e = absurd (none-some k e)
  calls_drop P rank (x ∷ ks) zero k e = rw (same_Some x k e) refl
  calls_drop P rank (x ∷ ks) (suc b) k e = calls_drop P rank ks b k e

  cost_set : (P : Program F) (rank : F → ℕ) (kss : List (List CallKind)) (ts : List (Thread F)) (i : ℕ) (t u : Thread F) → slice_get ts i ≡ Some t
      → threads_cost P rank kss (slice_set ts i u) + thread_cost P rank (get_or kss i []) t ≡ threads_cost P rank kss ts + thread_cost P rank (get_or kss i []) u
  cost_set P rank kss [] i t u e = absurd (none-some t e)
  cost_set P rank [] (z ∷ ts) zero t u e = rw (same_Some z t e) (omega arith)
  cost_set P rank (ks ∷ kss) (z ∷ ts) zero t u e = rw (same_Some z t e) (omega arith)
  cost_set P rank [] (z ∷ ts) (suc i) t u e = let h = cost_set P rank [] ts i t u e in omega (arith, h)
  cost_set P rank (ks ∷ kss) (z ∷ ts) (suc i) t u e = let h = cost_set P rank kss ts i t u e in omega (arith, h)

  abbrev CoreSound : (CallKind → F → Bool) → Core F → Type 0
  CoreSound sound core = (f : F) (st : Stage) → core ≡ Running f st → IsSound sound f

  sound_at : (sound : CallKind → F → Bool) (g : F) (su : Stage) → IsSound sound g → CoreSound sound (Running g su)
  sound_at sound g su s f st e = let q : g ≡ f = cc in rw (← q) s

  sound_rest : (sound : CallKind → F → Bool) → CoreSound sound Idle
  sound_rest sound f st e = cc

  sound_halted : (sound : CallKind → F → Bool) → CoreSound sound Stopped
  sound_halted sound f st e = cc

  -- the threads after a label, and that its thread costs less
  record Lower (P : Program F) (sound : CallKind → F → Bool) (rank : F → ℕ) (m : Machine F) (i : ℕ) (t : Thread F) (m' : Machine F) : Type 0 where
    thread : Thread F
    threads : m'.threads ≡ slice_set m.threads i thread
    less : thread_cost P rank (calls_of P i) thread < thread_cost P rank (calls_of P i) t
    kept : CoreSound sound thread.core

  lower : (P : Program F) (size : ℕ) (sound : CallKind → F → Bool) (rank : F → ℕ) → IsRanked P size sound rank → (m : Machine F) (i : ℕ) (t : Thread F) → CoreSound sound t.core
      → {k : Kind} {m' : Machine F} → Rule P m i t k m' → Lower P sound rank m i t m'
  lower P size sound rank r m i t s (call k idle found) =
      let there : slice_get (calls_of P i) t.begun ≡ Some k = next_in_calls P m i t.begun k found in
      record { thread = _; threads = refl; less = rw (idle, calls_drop P rank (calls_of P i) t.begun k there) (omega arith); kept = sound_at sound (P.start k) Outside (k, r.starts i t.begun k there) }
  lower P size sound rank r m i t s (reg f g running next) =
      let y = s f Outside running in let x = r.silent y.0 f g y.1 next in record { thread = _; threads = refl; less = rw running (omega (arith, x.1)); kept = sound_at sound g Outside (y.0, x.0) }
  lower P size sound rank r m i t s (read f p k running next free) =
      let y = s f Outside running in let x = r.load y.0 f p k (word_seen t.buffer m.memory p) y.1 next in record { thread = _; threads = refl; less = rw running (omega (arith, x.1)); kept = sound_at sound _ Outside (y.0, x.0) }
  lower P size sound rank r m i t s (write f p v g running next) =
      let y = s f Outside running in let x = r.store y.0 f p v g y.1 next in record { thread = _; threads = refl; less = rw (running, length_more t.buffer (p, v)) (omega (arith, x.1)); kept = sound_at sound g Outside (y.0, x.0) }
  lower P size sound rank r m i t s (drain p v rest entry free) =
      record { thread = _; threads = refl; less = rw entry (omega arith); kept = s }
  lower P size sound rank r m i t s (fence f g running next empty) =
      let y = s f Outside running in let x = r.barrier y.0 f g y.1 next in record { thread = _; threads = refl; less = rw running (omega (arith, x.1)); kept = sound_at sound g Outside (y.0, x.0) }
  lower P size sound rank r m i t s (lock f p w k running next free empty) =
      let y = s f Outside running in let x = r.locked y.0 f p w k 0 y.1 next in record { thread = _; threads = refl; less = rw running (omega (arith, x.1)); kept = sound_at sound f HasLock (s f Outside running) }
  lower P size sound rank r m i t s (read_locked f p w k running next free) =
      let y = s f HasLock running in let x = r.locked y.0 f p w k 0 y.1 next in record { thread = _; threads = refl; less = rw running (omega (arith, x.1)); kept = sound_at sound f _ (s f HasLock running) }
  lower P size sound rank r m i t s (write_locked f p w k old running next) =
      let y = s f (HasRead old) running in let x = r.locked y.0 f p w k 0 y.1 next in
      record { thread = _; threads = refl; less = rw (running, length_more t.buffer (p, w old)) (omega (arith, x.1)); kept = sound_at sound f _ (s f (HasRead old) running) }
  lower P size sound rank r m i t s (unlock f p w k old running next held empty) =
      let y = s f (HasWritten old) running in let x = r.locked y.0 f p w k old y.1 next in record { thread = _; threads = refl; less = rw running (omega (arith, x.1)); kept = sound_at sound _ Outside (y.0, x.0) }
  lower P size sound rank r m i t s (return f a running next) =
      let y = s f Outside running in let x = r.ret y.0 f a y.1 next in record { thread = _; threads = refl; less = rw running (omega (arith, x.1)); kept = sound_rest sound }
  lower P size sound rank r m i t s (fault f n running next) =
      let y = s f Outside running in let x = r.fail y.0 f n y.1 next in record { thread = _; threads = refl; less = rw running (omega (arith, x)); kept = sound_halted sound }

  lower_step : (P : Program F) (size : ℕ) (sound : CallKind → F → Bool) (rank : F → ℕ) → IsRanked P size sound rank → (m : Machine F) (i : ℕ) (k : Kind) (m' : Machine F) → AllSound sound m
      → (x : Step P m (By i k) m') → Lower P sound rank m i x.0 m'
  lower_step P size sound rank r m i k m' s x = lower P size sound rank r m i x.0 (λ f st e. s i x.0 f st x.1 e) x.2

  pub falls : (P : Program F) (size : ℕ) (sound : CallKind → F → Bool) (rank : F → ℕ) → IsRanked P size sound rank → (m : Machine F) (l : Label) (m' : Machine F) → AllSound sound m → Step P m l m' → labels_left P rank m' < labels_left P rank m
  falls P size sound rank r m (By i k) m' s x =
      let h = lower_step P size sound rank r m i k m' s x in
      let e = cost_set P rank P.calls m.threads i x.0 h.thread x.1 in
      rw h.threads (omega (arith, e, h.less))

  kept_at : (P : Program F) (sound : CallKind → F → Bool) (rank : F → ℕ) (m m' : Machine F) (i j : ℕ) (t u : Thread F) (f : F) (st : Stage) → AllSound sound m → slice_get m.threads i ≡ Some t → Lower P sound rank m i t m'
      → slice_get m'.threads j ≡ Some u → u.core ≡ Running f st → Dec (i ≡ j) → IsSound sound f
  kept_at P sound rank m m' i j t u f st s at h e running (yes q) =
      let Q : ℕ → Type 0 = λ n. slice_get m'.threads n ≡ Some u in
      let e1 : slice_get m'.threads i ≡ Some u = subst Q (sym q) e in
      let e2 : slice_get m'.threads i ≡ Some h.thread = rw h.threads (get_set_same m.threads i t h.thread at) in
      let same = same_Some h.thread u (sym e2 ∙ e1) in
      h.kept f st (ap (λ (v : Thread F). v.core) same ∙ running)
  kept_at P sound rank m m' i j t u f st s at h e running (no n) =
      s j u f st (sym (get_set_other m.threads i j h.thread n) ∙ (rw h.threads at e)) running

  pub sound_step : (P : Program F) (size : ℕ) (sound : CallKind → F → Bool) (rank : F → ℕ) → IsRanked P size sound rank → (m : Machine F) (l : Label) (m' : Machine F) → AllSound sound m → Step P m l m' → AllSound sound m'
  sound_step P size sound rank r m (By i k) m' s x =
      λ j u f st e running. kept_at P sound rank m m' i j x.0 u f st s x.1 (lower_step P size sound rank r m i k m' s x) e running (ℕ_discrete i j)

  pub sound_run : (P : Program F) (size : ℕ) (sound : CallKind → F → Bool) (rank : F → ℕ) → IsRanked P size sound rank → (m m' : Machine F) (ls : List Label) → AllSound sound m → Run P m ls m' → AllSound sound m'
  sound_run P size sound rank r m m' [] s x = subst (AllSound sound) (sym x) s
  sound_run P size sound rank r m m' (l ∷ ls) s x = sound_run P size sound rank r x.0 m' ls (sound_step P size sound rank r m l x.0 s x.1) x.2

  ending : (P : Program F) (size : ℕ) (sound : CallKind → F → Bool) (rank : F → ℕ) → IsRanked P size sound rank → (n : ℕ) (m : Machine F) → AllSound sound m → labels_left P rank m ≤ n
      → Ended P m ⊎ ((l : Label) × (m' : Machine F) × Step P m l m') → (ls : List Label) × (end : Machine F) × Run P m ls end × Ended P end
  ending P size sound rank r n m s le (inl e) = ([], m, refl, e)
  ending P size sound rank r zero m s le (inr x) = let h = falls P size sound rank r m x.0 x.1 s x.2 in absurd (omega (arith, h))
  ending P size sound rank r (suc n) m s le (inr x) =
      let h = falls P size sound rank r m x.0 x.1 s x.2 in
      let less : labels_left P rank x.1 ≤ n = omega (arith, h) in
      let y = ending P size sound rank r n x.1 (sound_step P size sound rank r m x.0 x.1 s x.2) less (decide P x.1) in
      (x.0 ∷ y.0, y.1, (x.1, x.2, y.2), y.3)

  pub runs_end : RunsEnd F
  runs_end P size sound rank r m s = ending P size sound rank r (labels_left P rank m) m s (omega arith) (decide P m)

  pub runs_are_bounded : RunsAreBounded F
  runs_are_bounded P size sound rank r m m' [] s x = omega arith
  runs_are_bounded P size sound rank r m m' (l ∷ ls) s x =
      let h = falls P size sound rank r m l x.0 s x.1 in
      let y = runs_are_bounded P size sound rank r x.0 m' ls (sound_step P size sound rank r m l x.0 s x.1) x.2 in
      omega (arith, h, y)

  pub first_at_rest : (kss : List (List CallKind)) (i : ℕ) (t : Thread F) → slice_get (map (λ ks. record { begun = 0; core = Idle; buffer = [] }) kss) i ≡ Some t → t.core ≡ Idle
  first_at_rest [] i t e = absurd (none-some t e)
  first_at_rest (k ∷ kss) zero t e = ap (λ (u : Thread F). u.core) (sym (same_Some _ t e))
  first_at_rest (k ∷ kss) (suc i) t e = first_at_rest kss i t e

  pub first_sound : (P : Program F) (sound : CallKind → F → Bool) (memory : List ℕ) → AllSound sound (first_machine P memory)
  first_sound P sound memory i t f st e running = sound_rest sound f st (sym (first_at_rest P.calls i t e) ∙ running)

  first_cost : (P : Program F) (rank : F → ℕ) (kss : List (List CallKind)) → threads_cost P rank kss (map (λ ks. record { begun = 0; core = Idle; buffer = [] }) kss) ≡ step_limit P rank kss
  first_cost P rank [] = refl
  first_cost P rank (ks ∷ kss) = omega (arith, first_cost P rank kss)

  pub runs_are_short : RunsAreShort F
  runs_are_short P size sound rank r memory ls m x =
      let h = runs_are_bounded P size sound rank r (first_machine P memory) m ls (first_sound P sound memory) x in
      omega (arith, h, first_cost P rank P.calls)
