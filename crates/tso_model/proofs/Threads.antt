-- The machine's threads, of the history and the compact state's threads.
use Rattle.std.proofs.Common.{◌≡◌, ℕ, zero, suc, List, [], ◌∷◌, slice_get, slice_set, refl, sym, ◌∙◌, ap, arith, Some}
use Rattle.std.proofs.lemmas.Option.{none-some, same_Some}
use Rattle.std.proofs.lemmas.Option.{slice_get_within, slice_get-get_or}
use Rattle.tso_model.specs.Labels.{Running, Idle, Stopped, Thread, Outside, Stage, core_of, thread_view, thread_views}
use Rattle.tso_model.specs.Relation.{IsShaped}
use Rattle.tso_model.specs.States.{Called, CompactCore, Resting, Executing, State, Halted, CompactThread, calls_in}
use Rattle.tso_model.proofs.Places.{set_here}

module _ {F : Type 0} where
  pub core_running : (o : CompactCore F) (f : F) (st : Stage) → core_of o ≡ Running f st → (o ≡ Executing f) × (st ≡ Outside)
  core_running Resting f st e = cc
  core_running (Executing g) f st e = (cc, cc)
  core_running Halted f st e = cc

  pub core_rest : (o : CompactCore F) → core_of o ≡ Idle → o ≡ Resting
  core_rest Resting e = refl
  core_rest (Executing g) e = cc
  core_rest Halted e = cc

  pub core_halted : (o : CompactCore F) → core_of o ≡ Stopped → o ≡ Halted
  core_halted Resting e = cc
  core_halted (Executing g) e = cc
  core_halted Halted e = refl

  pub threads_set : (hs : List (List Called)) (ts : List (CompactThread F)) (i : ℕ) (h : List Called) (t : CompactThread F) → thread_views (slice_set hs i h) (slice_set ts i t) ≡ slice_set (thread_views hs ts) i (thread_view h t)
  threads_set [] ts i h t = refl
  threads_set (x ∷ hs) [] zero h t = refl
  threads_set (x ∷ hs) [] (suc i) h t = refl
  threads_set (x ∷ hs) (y ∷ ts) zero h t = refl
  threads_set (x ∷ hs) (y ∷ ts) (suc i) h t = ap (λ r. thread_view x y ∷ r) (threads_set hs ts i h t)

  pub threads_put : (hs : List (List Called)) (ts : List (CompactThread F)) (i : ℕ) (h : List Called) (t : CompactThread F) → slice_get hs i ≡ Some h → thread_views hs (slice_set ts i t) ≡ slice_set (thread_views hs ts) i (thread_view h t)
  threads_put hs ts i h t e = ap (λ r. thread_views r (slice_set ts i t)) (sym (set_here hs i h e)) ∙ threads_set hs ts i h t

  pub threads_get : (hs : List (List Called)) (ts : List (CompactThread F)) (i : ℕ) (h : List Called) (t : CompactThread F) → slice_get hs i ≡ Some h → slice_get ts i ≡ Some t → slice_get (thread_views hs ts) i ≡ Some (thread_view h t)
  threads_get [] ts i h t e f = absurd (none-some h e)
  threads_get (x ∷ hs) [] i h t e f = absurd (none-some t f)
  threads_get (x ∷ hs) (y ∷ ts) zero h t e f = rw (same_Some x h e, same_Some y t f) refl
  threads_get (x ∷ hs) (y ∷ ts) (suc i) h t e f = threads_get hs ts i h t e f

  pub threads_got : (hs : List (List Called)) (ts : List (CompactThread F)) (i : ℕ) (u : Thread F) → slice_get (thread_views hs ts) i ≡ Some u
      → (h : List Called) × (t : CompactThread F) × (slice_get hs i ≡ Some h) × (slice_get ts i ≡ Some t) × (thread_view h t ≡ u)
  threads_got [] ts i u e = absurd (none-some u e)
  threads_got (x ∷ hs) [] i u e = absurd (none-some u e)
  threads_got (x ∷ hs) (y ∷ ts) zero u e = (x, y, refl, refl, same_Some (thread_view x y) u e)
  threads_got (x ∷ hs) (y ∷ ts) (suc i) u e = threads_got hs ts i u e

  pub shaped_get : (c : State F) (i : ℕ) (t : CompactThread F) → IsShaped c → slice_get c.threads i ≡ Some t → slice_get c.history i ≡ Some (calls_in c.history i)
  shaped_get c i t shaped e = let lt = slice_get_within c.threads i t e in slice_get-get_or c.history i [] (omega (arith, shaped, lt))
