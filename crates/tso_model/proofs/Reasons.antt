-- Each reason lets the chosen step come before the other thread's.
use Rattle.std.proofs.Common.{◌≡◌, ℕ, List, ◌∷◌, Some, refl, arith}
use Rattle.std.specs.List.{slice_get}
use Rattle.tso_model.specs.Accesses.{Apart, MayPass}
use Rattle.tso_model.specs.Programs.{Program}
use Rattle.tso_model.specs.Reasons.{Future, Holds, IsFuture, Reason}
use Rattle.tso_model.specs.Reduce.{Has}
use Rattle.tso_model.specs.States.{Buffer, CompactCore, Log, State}
use Rattle.tso_model.specs.Steps.{Access, Actor, Drains, Exec, Move, Write, move, thread_of}

-- what a drain does
pub record DrainOf {F : Type 0} (s : State F) (j : ℕ) (m : Move F) : Type 0 where
  pub core : CompactCore F
  pub entry : ℕ × ℕ
  pub rest : Buffer
  pub was : slice_get s.threads j ≡ Some (record { core = core; buffer = entry ∷ rest })
  pub is : m ≡ record { access = Write entry.0 entry.1; after = λ w. record { core = core; buffer = rest }; log = Log.Same }

pub drains : {F : Type 0} (p : Program F) (s : State F) (j : ℕ) (m : Move F) → move p s (Drains j) ≡ Some m → DrainOf s j m
drains p s j m e = grind arith

abbrev pub Passes : {F : Type 0} → Access → Log → Move F → Type 0
Passes access log b = Apart access b.access × MayPass log b.log

module _ {F : Type 0} (p : Program F) (W : State F → Type 0) (f : Future F) (laws : IsFuture p W f) (s : State F) (w : W s) (chosen : List Actor) (access : Access) (log : Log) where
  own_passes : (b : Actor) (m : Move F) → Holds p f s chosen access log (thread_of b) Reason.Own → Passes access log m
  own_passes b m h = grind arith

  far_passes : (b : Actor) (m : Move F) → move p s b ≡ Some m → Holds p f s chosen access log (thread_of b) Reason.Far → Passes access log m
  far_passes b m e h = grind (arith, λ (q : ℕ). laws.reads_now s b m q w, λ (q : ℕ). laws.writes_now s b m q w)

  inside_passes : (b : Actor) (m : Move F) → (Has chosen b → ⊥) → move p s b ≡ Some m → Holds p f s chosen access log (thread_of b) Reason.Inside → Passes access log m
  inside_passes b m n e h = grind (arith, h b refl)

  -- of a drain, d says which entry it takes
  drain_passes : (j : ℕ) (m : Move F) → DrainOf s j m → Holds p f s chosen access log j Reason.Buffered → Passes access log m
  drain_passes j m d h = grind (arith, h.1 (record { core = d.core; buffer = d.entry ∷ d.rest }) d.entry.0 d.was)

  buffered_passes : (b : Actor) (m : Move F) → (Has chosen b → ⊥) → move p s b ≡ Some m → Holds p f s chosen access log (thread_of b) Reason.Buffered → Passes access log m
  buffered_passes (Exec j) m n e h = absurd (n h.0)
  buffered_passes (Drains j) m n e h = drain_passes j m (drains p s j m e) h

  returns_passes : (b : Actor) (m : Move F) → Holds p f s chosen access log (thread_of b) Reason.Returns → Passes access log m
  returns_passes b m h = grind arith

  no_return_passes : (b : Actor) (m : Move F) → move p s b ≡ Some m → Holds p f s chosen access log (thread_of b) Reason.NoReturn → Passes access log m
  no_return_passes b m e h = grind arith

  pub reason_passes : (r : Reason) (b : Actor) (m : Move F) → (Has chosen b → ⊥) → move p s b ≡ Some m → Holds p f s chosen access log (thread_of b) r → Passes access log m
  reason_passes Reason.Own b m n e h = own_passes b m h
  reason_passes Reason.Far b m n e h = far_passes b m e h
  reason_passes Reason.Inside b m n e h = inside_passes b m n e h
  reason_passes Reason.Buffered b m n e h = buffered_passes b m n e h
  reason_passes Reason.Returns b m n e h = returns_passes b m h
  reason_passes Reason.NoReturn b m n e h = no_return_passes b m e h
