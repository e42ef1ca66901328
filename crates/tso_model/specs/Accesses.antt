-- What a step reads and writes in the memory, and when two threads' steps may be taken in either order.
use Rattle.std.specs.Prelude.{◌≡◌, ℕ}
use Rattle.tso_model.specs.States.{Answered, Began, Log}
use Rattle.tso_model.specs.Steps.{Access, Nothing, Read, Update, Write}

-- the access reads the place
abbrev pub Reads : Access → ℕ → Type 0
Reads Nothing q = ⊥
Reads (Read p) q = p ≡ q
Reads (Write p v) q = ⊥
Reads (Update p f) q = p ≡ q

-- the access writes the place
abbrev pub Writes : Access → ℕ → Type 0
Writes Nothing q = ⊥
Writes (Read p) q = ⊥
Writes (Write p v) q = p ≡ q
Writes (Update p f) q = p ≡ q

-- neither writes what the other reads or writes
pub record Apart (x y : Access) : Type 0 where
  pub first : (q : ℕ) → Writes x q → Reads y q → ⊥
  pub both : (q : ℕ) → Writes x q → Writes y q → ⊥
  pub second : (q : ℕ) → Reads x q → Writes y q → ⊥

-- the first's entry may be made before the second's: not a call before a return
abbrev pub MayPass : Log → Log → Type 0
MayPass (Began k) (Answered a) = ⊥
MayPass _ _ = Unit {0}
