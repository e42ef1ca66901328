-- What the ten conditions say after two words are compared.
use Rattle.std.specs.Prelude.{◌≡◌, ◌≢◌, ℕ, ◌<◌, ◌≤◌, ◌<ℤ◌, ◌≤ℤ◌, ◌↔◌, IsTrue, bit_and}
use Rattle.tso_word.specs.declared.Condition.TheVariants.{E, Ne, B, Ae, Be, A, L, Ge, Le, G}
use Rattle.tso_word.specs.declared.Flags.{Flags}
use Rattle.tso_word.specs.Word.{holds, signed}

-- these flags tell how x compares with y: equal, below and above as unsigned numbers, less and greater as signed ones
pub record Compares (x y : ℕ) (flags : Flags) : Type 0 where
  pub e : IsTrue (holds E flags) ↔ (x ≡ y)
  pub ne : IsTrue (holds Ne flags) ↔ (x ≢ y)
  pub b : IsTrue (holds B flags) ↔ (x < y)
  pub ae : IsTrue (holds Ae flags) ↔ (y ≤ x)
  pub be : IsTrue (holds Be flags) ↔ (x ≤ y)
  pub a : IsTrue (holds A flags) ↔ (y < x)
  pub l : IsTrue (holds L flags) ↔ (signed x <ℤ signed y)
  pub ge : IsTrue (holds Ge flags) ↔ (signed y ≤ℤ signed x)
  pub le : IsTrue (holds Le flags) ↔ (signed x ≤ℤ signed y)
  pub g : IsTrue (holds G flags) ↔ (signed y <ℤ signed x)

-- these flags tell whether x and y have a bit in common
pub record Tests (x y : ℕ) (flags : Flags) : Type 0 where
  pub e : IsTrue (holds E flags) ↔ (bit_and x y ≡ 0)
  pub ne : IsTrue (holds Ne flags) ↔ (bit_and x y ≢ 0)
