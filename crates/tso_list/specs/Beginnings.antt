-- What a writer holds where a write of some bytes failed.
use Rattle.std.specs.Prelude.{◌≡◌, ℕ, List, ◌++◌, Option}
use Rattle.std.specs.Io.KnownBytes.{Appends}

-- known bytes grow by a beginning of these bytes, and by nothing else
pub record AppendsBeginning (old new : Option (List ℕ)) (bytes : List ℕ) : Type 0 where
  pub taken : List ℕ
  pub left : List ℕ
  pub split : bytes ≡ taken ++ left
  pub appended : Appends old new taken
