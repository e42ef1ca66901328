-- The numbers that the parts of one store have in another.
use Rattle.std.specs.Prelude.{◌≡◌, ℕ, List, [], ◌∷◌, length, slice_index_or}
use Rattle.tso_keys.specs.Numbers.{AreNumbersOf}
use Rattle.tso_keys.specs.declared.key.Key.{Key}
use Rattle.tso_keys.specs.declared.moved.PartNumbers.{PartNumbers}
use Rattle.tso_keys.specs.declared.parts.Parts.{Parts}

-- the new number of a part; that of nothing where it has none
abbrev pub moved_number : List ℕ → ℕ → ℕ
moved_number numbers n = slice_index_or numbers n 4294967295

-- that of the part at a place of a row
abbrev pub moved_at : List ℕ → List ℕ → ℕ → ℕ
moved_at numbers ns i = moved_number numbers (slice_index_or ns i 4294967295)

-- the new key
abbrev pub moved_key : PartNumbers → Key → Key
moved_key r k = record {
  memory = moved_number r.memories k.memory;
  history = moved_number r.histories k.history;
  threads = moved_at r.threads k.threads 0 ∷ moved_at r.threads k.threads 1 ∷ moved_at r.threads k.threads 2 ∷ moved_at r.threads k.threads 3 ∷ moved_at r.threads k.threads 4 ∷ [];
}

-- the new numbers are those of the same parts
pub record ArePartNumbersIn (others parts : Parts) (r : PartNumbers) : Type 0 where
  pub memories : AreNumbersOf parts.memories r.memories others.memories
  pub histories : AreNumbersOf parts.histories r.histories others.histories
  pub threads : AreNumbersOf parts.threads r.threads others.threads
  pub wide : length r.threads ≡ length others.threads
