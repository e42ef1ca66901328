-- Parts that are told by their spellings. Nothing here need be believed: it serves the code.
use Rattle.std.specs.Prelude.{◌≡◌, ℕ, List, [], length, Some, slice_get}
use Rattle.tso_code.specs.Fields.{items_at, list_at}
use Rattle.tso_code.specs.Numbers.{Reading}
use Rattle.tso_scan.specs.declared.rows.Row.{Row}
use Rattle.tso_keys.specs.Numbers.{AreNumbersOf}

-- the part with this number is what stands at the front of the bytes, before the rest
pub record IsReadAs {X : Type 0} (read : Reading X) (parts : List X) (n : ℕ) (bytes rest : List ℕ) : Type 0 where
  pub part : X
  pub at : slice_get parts n ≡ Some part
  pub reads : read bytes ≡ Some (part, rest)

-- each of these spellings is that of the part with its number
pub record AreSpelled {X : Type 0} (read : Reading X) (parts : List X) (spellings : List (List ℕ)) : Type 0 where
  pub each : (n : ℕ) (spelling : List ℕ) → slice_get spellings n ≡ Some spelling → IsReadAs read parts n spelling []

-- the parts with these numbers are the items at the front of the bytes, so many
pub record AreReadAs {X : Type 0} (read : Reading X) (pool : List X) (many : ℕ) (row : Row) (bytes rest : List ℕ) : Type 0 where
  pub parts : List X
  pub count : length parts ≡ many
  pub numbers : AreNumbersOf pool row.numbers parts
  pub wide : length row.numbers ≡ 5
  pub reads : items_at read many bytes ≡ Some (parts, rest)

-- the parts with these numbers are the list at the front of the bytes, of so many
pub record IsListReadAs {X : Type 0} (read : Reading X) (pool : List X) (many : ℕ) (row : Row) (bytes rest : List ℕ) : Type 0 where
  pub parts : List X
  pub count : length parts ≡ many
  pub numbers : AreNumbersOf pool row.numbers parts
  pub wide : length row.numbers ≡ 5
  pub reads : list_at read bytes ≡ Some (parts, rest)
