-- Values that are read from the front of bytes, and the one spelling of each.
use Rattle.std.specs.Prelude.{◌≡◌, ℕ, zero, suc, ◌^◌, ◌<◌, List, [], ◌∷◌, ◌++◌, length, Option, Some, None, Result, Ok, Err}
use Rattle.std.specs.List.{flat_map, AllByRecursion}
use Rattle.tso_code.specs.Numbers.{Reading, number, number_at, ◌>>=◌}
use Rattle.tso_code.specs.declared.code.ReadError.{ReadError}
use Rattle.tso_code.specs.declared.code.ReadError.TheVariants.{Malformed, Memory}

-- ---- what a call of the code gave, against what reading gives, unless memory ran out

abbrev pub Fails : {Y : Type 0} → ReadError → Option Y → Type 0
Fails Malformed reading = reading ≡ None
Fails Memory reading = Unit {0}

abbrev pub Gives : {X Y : Type 0} → (X → Y) → Result X ReadError → Option Y → Type 0
Gives view (Ok x) reading = reading ≡ Some (view x)
Gives view (Err e) reading = Fails e reading

-- ---- fields one after the other

abbrev pub at2 : {A B X : Type 0} → (A → B → X) → Reading A → Reading B → Reading X
at2 make r s bytes = do
  a ← r bytes
  b ← s a.1
  Some (make a.0 b.0, b.1)

abbrev pub at3 : {A B C X : Type 0} → (A → B → C → X) → Reading A → Reading B → Reading C → Reading X
at3 make r s t bytes = do
  a ← r bytes
  b ← s a.1
  c ← t b.1
  Some (make a.0 b.0 c.0, c.1)

abbrev pub at4 : {A B C D X : Type 0} → (A → B → C → D → X) → Reading A → Reading B → Reading C → Reading D → Reading X
at4 make r s t u bytes = do
  a ← r bytes
  b ← s a.1
  c ← t b.1
  d ← u c.1
  Some (make a.0 b.0 c.0 d.0, d.1)

-- one field, seen as another value
abbrev pub at1 : {A X : Type 0} → (A → X) → Reading A → Reading X
at1 make r bytes = do
  a ← r bytes
  Some (make a.0, a.1)

-- ---- lists

-- so many items one after the other, with no count
unfoldable pub items_at : {X : Type 0} → Reading X → ℕ → Reading (List X)
items_at r zero bytes = Some ([], bytes)
items_at r (suc n) bytes = do
  first ← r bytes
  others ← items_at r n first.1
  Some (first.0 ∷ others.0, others.1)

-- the count, then the items
abbrev pub list : {X : Type 0} → (X → List ℕ) → List X → List ℕ
list spell xs = number (length xs) ++ flat_map spell xs

unfoldable pub list_at : {X : Type 0} → Reading X → Reading (List X)
list_at r bytes = do
  n ← number_at bytes
  items_at r n.0 n.1

abbrev pub ListFits : {X : Type 0} → (X → Type 0) → List X → Type 0
ListFits Fits xs = (length xs < 2 ^ 64) × AllByRecursion Fits xs
