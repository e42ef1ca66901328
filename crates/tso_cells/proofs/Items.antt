-- Items that are put together.
use Rattle.std.proofs.Common.{◌≡◌, ◌∙◌, ℕ, ◌+◌, inl, inr, List, [], ◌∷◌, ◌++◌, length, length-append, Some, slice_get, sym, subst, arith}
use Rattle.tso_cells.specs.declared.table.Item.{Item}
use Rattle.tso_cells.specs.declared.interval.Interval.{Interval}
use Rattle.tso_cells.proofs.ListLemmas.{push_cases}
use Rattle.tso_cells.specs.Columns.{cells_from}

abbrev pub IsItemOf : List (List Interval) → List (List Interval) → List (List Interval) → ℕ → Item → Type 0
IsItemOf rows reads writes i item = (slice_get rows i ≡ Some item.registers) × (item.reads ≡ cells_from 0 reads i) × (item.writes ≡ cells_from 0 writes i)

abbrev pub AreFirstItems : List (List Interval) → List (List Interval) → List (List Interval) → List Item → Type 0
AreFirstItems rows reads writes items = (n : ℕ) (item : Item) → slice_get items n ≡ Some item → IsItemOf rows reads writes n item

-- one item more
pub pushed_items : (rows reads writes : List (List Interval)) (items : List Item) (i : ℕ) (item : Item) → length items ≡ i → AreFirstItems rows reads writes items → IsItemOf rows reads writes i item
    → record { count : length (items ++ item ∷ []) ≡ i + 1; each : AreFirstItems rows reads writes (items ++ item ∷ []) }
pushed_items rows reads writes items i item size known new = record {
  count = let l = length-append items (item ∷ []) in omega (arith, l, size);
  each = λ n x is. elim (push_cases items n item x is) [
    | inl last ↦ subst (λ (y : Item). IsItemOf rows reads writes n y) (sym last.1) (subst (λ m. IsItemOf rows reads writes m item) (sym (last.0 ∙ size)) new)
    | inr was ↦ known n x was
  ];
}
