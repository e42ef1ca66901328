-- Tables: what is read is spelled so, and what is spelled so is read.
use Rattle.std.proofs.Common.{◌≡◌, ℕ, zero, suc, List, [], ◌∷◌, ◌++◌, Some, refl, ap, sym, subst, ◌∙◌}
use Rattle.tso_cells.specs.declared.table.Cells.{Cells}
use Rattle.tso_foot.specs.declared.table.Table.{Table}
use Rattle.tso_foot.specs.declared.table.Table.TheVariants.{Arrays, Intervals}
use Rattle.tso_code.specs.Fields.{items_at}
use Rattle.tso_code.specs.Tables.{ArrayTableFits, CellsFit, IntervalFits, IntervalsFit, IntervalTableFits, ItemFits, MasksFit, TableFits, array_table, array_table_at, cells, cells_at, interval, interval_at, interval_table, interval_table_at, intervals, intervals_at, item, item_at, masks, masks_at, table, table_at}
use Rattle.tso_code.proofs.Codes.{IsCode, items_again, items_take, list_code, three, two}
use Rattle.tso_code.proofs.NumberCode.{word_code}
use Rattle.tso_code.proofs.StateCodes.{held, place_code}

-- ---- version 1

masks_code : IsCode MasksFit masks masks_at
unfolding masks_at
masks_code = two place_code place_code (λ reads writes. record { reads = reads; writes = writes }) (λ m. m.reads) (λ m. m.writes) (λ x. refl) (λ p q. refl) (λ p q. refl)

array_table_code : IsCode ArrayTableFits array_table array_table_at
unfolding array_table_at
array_table_code = two (list_code word_code masks_code) (list_code word_code masks_code) (λ push pop. record { push = push; pop = pop }) (λ t. t.push) (λ t. t.pop) (λ x. refl) (λ p q. refl) (λ p q. refl)

-- ---- version 2

interval_code : IsCode IntervalFits interval interval_at
unfolding interval_at
interval_code = two word_code word_code (λ lo hi. record { lo = lo; hi = hi }) (λ i. i.lo) (λ i. i.hi) (λ x. refl) (λ p q. refl) (λ p q. refl)

intervals_code : IsCode IntervalsFit intervals intervals_at
unfolding intervals_at
intervals_code = record {
  takes = λ bytes x e. let t = items_take interval_code 15 bytes x e in (t.0, (t.1, t.2));
  again = λ is rest fits. ap (λ (n : ℕ). items_at interval_at n (intervals is ++ rest)) (sym fits.0) ∙ items_again interval_code is rest fits.1;
}

cells_code : IsCode CellsFit cells cells_at
unfolding cells_at
cells_code =
    three place_code place_code place_code (λ array lo hi. record { array = array; lo = lo; hi = hi }) (λ c. c.array) (λ c. c.lo) (λ c. c.hi) (λ x. refl) (λ p q r. refl) (λ p q r. refl) (λ p q r. refl)

item_code : IsCode ItemFits item item_at
unfolding item_at
item_code =
    three intervals_code (list_code word_code cells_code) (list_code word_code cells_code) (λ registers reads writes. record { registers = registers; reads = reads; writes = writes })
    (λ x. x.registers) (λ x. x.reads) (λ x. x.writes) (λ x. refl) (λ p q r. refl) (λ p q r. refl) (λ p q r. refl)

interval_table_code : IsCode IntervalTableFits interval_table interval_table_at
unfolding interval_table_at
interval_table_code = two (list_code word_code item_code) (list_code word_code item_code) (λ push pop. record { push = push; pop = pop }) (λ t. t.push) (λ t. t.pop) (λ x. refl) (λ p q. refl) (λ p q. refl)

-- ---- of either version

table_take : (bytes : List ℕ) (x : Table × List ℕ) → table_at bytes ≡ Some x → (bytes ≡ table x.0 ++ x.1) × TableFits x.0
unfolding table_at
table_take [] x e = absurd cc
table_take (zero ∷ rest) x e = absurd cc
table_take (suc zero ∷ rest) x e =
    let h = held array_table_code Arrays rest x e in
    subst (λ (t : Table). (1 ∷ rest ≡ table t ++ x.1) × TableFits t) (sym h.1) (ap (λ (w : List ℕ). 1 ∷ w) h.2, h.3)
table_take (suc (suc zero) ∷ rest) x e =
    let h = held interval_table_code Intervals rest x e in
    subst (λ (t : Table). (2 ∷ rest ≡ table t ++ x.1) × TableFits t) (sym h.1) (ap (λ (w : List ℕ). 2 ∷ w) h.2, h.3)
table_take (suc (suc (suc b)) ∷ rest) x e = absurd cc

table_again : (t : Table) (rest : List ℕ) → TableFits t → table_at (table t ++ rest) ≡ Some (t, rest)
unfolding table_at
table_again (Arrays t) rest fits = rw (array_table_code.again t rest fits) refl
table_again (Intervals t) rest fits = rw (interval_table_code.again t rest fits) refl

pub table_code : IsCode TableFits table table_at
table_code = record { takes = table_take; again = table_again }
