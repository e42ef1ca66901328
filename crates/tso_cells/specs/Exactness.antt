-- That the derived `==` of tables is exact.
use Rattle.std.proofs.Common.{rules}
use Rattle.tso_cells.specs.contracts.table.CellsPartialEq.TheImpl as cells_impl
use Rattle.tso_cells.specs.contracts.table.IntervalTablePartialEq.TheImpl as table_impl
use Rattle.tso_cells.specs.contracts.table.ItemPartialEq.TheImpl as item_impl
use Rattle.tso_cells.specs.contracts.interval.IntervalPartialEq.TheImpl as interval_impl
use Rattle.tso_list.specs.Same.{IsExact, same_three, same_two}
use lib.Pointwise.{pointwise_decides}

interval_exact : IsExact interval_impl.eq-value.it
interval_exact a b = search rules

cells_exact : IsExact cells_impl.eq-value.it
cells_exact a b = search rules

item_exact : IsExact item_impl.eq-value.it
item_exact a b =
    same_three _ _ _ (pointwise_decides interval_exact a.registers b.registers) (pointwise_decides cells_exact a.reads b.reads) (pointwise_decides cells_exact a.writes b.writes)
    (λ p q r i. record { registers = p i; reads = q i; writes = r i }) (λ e i. (e i).registers) (λ e i. (e i).reads) (λ e i. (e i).writes)

pub table_exact : IsExact table_impl.eq-value.it
table_exact a b =
    same_two _ _ (pointwise_decides item_exact a.push b.push) (pointwise_decides item_exact a.pop b.pop) (λ p q i. record { push = p i; pop = q i }) (λ e i. (e i).push) (λ e i. (e i).pop)
