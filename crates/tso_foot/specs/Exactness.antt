-- That the derived `==` of tables is exact.
use Rattle.std.specs.Prelude.{◌≡◌}
use Rattle.std.proofs.Common.{ap, rules}
use Rattle.std.proofs.lemmas.Bool.{false≢true}
use Rattle.tso_cells.specs.Exactness.{table_exact as interval_table_exact}
use Rattle.tso_foot.specs.contracts.masks.MasksPartialEq.TheImpl as masks_impl
use Rattle.tso_foot.specs.contracts.table.ArrayTablePartialEq.TheImpl as array_table_impl
use Rattle.tso_foot.specs.contracts.table.TablePartialEq.TheImpl as table_impl
use Rattle.tso_foot.specs.declared.table.Table.TheVariants.{Arrays, Intervals}
use Rattle.tso_list.specs.Same.{IsExact, same_two}
use lib.Pointwise.{pointwise_decides}

masks_exact : IsExact masks_impl.eq-value.it
masks_exact a b = search rules

pub array_table_exact : IsExact array_table_impl.eq-value.it
array_table_exact a b =
    same_two _ _ (pointwise_decides masks_exact a.push b.push) (pointwise_decides masks_exact a.pop b.pop) (λ p q i. record { push = p i; pop = q i }) (λ e i. (e i).push) (λ e i. (e i).pop)

pub table_exact : IsExact table_impl.eq-value.it
table_exact (Arrays a) (Arrays b) = let known = array_table_exact a b in (λ h. ap Arrays (known.0 h), λ e. known.1 (let same : a ≡ b = cc in same))
table_exact (Arrays a) (Intervals b) = (λ h. absurd (false≢true h), λ e. absurd cc)
table_exact (Intervals a) (Arrays b) = (λ h. absurd (false≢true h), λ e. absurd cc)
table_exact (Intervals a) (Intervals b) = let known = interval_table_exact a b in (λ h. ap Intervals (known.0 h), λ e. known.1 (let same : a ≡ b = cc in same))
