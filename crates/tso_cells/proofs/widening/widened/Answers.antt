use Rattle.std.proofs.Common.{◌∙◌, ap}
use Rattle.tso_cells.proofs.WidenedTables.{table_is, widened_as}
use Rattle.tso_cells.specs.Starts.{entry_row}
use Rattle.tso_cells.proofs.widening.widened.Goals as goal

pub returns : goal.returns
returns c =
    let client = c.args.checked.now.client in
    let hull = c.args.hull.now in
    let argument = c.argument_interval.result in
    table_is client c.in_ok-push.push c.in_ok-pop.pop hull argument
    (widened_as _ client.arrays _ client.push.instructions _ hull.push _ (entry_row argument) c.in_ok-push.push c.as_slice-arrays.ensures c.as_slice.ensures c.as_slice-2.ensures c.entry_row-push_entry.ensures c.in_ok-push.ensures)
    (widened_as _ client.arrays _ client.pop.instructions _ hull.pop _ _ c.in_ok-pop.pop c.as_slice-arrays.ensures c.as_slice-3.ensures c.as_slice-4.ensures (c.entry_row-pop_entry.ensures ∙ ap entry_row c.alone.ensures) c.in_ok-pop.ensures)
    c.argument_interval.ensures.zero c.argument_interval.ensures.has
