use Rattle.tso_print.proofs.Joins.{store_joins}
use Rattle.tso_print.proofs.instruction.push_store.Goals as goal

pub returns : goal.returns
returns c = store_joins c.args.arrays.now c.args.to c.args.from _ _ _ _ _ c.in_ok-push_str.ensures.bytes c.in_ok-push_cell.ensures c.in_ok-push_str-2.ensures.bytes c.in_ok-push_source.ensures
