use Rattle.tso_print.proofs.Joins.{locked_joins}
use Rattle.tso_print.proofs.instruction.push_locked.Goals as goal

pub returns : goal.returns
returns c =
    let word = rw c.register_word.ensures at c.in_ok-push_str-2.ensures.bytes in
    locked_joins c.args.arrays.now c.args.operation c.args.cell c.args.register _ _ _ _ _ c.in_ok-push_locked_word.ensures c.in_ok-push_cell.ensures c.in_ok-push_str.ensures.bytes word
