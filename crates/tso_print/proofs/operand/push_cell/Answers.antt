use Rattle.std.proofs.Common.{◌∙◌, rules, w64}
use Rattle.std.proofs.Common.{SFits, to_z-of_z}
use Rattle.tso_print.proofs.Joins.{named_at, cell_joins}
use Rattle.tso_print.proofs.operand.push_cell.Goals as goal

pub returns : goal.returns
returns c =
    let named = named_at c.args.arrays.now c.args.cell.array c.index-arrays-cell.result c.requires.below in
    let fits : SFits w64 c.args.cell.offset = search rules in
    let offset = simp to_z-of_z at c.in_ok-push_offset.ensures in
    cell_joins c.args.arrays.now c.args.cell _ _ _ _ _ _ _ c.in_ok-push_str.ensures.bytes (c.as_slice.ensures ∙ named) c.in_ok-push_name.ensures c.in_ok-push_index.ensures offset
    c.in_ok-push_str-2.ensures.bytes
