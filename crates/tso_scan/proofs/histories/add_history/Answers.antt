use Rattle.std.proofs.Common.{◌∙◌, ap, rules}
use Rattle.tso_scan.proofs.HistoryLemmas.{row_added}
use Rattle.tso_scan.proofs.histories.add_history.Goals as goal
use Rattle.tso_keys.specs.Numbers.{values_at}

pub returns : goal.returns
returns c =
    row_added c.args.lists.now c.args.histories.now c.add.new.self c.args.rows.now c.add-2.new.self c.args.row c.in_ok-number.number c.in_ok-add.field-0.1 c.requires.there.0 c.from_threads.result c.is_numbered.ensures.small c.requires.rows c.requires.there.1 c.in_ok-number.ensures.extends (c.from_threads.ensures ∙ c.in_ok-copies.ensures ∙ ap (values_at c.args.lists.now) c.as_slice.ensures) c.in_ok-number.ensures.number (search rules) c.in_ok-add.ensures.kept
