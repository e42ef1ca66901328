use Rattle.std.proofs.Common.{◌≡◌, ◌∙◌, List, length, sym, subst}
use Rattle.tso_cells.specs.declared.interval.Interval.{Interval}
use Rattle.tso_cells.proofs.ListLemmas.{written}
use Rattle.tso_cells.proofs.RowLemmas.{settled_before}
use Rattle.tso_cells.specs.Rows.{AreSettled}
use Rattle.tso_cells.proofs.rows.settled_rows.Goals as goal

pub returns : goal.returns
returns c =
    let first = c.in_ok-rows.rows.items in
    let new = c.settle.new.rows in
    let made = subst (λ (rows : List (List Interval)). AreSettled c.args.steps.now rows c.args.entry.now new) c.as_mut_slice.ensures.value c.settle.ensures in
    let size : length first ≡ length c.args.steps.now = c.in_ok-rows.ensures.count in
    rw (written new first c.in_ok-rows.rows.len (made.lengths ∙ sym size) c.in_ok-rows.rows.ok.0) (settled_before c.args.steps.now c.args.given.now first new c.args.entry.now size c.in_ok-rows.ensures.held made)
