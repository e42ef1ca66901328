use Rattle.std.proofs.Common.{◌≡◌, ◌∙◌, Some, ap, slice_get, sym}
use Rattle.std.proofs.lemmas.Option.{slice_get-get_or}
use Rattle.tso_keys.proofs.Formed.{next_answered}
use Rattle.tso_keys.specs.Forms.{IsHistoryForm}
use Rattle.tso_keys.proofs.forms.history_forms.Goals as goal

pub loop-history-preserved : goal.loop-history-preserved
loop-history-preserved c =
    let at : slice_get c.args.histories.now c.loop-history.history-index ≡ Some c.history-item.result =
    rw c.values-history-items.ensures at (slice_get-get_or c.values-history-items.result.now c.loop-history.history-index c.history-item.result c.loop-history-test.true ∙ ap Some (sym c.history-item.is)) in
    rw c.in_ok-push.ensures.ok (next_answered (IsHistoryForm c.args.checked.now.client) c.args.histories.now c.loop-history.history-index c.loop-history.forms c.history-item.result c.history_form.result c.loop-history.invariant at c.history_form.ensures)
