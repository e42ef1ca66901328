use Rattle.std.proofs.Common.{◌≡◌, ◌∙◌, Some, ap, slice_get, sym}
use Rattle.std.proofs.lemmas.Option.{slice_get-get_or}
use Rattle.tso_keys.proofs.Formed.{next_answered}
use Rattle.tso_keys.specs.Forms.{IsThreadForm}
use Rattle.tso_keys.proofs.forms.thread_forms.Goals as goal

pub loop-thread-preserved : goal.loop-thread-preserved
loop-thread-preserved c =
    let at : slice_get c.args.threads.now c.loop-thread.thread-index ≡ Some c.thread-item.result =
    rw c.values-thread-items.ensures at (slice_get-get_or c.values-thread-items.result.now c.loop-thread.thread-index c.thread-item.result c.loop-thread-test.true ∙ ap Some (sym c.thread-item.is)) in
    rw c.in_ok-push.ensures.ok (next_answered (IsThreadForm c.args.checked.now.client) c.args.threads.now c.loop-thread.thread-index c.loop-thread.forms c.thread-item.result c.thread_form.result c.loop-thread.invariant at c.thread_form.ensures)
