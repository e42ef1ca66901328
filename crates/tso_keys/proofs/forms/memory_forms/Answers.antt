use Rattle.std.proofs.Common.{◌≡◌, ◌∙◌, ℕ, List, Some, ap, slice_get, subst, sym}
use Rattle.std.proofs.lemmas.Option.{slice_get-get_or}
use Rattle.tso_keys.proofs.Formed.{next_answered}
use Rattle.tso_keys.specs.Forms.{IsMemoryForm}
use Rattle.tso_keys.proofs.forms.memory_forms.Goals as goal

pub loop-memory-preserved : goal.loop-memory-preserved
loop-memory-preserved c =
    let at : slice_get c.args.memories.now c.loop-memory.memory-index ≡ Some c.memory-item.result =
    rw c.values-memory-items.ensures at (slice_get-get_or c.values-memory-items.result.now c.loop-memory.memory-index c.memory-item.result c.loop-memory-test.true ∙ ap Some (sym c.memory-item.is)) in
    rw c.in_ok-push.ensures.ok (next_answered (IsMemoryForm c.args.checked.now.client) c.args.memories.now c.loop-memory.memory-index c.loop-memory.forms c.memory-item.result c.has_words.result c.loop-memory.invariant at (subst (λ (l : List ℕ). IsMemoryForm c.args.checked.now.client l c.has_words.result) c.as_slice.ensures c.has_words.ensures))
