use Rattle.std.proofs.Common.{◌≡◌, ◌∙◌, subst, sym}
use Rattle.tso_keys.specs.Keys.{AreKept}
use Rattle.tso_keys.specs.declared.parts.Parts.{Parts}
use Rattle.tso_write.proofs.recorder.Recorder.of_parts.Goals as goal

pub invariant_of-result : goal.invariant_of-result
invariant_of-result c =
    let memories = sym (c.in_ok-memories.ensures ∙ c.values.ensures) in
    let histories = sym (c.in_ok-histories.ensures ∙ c.values-2.ensures) in
    let threads = sym (c.in_ok-threads.ensures ∙ c.values-3.ensures) in
    let shared : Parts = record { memories = c.in_ok-memories.memories; histories = c.in_ok-histories.histories; threads = c.in_ok-threads.threads } in
    let same : c.args.parts.now ≡ shared = λ i. record { memories = memories i; histories = histories i; threads = threads i } in
    let P : Parts → Type 0 = λ p. AreKept c.requires.kept.0 p c.args.keys.now in
    (c.requires.kept.0, subst P same c.requires.kept.1)
