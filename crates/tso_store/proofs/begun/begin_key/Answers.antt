use Rattle.tso_keys.specs.declared.parts.Parts.{Parts}
use Rattle.tso_store.proofs.Beginnings.{begun}
use Rattle.tso_store.proofs.begun.begin_key.Goals as goal

pub returns-clause-begun : goal.returns-clause-begun
returns-clause-begun c =
    let new : Parts = record { memories = c.args.parts.now.memories; histories = c.next_history.new.histories; threads = c.opened_thread.new.threads } in
    rw c.with_thread-next.ensures (begun c.requires.kept.0 c.args.parts.now new c.args.key.now c.args.thread c.number_at-place.result c.in_ok-history.history c.in_ok-number.number c.args.kind c.args.frame c.requires.kept.1 c.requires.there
    (record { memories = λ i x e. e; histories = c.next_history.ensures.extends; threads = c.opened_thread.ensures.extends; small = c.opened_thread.ensures.small })
    c.number_at-place.ensures c.in_ok-number.ensures.number c.in_ok-history.ensures.number)
