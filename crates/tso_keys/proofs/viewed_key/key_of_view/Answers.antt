use Rattle.std.specs.List.{each_same}
use Rattle.tso_keys.proofs.FoundLemmas.{no_history_key, no_memory_key, no_threads_key}
use Rattle.tso_parts.proofs.Outcomes.{on_err}
use Rattle.tso_keys.proofs.viewed_key.key_of_view.Goals as goal

pub add_near-requires : goal.add_near-requires
add_near-requires c = record { copied = λ x y copy. each_same x y copy }

pub returns-in_err-memory-clause-grows : goal.returns-in_err-memory-clause-grows
returns-in_err-memory-clause-grows c = record { memories = c.add_near.ensures.extends; histories = λ i x e. e; threads = λ i x e. e; small = λ h. h }

pub returns-in_err-history-clause-grows : goal.returns-in_err-history-clause-grows
returns-in_err-history-clause-grows c = record { memories = c.add_near.ensures.extends; histories = c.add_near-2.ensures.extends; threads = λ i x e. e; small = λ h. h }

pub returns-in_err-threads-clause-grows : goal.returns-in_err-threads-clause-grows
returns-in_err-threads-clause-grows c = record { memories = c.add_near.ensures.extends; histories = c.add_near-2.ensures.extends; threads = c.add_viewed.ensures.extends; small = c.add_viewed.ensures.small }

pub returns-clause-grows : goal.returns-clause-grows
returns-clause-grows c = record { memories = c.add_near.ensures.extends; histories = c.add_near-2.ensures.extends; threads = c.add_viewed.ensures.extends; small = c.add_viewed.ensures.small }

pub returns-in_err-memory-clause-absent : goal.returns-in_err-memory-clause-absent
returns-in_err-memory-clause-absent c = on_err _ (no_memory_key c.args.parts.now c.args.view.now (rw c.words.ensures at c.in_err-memory.ensures.absent))

pub returns-in_err-history-clause-absent : goal.returns-in_err-history-clause-absent
returns-in_err-history-clause-absent c = on_err _ (no_history_key c.args.parts.now c.args.view.now (rw c.history.ensures at c.in_err-history.ensures.absent))

pub returns-in_err-threads-clause-absent : goal.returns-in_err-threads-clause-absent
returns-in_err-threads-clause-absent c = on_err _ (no_threads_key c.args.parts.now c.args.view.now c.in_err-threads.ensures.absent)
