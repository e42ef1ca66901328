use Rattle.tso_store.proofs.thread_after.thread_after.Goals as goal

pub returns : goal.returns
returns c =
    let buffer = rw c.as_slice.ensures at (c.buffer_after.ensures c.args.thread.now.core c.args.word) in
    λ i. record { core = c.core_after.ensures i; buffer = buffer i }
