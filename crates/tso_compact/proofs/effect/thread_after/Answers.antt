use Rattle.tso_compact.proofs.effect.thread_after.Goals as goal

pub returns : goal.returns
returns c =
    let buffer = rw c.as_slice.ensures at (c.in_ok-buffer.ensures c.args.thread.now.core c.args.word) in
    λ i. record { core = c.in_ok-core.ensures i; buffer = buffer i }
