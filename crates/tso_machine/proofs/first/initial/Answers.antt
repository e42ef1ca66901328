use Rattle.std.proofs.Common.{◌∙◌, ap, replicate, sym, None}
use Rattle.tso_machine.proofs.FirstThreads.{first_threads}
use Rattle.tso_machine.specs.Initial.{idle_thread}
use Rattle.tso_machine.specs.Places.{first_memory}
use Rattle.tso_machine.proofs.first.initial.Goals as goal

pub returns : goal.returns
returns c =
    let memory = c.in_ok-first_memory.ensures ∙ ap first_memory c.as_slice.ensures in
    let threads =
    c.in_ok-idle_threads.ensures ∙ ap (λ n. replicate n idle_thread) c.thread_count.ensures.is
    ∙ sym (first_threads c.args.checked.now.client.threads c.args.checked.now.client.prologue) in
    λ i. record { memory = memory i; lock = None; threads = threads i }
