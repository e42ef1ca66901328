use Rattle.std.proofs.Common.{◌≡◌, replicate}
use Rattle.tso_state.specs.Initial.{idle_thread}
use Rattle.tso_state.proofs.initial.idle_threads.Given as goal

abbrev pub invariant-loop-i : goal.invariant-loop-i
invariant-loop-i l = l.threads ≡ replicate l._i idle_thread
