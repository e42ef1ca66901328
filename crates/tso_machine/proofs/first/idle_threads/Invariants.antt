use Rattle.std.proofs.Common.{◌≡◌, map, replicate}
use Rattle.tso_machine.specs.Initial.{idle_thread}
use Rattle.tso_machine.specs.Machines.{thread_view}
use Rattle.tso_machine.proofs.first.idle_threads.Given as goal

abbrev pub invariant-loop-i : goal.invariant-loop-i
invariant-loop-i l = map thread_view l.threads ≡ replicate l._i idle_thread
