use Rattle.std.proofs.Common.{◌≡◌, take}
use Rattle.tso_prog.proofs.copy.copied_threads.Given as goal

abbrev pub invariant-loop-calls : goal.invariant-loop-calls
invariant-loop-calls l = l.copy.items ≡ take l.calls-index l.threads
