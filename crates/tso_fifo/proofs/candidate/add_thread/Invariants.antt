use Rattle.std.proofs.Common.{◌≡◌, ◌++◌, drop}
use Rattle.tso_fifo.specs.Candidates.{thread_candidates}
use Rattle.tso_fifo.proofs.candidate.add_thread.Given as goal

abbrev pub invariant-loop-call : goal.invariant-loop-call
invariant-loop-call l = l.all ++ thread_candidates l.thread l.call (drop l.call l.calls) ≡ l.fn.all ++ thread_candidates l.thread 0 l.calls
