use Rattle.std.proofs.Common.{◌≡◌, ◌++◌, drop}
use Rattle.tso_fifo.specs.Candidates.{all_candidates}
use Rattle.tso_fifo.proofs.candidate.candidates.Given as goal

abbrev pub invariant-loop-thread : goal.invariant-loop-thread
invariant-loop-thread l = l.all ++ all_candidates l.thread (drop l.thread l.calls-items) ≡ all_candidates 0 l.calls-items
