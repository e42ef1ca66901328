use Rattle.std.proofs.Common.{◌≡◌, ℕ, ◌<◌, None, Some, false, slice_get}
use Rattle.tso_fifo.specs.declared.candidate.Candidate.{Candidate}
use Rattle.tso_fifo.proofs.search.Search.has_all_taken.Given as goal

abbrev pub invariant-loop-i : goal.invariant-loop-i
invariant-loop-i l = (k : ℕ) (q : Candidate) → k < l.i → slice_get l.self.candidates.now k ≡ Some q → slice_get l.taken k ≡ Some false → q.answer ≡ None
