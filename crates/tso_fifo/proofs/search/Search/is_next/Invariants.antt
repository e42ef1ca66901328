use Rattle.std.proofs.Common.{◌≡◌, ℕ, ◌<◌, Bool, Some, slice_get}
use Rattle.tso_fifo.specs.Search.{Lets}
use Rattle.tso_fifo.specs.declared.candidate.Candidate.{Candidate}
use Rattle.tso_hist.specs.Views.{history_view}
use Rattle.tso_fifo.proofs.search.Search.is_next.Given as goal

abbrev pub invariant-loop-i : goal.invariant-loop-i
invariant-loop-i l = (k : ℕ) (q : Candidate) (b : Bool) → k < l.i → slice_get l.self.candidates.now k ≡ Some q → slice_get l.taken k ≡ Some b → Lets (history_view l.self.history.now) l.next q b
