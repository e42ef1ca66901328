use Rattle.std.proofs.Common.{◌≡◌, ◌+◌, ◌≤◌, drop}
use Rattle.tso_fifo.specs.Search.{pops_left}
use Rattle.tso_fifo.proofs.search.Search.pops_left.Given as goal

abbrev pub invariant-loop-i : goal.invariant-loop-i
invariant-loop-i l = (l.count + pops_left (drop l.i l.self.candidates.now) (drop l.i l.taken) ≡ pops_left l.self.candidates.now l.taken) × (l.count ≤ l.i)
