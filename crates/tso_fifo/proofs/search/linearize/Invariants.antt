use Rattle.std.proofs.Common.{◌≡◌, false, replicate}
use Rattle.tso_fifo.proofs.search.linearize.Given as goal

abbrev pub invariant-loop : goal.invariant-loop
invariant-loop l = l.taken ≡ replicate l.counter false
