use Rattle.std.proofs.Common.{length}
use Rattle.tso_trace.proofs.ReadLemmas.{IsReadTo}
use Rattle.tso_trace.proofs.grammar.bad_line.Given as goal

abbrev pub invariant-loop-rest : goal.invariant-loop-rest
invariant-loop-rest l = IsReadTo l.client.arrays l.text l.rest l.line

abbrev pub decreases-loop-rest : goal.decreases-loop-rest
decreases-loop-rest l = length l.rest
