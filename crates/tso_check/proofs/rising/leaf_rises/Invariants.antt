use Rattle.tso_check.proofs.RisingLemmas.{IsGoing}
use Rattle.tso_check.proofs.rising.leaf_rises.Given as goal
use Rattle.tso_rec.specs.Records.{states_of}

abbrev pub invariant-loop-k : goal.invariant-loop-k
invariant-loop-k l = IsGoing l.initial.last (states_of l.records) l.k l.last
