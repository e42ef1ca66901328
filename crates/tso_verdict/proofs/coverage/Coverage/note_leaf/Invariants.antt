use Rattle.std.proofs.Common.{take}
use Rattle.tso_verdict.specs.Counted.{AreCounted}
use Rattle.tso_rec.specs.Records.{ends_of, states_of}
use Rattle.tso_verdict.proofs.coverage.Coverage.note_leaf.Given as goal

abbrev pub invariant-loop-number : goal.invariant-loop-number
invariant-loop-number l = AreCounted l.client l.initial.self (take l.number (states_of l.records)) (take l.number (ends_of l.records)) l.self
