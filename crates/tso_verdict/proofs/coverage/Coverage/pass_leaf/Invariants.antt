use Rattle.std.proofs.Common.{take}
use Rattle.tso_verdict.specs.Between.{AreBeyond}
use Rattle.tso_verdict.specs.Counted.{ArePassed}
use Rattle.tso_rec.specs.Records.{states_of}
use Rattle.tso_verdict.proofs.coverage.Coverage.pass_leaf.Given as goal

abbrev pub invariant-loop-number : goal.invariant-loop-number
invariant-loop-number l = ArePassed l.course.checked.now.client (AreBeyond l.course.checked.now.client l.course.own.now l.course.table.now (take l.number (states_of l.records))) l.fn.self l.self
