use Rattle.tso_verdict.specs.Between.{AreBehind}
use Rattle.tso_verdict.specs.Counted.{ArePassed}
use Rattle.tso_verdict.proofs.coverage.Coverage.pass_behind_all.Given as goal

abbrev pub invariant-loop-thread : goal.invariant-loop-thread
invariant-loop-thread l = ArePassed l.course.checked.now.client (AreBehind l.course.checked.now.client l.course.own.now l.course.table.now l.state l.thread) l.fn.self l.self
