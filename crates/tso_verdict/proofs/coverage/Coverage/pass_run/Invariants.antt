use Rattle.tso_move.specs.Cost.{cost}
use Rattle.tso_verdict.specs.Between.{IsRunPast}
use Rattle.tso_verdict.specs.Counted.{LeadsOn}
use Rattle.tso_verdict.proofs.coverage.Coverage.pass_run.Given as goal

abbrev pub invariant-run : goal.invariant-run
invariant-run l =
    LeadsOn l.course.checked.now.client (IsRunPast l.course.checked.now.client l.course.own.now l.course.table.now l.fn.first) l.fn.self (IsRunPast l.course.checked.now.client l.course.own.now l.course.table.now l.state) l.self

abbrev pub decreases-run : goal.decreases-run
decreases-run l = cost l.course.checked.now.client l.state
