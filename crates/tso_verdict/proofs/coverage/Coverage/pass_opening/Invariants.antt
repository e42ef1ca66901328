use Rattle.tso_move.specs.Cost.{cost}
use Rattle.tso_verdict.specs.Between.{IsOpened}
use Rattle.tso_verdict.specs.Counted.{LeadsOn}
use Rattle.tso_verdict.proofs.coverage.Coverage.pass_opening.Given as goal

abbrev pub invariant-opening : goal.invariant-opening
invariant-opening l =
    LeadsOn l.course.checked.now.client (IsOpened l.course.checked.now.client l.course.own.now l.actor l.after l.fn.begun) l.fn.self (IsOpened l.course.checked.now.client l.course.own.now l.actor l.after l.state) l.self

abbrev pub decreases-opening : goal.decreases-opening
decreases-opening l = cost l.course.checked.now.client l.state
