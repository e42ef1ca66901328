use Rattle.tso_verdict.proofs.Passing.{run_costs, run_on, run_stops}
use Rattle.tso_move.specs.Runs.{StopsAt}
use Rattle.tso_verdict.specs.Between.{IsWayOn}
use Rattle.tso_verdict.proofs.coverage.Coverage.pass_run.Goals as goal

pub run-smaller : goal.run-smaller
run-smaller c =
    let client = c.args.course.now.checked.now.client in
    let own = c.args.course.now.own.now in
    let table = c.args.course.now.table.now in
    let on : IsWayOn client own table c.run.state c.in-Some.next = rw c.in-Some.is at c.in_ok-next.ensures in
    run_costs client own table c.run.state c.in-Some.next on

pub run-preserved : goal.run-preserved
run-preserved c =
    let client = c.args.course.now.checked.now.client in
    let own = c.args.course.now.own.now in
    let table = c.args.course.now.table.now in
    let on : IsWayOn client own table c.run.state c.in-Some.next = rw c.in-Some.is at c.in_ok-next.ensures in
    run_on client own table c.args.first c.run.state c.in-Some.next c.args.self.now c.run.self c.pass_move.new.self c.run.invariant on c.in_ok-pass_move-in-Some.ensures

pub returns-in-None : goal.returns-in-None
returns-in-None c =
    let client = c.args.course.now.checked.now.client in
    let own = c.args.course.now.own.now in
    let table = c.args.course.now.table.now in
    let stops : StopsAt client own table c.run.state = rw c.in-None.is at c.in_ok-next.ensures in
    run_stops client own table c.args.first c.run.state c.args.self.now c.run.self c.run.invariant stops
