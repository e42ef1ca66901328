use Rattle.tso_move.proofs.RunLemmas.{leads_on, next_costs, stops_there}
use Rattle.tso_move.specs.Runs.{IsNext, StopsAt}
use Rattle.tso_move.proofs.runs.arrive.Goals as goal

pub run-smaller : goal.run-smaller
run-smaller c =
    let next : IsNext c.args.checked.now.client c.args.own.now c.args.table.now c.run.state c.in-Some.next = rw c.in-Some.is at c.in_ok-next.ensures in
    next_costs c.args.checked.now.client c.args.own.now c.args.table.now c.run.state c.in-Some.next next

pub run-preserved : goal.run-preserved
run-preserved c =
    let next : IsNext c.args.checked.now.client c.args.own.now c.args.table.now c.run.state c.in-Some.next = rw c.in-Some.is at c.in_ok-next.ensures in
    leads_on c.args.checked.now.client c.args.own.now c.args.table.now c.args.state c.run.state c.in-Some.next c.run.invariant next

pub returns-in-None : goal.returns-in-None
returns-in-None c =
    let stops : StopsAt c.args.checked.now.client c.args.own.now c.args.table.now c.run.state = rw c.in-None.is at c.in_ok-next.ensures in
    stops_there c.args.checked.now.client c.args.own.now c.args.table.now c.args.state c.run.state c.run.invariant stops
