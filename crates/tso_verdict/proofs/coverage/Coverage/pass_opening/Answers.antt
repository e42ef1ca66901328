use Rattle.tso_verdict.proofs.Passing.{opening_costs, opening_ends, opening_leads, opening_on}
use Rattle.tso_move.specs.Runs.{HasMove}
use Rattle.tso_state.specs.WellFormed.{IsWellFormed}
use Rattle.tso_verdict.specs.Between.{IsGoneOn}
use Rattle.tso_verdict.proofs.coverage.Coverage.pass_opening.Goals as goal

pub opening-smaller : goal.opening-smaller
opening-smaller c =
    let client = c.args.course.now.checked.now.client in
    let own = c.args.course.now.own.now in
    let on : IsGoneOn client own c.opening.state c.args.actor c.in-Some.next = rw c.in-Some.is at c.in_ok-next.ensures in
    opening_costs client own c.args.actor c.opening.state c.in-Some.next on

pub opening-preserved : goal.opening-preserved
opening-preserved c =
    let client = c.args.course.now.checked.now.client in
    let own = c.args.course.now.own.now in
    let on : IsGoneOn client own c.opening.state c.args.actor c.in-Some.next = rw c.in-Some.is at c.in_ok-next.ensures in
    opening_on client own c.args.actor c.args.after.now c.args.begun c.opening.state c.in-Some.next c.args.self.now c.opening.self c.pass.new.self c.opening.invariant c.pass.ensures on

pub returns-then-is_same : goal.returns-then-is_same
returns-then-is_same c =
    let client = c.args.course.now.checked.now.client in
    let own = c.args.course.now.own.now in
    opening_leads client own c.args.actor c.args.after.now c.args.begun c.opening.state c.args.self.now c.opening.self c.pass.new.self c.opening.invariant c.pass.ensures (c.is_same.ensures.0 c.if-is_same.true)

pub returns-in-None : goal.returns-in-None
returns-in-None c =
    let client = c.args.course.now.checked.now.client in
    let own = c.args.course.now.own.now in
    let none : (IsWellFormed client c.opening.state → HasMove client own c.opening.state c.args.actor → ⊥) = rw c.in-None.is at c.in_ok-next.ensures in
    opening_ends client own c.args.actor c.args.after.now c.args.begun c.opening.state c.args.self.now c.opening.self c.pass.new.self c.opening.invariant c.pass.ensures none
