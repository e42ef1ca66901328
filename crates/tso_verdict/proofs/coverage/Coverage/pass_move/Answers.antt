use Rattle.std.proofs.lemmas.Result.{on_ok_weaker}
use Rattle.tso_verdict.proofs.Passing.{move_of_call, move_of_step}
use Rattle.tso_verdict.proofs.coverage.Coverage.pass_move.Goals as goal

pub returns-then-is_step : goal.returns-then-is_step
returns-then-is_step c =
    let client = c.args.course.now.checked.now.client in
    let own = c.args.course.now.own.now in
    let table = c.args.course.now.table.now in
    move_of_step client own table c.args.state.now c.args.after.now c.args.actor c.args.self.now c.pass.new.self c.if-is_step.ensures c.pass.ensures

pub returns : goal.returns
returns c =
    let client = c.args.course.now.checked.now.client in
    let own = c.args.course.now.own.now in
    let table = c.args.course.now.table.now in
    on_ok_weaker c.pass_opening.result (move_of_call client own table c.args.state.now c.in_ok-begun.begun c.args.after.now c.args.actor c.args.self.now c.pass_opening.new.self c.if-is_step.ensures c.in_ok-begun.ensures) c.pass_opening.ensures
