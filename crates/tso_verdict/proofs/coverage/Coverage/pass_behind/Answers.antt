use Rattle.std.proofs.lemmas.Result.{on_ok_weaker}
use Rattle.tso_move.specs.Runs.{HasMove, IsMove}
use Rattle.tso_verdict.proofs.Passing.{behind, none_behind}
use Rattle.tso_verdict.proofs.coverage.Coverage.pass_behind.Goals as goal

pub returns-in-None : goal.returns-in-None
returns-in-None c =
    let client = c.args.course.now.checked.now.client in
    let own = c.args.course.now.own.now in
    let table = c.args.course.now.table.now in
    let none : (HasMove client own c.args.state.now c.args.actor → ⊥) = rw c.in-None.is at c.in_ok-after.ensures in
    none_behind client own table c.args.state.now c.args.actor c.args.self.now none

pub returns-in_ok-pass_move-in-Some : goal.returns-in_ok-pass_move-in-Some
returns-in_ok-pass_move-in-Some c =
    let client = c.args.course.now.checked.now.client in
    let own = c.args.course.now.own.now in
    let table = c.args.course.now.table.now in
    let move : IsMove client own c.args.state.now c.args.actor c.in-Some.after = rw c.in-Some.is at c.in_ok-after.ensures in
    on_ok_weaker c.pass_run.result (behind client own table c.args.state.now c.in-Some.after c.args.actor c.args.self.now c.pass_move.new.self c.pass_run.new.self move c.in_ok-pass_move-in-Some.ensures) c.pass_run.ensures
