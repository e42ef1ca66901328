use Rattle.std.proofs.lemmas.Result.{on_ok_weaker}
use Rattle.tso_verdict.proofs.Passing.{both_behind}
use Rattle.tso_verdict.proofs.coverage.Coverage.pass_behind_thread.Goals as goal

pub returns : goal.returns
returns c =
    let client = c.args.course.now.checked.now.client in
    let own = c.args.course.now.own.now in
    let table = c.args.course.now.table.now in
    on_ok_weaker c.pass_behind-2.result (both_behind client own table c.args.state.now c.args.thread c.args.self.now c.pass_behind.new.self c.pass_behind-2.new.self c.in_ok-pass_behind.ensures) c.pass_behind-2.ensures
