use Rattle.std.proofs.lemmas.Result.{on_ok_weaker}
use Rattle.tso_verdict.proofs.Passing.{from_first}
use Rattle.tso_verdict.proofs.coverage.Coverage.pass_first.Goals as goal

pub returns : goal.returns
returns c =
    let client = c.args.course.now.checked.now.client in
    let own = c.args.course.now.own.now in
    let table = c.args.course.now.table.now in
    on_ok_weaker c.pass_run.result (from_first client own table c.in_ok-first.first c.args.self.now c.pass.new.self c.pass_run.new.self c.in_ok-first.ensures.first c.pass.ensures) c.pass_run.ensures
