use Rattle.tso_verdict.proofs.Passing.{no_thread, one_more}
use Rattle.tso_verdict.proofs.coverage.Coverage.pass_behind_all.Goals as goal

pub loop-thread-init : goal.loop-thread-init
loop-thread-init c =
    let client = c.args.course.now.checked.now.client in
    let own = c.args.course.now.own.now in
    let table = c.args.course.now.table.now in
    no_thread client own table c.args.state.now c.args.self.now

pub loop-thread-preserved : goal.loop-thread-preserved
loop-thread-preserved c =
    let client = c.args.course.now.checked.now.client in
    let own = c.args.course.now.own.now in
    let table = c.args.course.now.table.now in
    one_more client own table c.args.state.now c.loop-thread.thread c.args.self.now c.loop-thread.self c.pass_behind_thread.new.self c.loop-thread.invariant c.in_ok-pass_behind_thread.ensures
