use Rattle.tso_verdict.proofs.Passing.{another, no_record}
use Rattle.tso_rec.specs.Records.{states_of}
use Rattle.tso_verdict.proofs.coverage.Coverage.pass_leaf.Goals as goal

pub loop-number-init : goal.loop-number-init
loop-number-init c =
    let client = c.args.course.now.checked.now.client in
    let own = c.args.course.now.own.now in
    let table = c.args.course.now.table.now in
    no_record client own table c.args.self.now

pub loop-number-preserved : goal.loop-number-preserved
loop-number-preserved c =
    let client = c.args.course.now.checked.now.client in
    let own = c.args.course.now.own.now in
    let table = c.args.course.now.table.now in
    another client own table (states_of c.args.records.now) c.loop-number.number c.in_ok-state.state c.args.self.now c.loop-number.self c.pass_beyond.new.self c.in_ok-state.ensures c.loop-number.invariant c.in_ok-pass_beyond.ensures
