use Rattle.std.proofs.Common.{refl}
use Rattle.std.proofs.lemmas.Bool.{false≢true}
use Rattle.std.proofs.lemmas.Result.{on_ok_weaker}
use Rattle.tso_verdict.proofs.Passing.{fit, unfit}
use Rattle.tso_verdict.proofs.coverage.Coverage.pass_beyond.Goals as goal

pub returns-then-not-is_well_formed : goal.returns-then-not-is_well_formed
returns-then-not-is_well_formed c =
    let client = c.args.course.now.checked.now.client in
    let own = c.args.course.now.own.now in
    let table = c.args.course.now.table.now in
    unfit client own table c.args.state.now c.args.self.now (λ h. false≢true (c.if-not-is_well_formed.ensures.1 h))

pub returns : goal.returns
returns c =
    let client = c.args.course.now.checked.now.client in
    let own = c.args.course.now.own.now in
    let table = c.args.course.now.table.now in
    on_ok_weaker c.pass_behind_all.result (fit client own table c.args.state.now c.args.self.now c.pass_behind_all.new.self (c.if-not-is_well_formed.ensures.0 refl)) c.pass_behind_all.ensures
