use Rattle.tso_check.proofs.WalkLemmas.{if_ok}
use Rattle.tsoq.proofs.UpgradedLemmas.{refused_so, written_so}
use Rattle.tsoq.proofs.upgrade.upgrade_to.Goals as goal
use Rattle.tsoq.specs.Upgraded.{IsRefusal, IsUpgrade, IsWritten}

pub returns-in-Ok : goal.returns-in-Ok
returns-in-Ok g c =
    let text = c.args.program.now in
    let bytes = c.args.cert.now in
    let anew = c.in-Ok.renewed.bytes.items in
    let count = c.in-Ok.renewed.records in
    if_ok (IsWritten anew count) (IsUpgrade text bytes) c.write_upgraded.result (written_so text bytes anew count c.in-Ok.ensures.upgraded c.in-Ok.ensures.counted) c.write_upgraded.ensures

pub returns-in-Err : goal.returns-in-Err
returns-in-Err g c =
    let text = c.args.program.now in
    let bytes = c.args.cert.now in
    if_ok (IsRefusal c.in-Err.error) (IsUpgrade text bytes) c.refusal_of.result (refused_so text bytes c.in-Err.error c.in-Err.ensures.refused) c.refusal_of.ensures
