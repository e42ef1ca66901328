use Rattle.tso_cert.proofs.SeenLemmas.{if_both}
use Rattle.tso_check.proofs.UpgradeLemmas.{made_for, tree_behind}
use Rattle.tso_rec.specs.Bases.{by_steps}
use Rattle.tso_check.proofs.upgrading.stored_anew.Goals as goal

pub returns-in-Ok : goal.returns-in-Ok
returns-in-Ok c = λ tree spelled is.
    let client = c.args.checked.now.client in
    let scanned = c.args.scanned.now in
    let t = c.in_ok-stored_intervals.field-0 in
    let made = c.in_ok-stored_intervals.ensures in
    let rest = tree_behind c.args.bytes.now c.in-Ok.tree.now (by_steps scanned.table) c.in-Ok.old tree spelled c.in-Ok.ensures in
    let written = c.encode_before-new.ensures tree rest in
    if_both c.encode_before-new.result (λ new so again. made_for client tree scanned t new.items is made.inductive made.held made.narrow so) written written
