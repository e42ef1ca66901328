use Rattle.tso_cert.proofs.SeenLemmas.{if_both}
use Rattle.tso_check.proofs.UpgradeLemmas.{as_counted, as_refused, as_upgraded, on_error}
use Rattle.tso_check.proofs.upgrading.upgraded_for.Goals as goal

pub returns-in-Ok-clause-upgraded : goal.returns-in-Ok-clause-upgraded
returns-in-Ok-clause-upgraded c =
    let renewed = c.upgraded_of.ensures.renewed in
    if_both c.upgraded_of.result (λ r so again. as_upgraded c.args.program.now c.args.cert.now c.in-Ok.checked.client r.bytes.items r.records c.in-Ok.ensures.denoted so) renewed renewed

pub returns-in-Ok-clause-counted : goal.returns-in-Ok-clause-counted
returns-in-Ok-clause-counted c =
    let renewed = c.upgraded_of.ensures.renewed in
    if_both c.upgraded_of.result (λ r so again. as_counted c.args.program.now c.args.cert.now c.in-Ok.checked.client r.bytes.items r.records so) renewed renewed

pub returns-in-Ok-clause-refused : goal.returns-in-Ok-clause-refused
returns-in-Ok-clause-refused c =
    on_error c.upgraded_of.result (λ e not. as_refused c.args.program.now c.args.cert.now c.in-Ok.checked.client e c.in-Ok.ensures.denoted not) c.upgraded_of.ensures.refused
