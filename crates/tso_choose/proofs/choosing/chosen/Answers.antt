use Rattle.tso_choose.proofs.ChoosingLemmas.{are_enabled, chosen_alone, chosen_nobody, chosen_together}
use Rattle.tso_choose.proofs.choosing.chosen.Goals as goal

pub returns-in-Some : goal.returns-in-Some
returns-in-Some g c =
    chosen_alone c.args.checked.now.client c.args.table.now (g.S.Viewed.state c.args.state.now) c.in-Some.number c.with_bit.result c.in-Some.ensures.lone c.with_bit.ensures

pub note_needs-requires-clause-enabled : goal.note_needs-requires-clause-enabled
note_needs-requires-clause-enabled g c =
    are_enabled c.args.checked.now.client (g.S.Viewed.state c.args.state.now) c.survey.new.kinds c.enabled_in-enabled.result c.in_default.ensures.kinds c.enabled_in-enabled.ensures

pub returns-in-Some-smallest : goal.returns-in-Some-smallest
returns-in-Some-smallest g c =
    let client = c.args.checked.now.client in
    let s = g.S.Viewed.state c.args.state.now in
    let enabled = c.enabled_in-enabled.result in
    chosen_together client c.args.table.now s c.note_needs.new.needs c.note_needs.ensures.is enabled c.in-Some-smallest.set
    (are_enabled client s c.survey.new.kinds enabled c.in_default.ensures.kinds c.enabled_in-enabled.ensures) c.in_default.ensures.none c.in-Some-smallest.ensures.some

pub returns-in-None : goal.returns-in-None
returns-in-None g c =
    let client = c.args.checked.now.client in
    let s = g.S.Viewed.state c.args.state.now in
    let enabled = c.enabled_in-enabled.result in
    chosen_nobody client c.args.table.now s enabled (are_enabled client s c.survey.new.kinds enabled c.in_default.ensures.kinds c.enabled_in-enabled.ensures) c.in-None.ensures.none
