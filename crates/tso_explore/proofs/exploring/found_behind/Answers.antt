use Rattle.std.proofs.Common.{◌∙◌}
use Rattle.tso_explore.proofs.FirstLemmas.{worked_without_pause}
use Rattle.tso_explore.proofs.exploring.found_behind.Goals as goal

pub returns-in-Ok : goal.returns-in-Ok
returns-in-Ok g c =
    let after = c.in-Ok.ensures in
    let worked = worked_without_pause c.args.checked.now.client c.args.ground.now c.args.limit c.search.new.store.states c.search.new.origins.items c.in-Ok.field-0 after.searched after.low after.over after.few c.requires.limit in (c.search.ensures.client ∙ c.requires.paused.client, worked.0, worked.1)
