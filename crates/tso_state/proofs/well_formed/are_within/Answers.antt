use Rattle.std.proofs.Common.{◌∙◌}
use Rattle.std.proofs.lemmas.List.{drop_all}
use Rattle.tso_state.proofs.FitLemmas.{all_counted}
use Rattle.tso_state.proofs.well_formed.are_within.Goals as goal

pub returns : goal.returns
returns c =
    let past = drop_all c.loop-at.at c.args.steps.now c.loop-at-test.false in
    let rest = rw past at c.loop-at.invariant.rest in
    all_counted c.args.taken.now c.loop-at.number c.loop-at.invariant.within ∙ rest
