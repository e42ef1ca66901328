use Rattle.std.proofs.Common.{◌++◌, ◌∙◌, ap}
use Rattle.tso_search.proofs.WayLemmas.{trail_on}
use Rattle.tso_search.proofs.trail.step_on.Goals as goal

pub returns-clause-trail : goal.returns-clause-trail
returns-clause-trail c =
    let before = c.args.trail.now.labels.items in
    trail_on c.args.checked.now.client c.args.checked.now.no_fault c.args.trail.now _ c.args.actor c.in_ok-labels.labels.items c.requires.trail c.in_ok-next.ensures c.in_ok-labels.ensures.labelled c.in_ok-labels.ensures.run
    (c.in_ok-extend_from_slice.ensures.items ∙ ap (λ l. before ++ l) c.as_slice.ensures.value)
