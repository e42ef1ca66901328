use Rattle.tso_explore.proofs.MergingLemmas.{kept_is_met}
use Rattle.tso_search.proofs.SearchLemmas.{begun_with}
use Rattle.tso_search.specs.BySteps.{any_steps}
use Rattle.tso_explore.proofs.merging.add_met.Goals as goal

pub returns-in-Ok-clause-begun : goal.returns-in-Ok-clause-begun
returns-in-Ok-clause-begun c =
    begun_with c.args.checked.now.client any_steps c.args.store.now.states c.add.new.self.states c.args.kept.now.state c.in-Ok.field-0.1 c.requires.begun (kept_is_met c.args.checked.now.client c.args.kept.now c.requires.kept) c.in-Ok.ensures.added.kept
