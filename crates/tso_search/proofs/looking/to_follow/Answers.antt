use Rattle.std.proofs.Common.{subst, sym}
use Rattle.tso_search.proofs.LoneLemmas.{all_are_there}
use Rattle.tso_search.specs.Grounds.{AreToFollow}
use Rattle.tso_search.specs.declared.ground.Ground.{Ground}
use Rattle.tso_search.proofs.looking.to_follow.Goals as goal

pub returns-in-Steps : goal.returns-in-Steps
returns-in-Steps c = λ s at. subst (λ (g : Ground). AreToFollow c.args.checked.now.client g s c.chosen_at.result) (sym c.in-Steps.is) (c.chosen_at.ensures s at)

pub returns-in-Crossings : goal.returns-in-Crossings
returns-in-Crossings c = λ s at. subst (λ (g : Ground). AreToFollow c.args.checked.now.client g s 1023) (sym c.in-Crossings.is) all_are_there
