use Rattle.std.proofs.Common.{refl, sym, subst}
use Rattle.tso_client.specs.Headline.{EachRunIsGood}
use Rattle.tso_client.proofs.Serving.{goodness_goes_down}
use Rattle.tso_client.proofs.served.is_served.Goals as goal

pub returns-then-covers-clause-exact : goal.returns-then-covers-clause-exact
returns-then-covers-clause-exact c =
    ((λ h. (c.loop-large.large-index, c.large-item.result, c.loop-large-test.true, sym c.large-item.is, c.if-covers.ensures.0 refl)), λ h. refl)

pub returns-then-covers-clause-good : goal.returns-then-covers-clause-good
returns-then-covers-clause-good c = λ h all.
    goodness_goes_down c.args.asked.now c.large-item.result (c.if-covers.ensures.0 refl)
    (subst EachRunIsGood (sym c.large-item.is) (all c.loop-large.large-index c.large-item.result c.loop-large-test.true))
