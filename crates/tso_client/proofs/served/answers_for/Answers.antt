use Rattle.tso_client.proofs.Serving.{goodness_goes_down}
use Rattle.tso_client.proofs.served.answers_for.Goals as goal

pub returns-clause-good : goal.returns-clause-good
returns-clause-good c = λ covered. goodness_goes_down c.args.small.now c.args.large.now (c.covers.ensures.0 covered)
