use Rattle.tso_search.specs.Grounds.{grain_of}
use Rattle.tso_explore.proofs.exploring.finding_of.Goals as goal

pub returns-in-Early : goal.returns-in-Early
returns-in-Early c = c.finding_for.ensures (grain_of c.args.ground)
