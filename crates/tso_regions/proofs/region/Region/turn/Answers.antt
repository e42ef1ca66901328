use Rattle.tso_regions.proofs.RegionLemmas.{none_by}
use Rattle.tso_regions.proofs.region.Region.turn.Goals as goal

pub explore-explored-requires-clause-sound : goal.explore-explored-requires-clause-sound
explore-explored-requires-clause-sound g c =
    record { met = c.self.invariant.explored.met; good = c.self.invariant.explored.good (none_by c.self.inside.halt c.is_some.result c.is_some.ensures c.if-is_some.false) }
