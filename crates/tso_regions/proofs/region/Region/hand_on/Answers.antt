use Rattle.tso_regions.proofs.RegionLemmas.{none_by, region_sound}
use Rattle.tso_regions.proofs.region.Region.hand_on.Goals as goal

pub put-requires-clause-from : goal.put-requires-clause-from
put-requires-clause-from g c =
    region_sound g.U.Realm.client g.U.Realm.table c.self.inside.checked.now.client c.self.inside.table.now c.self.inside.store c.self.inside.marks c.self.inside.halt c.self.invariant
    (none_by c.self.inside.halt c.is_some.result c.is_some.ensures c.if-is_some.false)
