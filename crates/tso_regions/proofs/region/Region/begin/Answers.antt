use Rattle.std.proofs.Common.{Some}
use Rattle.tso_regions.proofs.RegionLemmas.{none_by, region_more, region_sound}
use Rattle.tso_regions.proofs.region.Region.begin.Goals as goal

pub take_own-taken-requires-clause-sound : goal.take_own-taken-requires-clause-sound
take_own-taken-requires-clause-sound g c =
    region_sound g.U.Realm.client g.U.Realm.table c.self.inside.checked.now.client c.self.inside.table.now c.self.inside.store c.self.inside.marks c.self.inside.halt c.self.invariant
    (none_by c.self.inside.halt c.is_some.result c.is_some.ensures c.if-is_some.false)

pub invariant_of-self : goal.invariant_of-self
invariant_of-self g c =
    region_more g.U.Realm.client g.U.Realm.table c.self.inside.checked.now.client c.self.inside.table.now c.self.inside.store c.take_own-taken.new.store c.self.inside.marks c.self.inside.halt (Some c.in-Err.halt)
    c.self.invariant c.take_own-taken.ensures.client c.take_own-taken.ensures.sound c.take_own-taken.ensures.stays

pub invariant_of-self-in_default : goal.invariant_of-self-in_default
invariant_of-self-in_default g c =
    region_more g.U.Realm.client g.U.Realm.table c.self.inside.checked.now.client c.self.inside.table.now c.self.inside.store c.take_own-taken.new.store c.self.inside.marks c.self.inside.halt c.self.inside.halt
    c.self.invariant c.take_own-taken.ensures.client c.take_own-taken.ensures.sound c.take_own-taken.ensures.stays
