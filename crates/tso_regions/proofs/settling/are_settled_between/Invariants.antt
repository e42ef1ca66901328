use Rattle.tso_regions.specs.Gathering.{AreSettledBetween}
use Rattle.tso_regions.proofs.settling.are_settled_between.Given as goal

abbrev pub invariant-loop-place : goal.invariant-loop-place
invariant-loop-place g l = AreSettledBetween g.U.Realm.client g.U.Realm.table l.count l.regions l.from l.place
