use Rattle.std.proofs.Common.{◌+◌, take}
use Rattle.std.specs.List.{flat_map}
use Rattle.tso_write.specs.Ordering.{AreOrdered}
use Rattle.tso_write.proofs.ordering.UnorderedTask.run.Given as goal

abbrev pub invariant-loop-group : goal.invariant-loop-group
invariant-loop-group l = AreOrdered l.self.standings.now l.self.first (l.self.first + l.group-index) (flat_map (λ g. g) (take l.group-index l.self.groups.now)) l.out.items
