use Rattle.std.proofs.Common.{take}
use Rattle.tso_show.specs.Unordered.{IsOrderFor}
use Rattle.tso_show.proofs.unordered.ordered_part.Given as goal

abbrev pub invariant-loop-at : goal.invariant-loop-at
invariant-loop-at l = IsOrderFor l.client (take l.at l.labels) l.order
