use Rattle.tso_foot.specs.Least.{IsGrowing, room}
use Rattle.tso_foot.proofs.least.least_items.Given as goal

abbrev pub invariant-grow : goal.invariant-grow
invariant-grow l = IsGrowing l.arrays l.steps l.items.items

abbrev pub decreases-grow : goal.decreases-grow
decreases-grow l = room l.items.items
