use Rattle.std.proofs.Common.{◌≡◌, ◌≤◌, take}
use Rattle.tso_choose.specs.Choices.{actors_below}
use Rattle.tso_choose.proofs.making.list_actors.Given as goal

abbrev pub invariant-loop-number : goal.invariant-loop-number
invariant-loop-number l = (l.count ≤ l.number) × (take l.count l.actors ≡ actors_below l.set l.number)
