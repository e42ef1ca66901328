use Rattle.std.proofs.Common.{◌≡◌, ◌≤◌, ◌+◌, drop}
use Rattle.tso_machine.specs.Instructions.{back_jumps}
use Rattle.tso_machine.proofs.action.back_jumps.Given as goal

abbrev pub invariant-loop-at : goal.invariant-loop-at
invariant-loop-at l = (l.count ≤ l.at) × (l.count + back_jumps l.at (drop l.at l.steps) ≡ back_jumps 0 l.steps)
