use Rattle.std.proofs.Common.{◌≡◌, ◌≤◌, drop, length}
use Rattle.tso_machine.specs.Soundness.{are_within, back_bounds}
use Rattle.tso_state.proofs.well_formed.are_within.Given as goal

abbrev pub invariant-loop-at : goal.invariant-loop-at
invariant-loop-at l = record {
  within : l.number ≤ length l.taken;
  rest : are_within (drop l.number l.taken) (back_bounds l.at (drop l.at l.steps)) ≡ are_within l.taken (back_bounds 0 l.steps);
}
