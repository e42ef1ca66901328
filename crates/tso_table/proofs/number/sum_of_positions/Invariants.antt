use Rattle.std.proofs.Common.{◌≡◌, ◌%◌, ◌<◌, take, sum_by}
use Rattle.tso_state.specs.declared.state.Thread.{Thread}
use Rattle.tso_table.specs.Leading.{position_of}
use Rattle.tso_table.proofs.number.sum_of_positions.Given as goal

abbrev pub invariant-loop-number : goal.invariant-loop-number
invariant-loop-number g l = (l.sum ≡ sum_by (λ (t : Thread). position_of t.core) (take l.number (g.S.Viewed.state l.state).threads) % 16) × (l.sum < 16)
