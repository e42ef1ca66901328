use Rattle.std.proofs.Common.{◌≡◌, ◌%◌, ◌<◌, List, length, take, sum_by}
use Rattle.tso_hist.specs.declared.call.Call.{Call}
use Rattle.tso_table.proofs.number.count_of_calls.Given as goal

abbrev pub invariant-loop-number : goal.invariant-loop-number
invariant-loop-number g l = (l.sum ≡ sum_by (λ (calls : List Call). length calls) (take l.number (g.S.Viewed.state l.state).history) % 16) × (l.sum < 16)
