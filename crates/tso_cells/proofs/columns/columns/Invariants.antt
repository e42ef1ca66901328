use Rattle.std.proofs.Common.{◌≡◌, ℕ, List, Some, length, slice_get}
use Rattle.tso_cells.specs.declared.interval.Interval.{Interval}
use Rattle.tso_cells.specs.Columns.{IsColumn}
use Rattle.tso_cells.proofs.columns.columns.Given as goal

abbrev pub invariant-loop-array : goal.invariant-loop-array
invariant-loop-array l = record {
  count : length l.columns.items ≡ l.array;
  each : (n : ℕ) (x : List Interval) → slice_get l.columns.items n ≡ Some x → IsColumn l.access l.arrays l.steps l.rows n x;
}
