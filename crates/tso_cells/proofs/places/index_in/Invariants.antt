use Rattle.std.proofs.Common.{◌≡◌, ◌+◌, length, take}
use Rattle.std.specs.Prelude.{sum_by}
use Rattle.tso_prog.specs.declared.client.Array.{Array}
use Rattle.tso_cells.proofs.places.index_in.Given as goal

abbrev pub invariant-loop-other : goal.invariant-loop-other
invariant-loop-other l = sum_by (λ (a : Array). length a.words) (take l.other-index l.before) + l.left ≡ l.place
