use Rattle.std.specs.Prelude.{◌≡◌, true}
use Rattle.tso_move.specs.Free.{passes_below}
use Rattle.tso_move.specs.Parts.{parts_of}
use Rattle.tso_move.proofs.free.is_free.Given as goal

abbrev pub invariant-loop-other : goal.invariant-loop-other
invariant-loop-other g l = passes_below l.checked.client l.table (g.S.Viewed.state l.state) l.thread (parts_of l.kind) l.other ≡ true
