use Rattle.tso_move.specs.Free.{HasNoFreeBelow}
use Rattle.tso_move.proofs.free.lowest_free.Given as goal

abbrev pub invariant-loop-thread : goal.invariant-loop-thread
invariant-loop-thread g l = HasNoFreeBelow l.checked.client l.own l.table (g.S.Viewed.state l.state) l.thread
