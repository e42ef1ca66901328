use Rattle.tso_move.specs.Free.{HasNoFreeBelow, HasNoFreeOf}
use Rattle.tso_store.proofs.arrived.free_in.Given as goal

abbrev pub invariant-loop-thread : goal.invariant-loop-thread
invariant-loop-thread g l = record {
  first : HasNoFreeOf l.checked.client l.own l.table (g.S.Viewed.state l.state) l.first;
  below : HasNoFreeBelow l.checked.client l.own l.table (g.S.Viewed.state l.state) l.thread;
}
