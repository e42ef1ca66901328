use Rattle.tso_keys.specs.Keys.{state_at}
use Rattle.tso_move.specs.Cost.{cost}
use Rattle.tso_store.proofs.Arrivals.{IsOnWay}
use Rattle.tso_store.specs.Remembered.{AreKnown}
use Rattle.tso_store.proofs.arrived.arrive_key.Given as goal

abbrev pub invariant-run : goal.invariant-run
invariant-run l = record {
  way : IsOnWay l.checked.client l.own l.table l.fn.parts l.key l.parts l.last;
  known : AreKnown l.checked.client l.parts.threads l.known;
}

abbrev pub decreases-run : goal.decreases-run
decreases-run l = cost l.checked.client (state_at l.parts l.last)
