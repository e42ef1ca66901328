use Rattle.tso_store.specs.Remembered.{AreKnown}
use Rattle.tso_store.proofs.known.make_room.Given as goal

abbrev pub invariant-loop : goal.invariant-loop
invariant-loop l = AreKnown l.client l.threads l.known
