use Rattle.tso_store.specs.Remembered.{AreKnown}
use Rattle.tso_store.proofs.known.learn_runs.Given as goal

abbrev pub invariant-loop-number : goal.invariant-loop-number
invariant-loop-number l = AreKnown l.client l.threads l.known
