use Rattle.tso_keys.specs.Keys.{state_at}
use Rattle.tso_store.specs.Lone.{HasNoLoneBelow}
use Rattle.tso_store.proofs.lone.lone_at.Given as goal

abbrev pub invariant-loop-thread : goal.invariant-loop-thread
invariant-loop-thread l = HasNoLoneBelow l.checked.client (state_at l.parts l.key) l.thread
