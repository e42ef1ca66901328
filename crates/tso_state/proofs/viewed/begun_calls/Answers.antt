use Rattle.std.proofs.Common.{[], arith}
use Rattle.tso_state.proofs.viewed.begun_calls.Goals as goal

pub returns-in-None : goal.returns-in-None
returns-in-None c = rw c.threads.ensures at (c.in-None.ensures.lookup.4 (omega arith) [])
