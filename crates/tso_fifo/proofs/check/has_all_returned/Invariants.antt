use Rattle.std.proofs.Common.{◌≡◌, ℕ, ◌<◌, Some, Contains}
use Rattle.tso_fifo.specs.Check.{begun_at}
use Rattle.tso_hist.specs.declared.call.Call.{Call}
use Rattle.tso_prog.specs.declared.answer.Answer.{Answer}
use Rattle.tso_fifo.proofs.check.has_all_returned.Given as goal

abbrev pub invariant-loop-thread : goal.invariant-loop-thread
invariant-loop-thread l = (t k : ℕ) (c : Call) (a : Answer) → t < l.thread → begun_at l.history t k ≡ Some c → c.answer ≡ Some a → Contains l.order (record { thread = t; call = k; answer = a })
