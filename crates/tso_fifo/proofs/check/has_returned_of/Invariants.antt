use Rattle.std.proofs.Common.{◌≡◌, ℕ, ◌<◌, Some, slice_get, Contains}
use Rattle.tso_hist.specs.declared.call.Call.{Call}
use Rattle.tso_prog.specs.declared.answer.Answer.{Answer}
use Rattle.tso_fifo.proofs.check.has_returned_of.Given as goal

abbrev pub invariant-loop-call : goal.invariant-loop-call
invariant-loop-call l = (k : ℕ) (c : Call) (a : Answer) → k < l.call → slice_get l.calls k ≡ Some c → c.answer ≡ Some a → Contains l.order (record { thread = l.thread; call = k; answer = a })
