use Rattle.std.proofs.Common.{take}
use Rattle.tso_keys.specs.Forms.{AreAnswers, IsThreadForm}
use Rattle.tso_keys.proofs.forms.thread_forms.Given as goal

abbrev pub invariant-loop-thread : goal.invariant-loop-thread
invariant-loop-thread l = AreAnswers (IsThreadForm l.checked.client) (take l.thread-index l.threads) l.forms
