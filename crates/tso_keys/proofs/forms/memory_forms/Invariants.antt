use Rattle.std.proofs.Common.{take}
use Rattle.tso_keys.specs.Forms.{AreAnswers, IsMemoryForm}
use Rattle.tso_keys.proofs.forms.memory_forms.Given as goal

abbrev pub invariant-loop-memory : goal.invariant-loop-memory
invariant-loop-memory l = AreAnswers (IsMemoryForm l.checked.client) (take l.memory-index l.memories) l.forms
