use Rattle.std.proofs.Common.{take}
use Rattle.tso_keys.specs.Forms.{AreAnswers, IsHistoryForm}
use Rattle.tso_keys.proofs.forms.history_forms.Given as goal

abbrev pub invariant-loop-history : goal.invariant-loop-history
invariant-loop-history l = AreAnswers (IsHistoryForm l.checked.client) (take l.history-index l.histories) l.forms
