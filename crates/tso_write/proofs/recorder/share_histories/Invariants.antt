use Rattle.std.proofs.Common.{◌≡◌, take}
use Rattle.tso_write.proofs.recorder.share_histories.Given as goal

abbrev pub invariant-loop-history : goal.invariant-loop-history
invariant-loop-history l = l.shared ≡ take l.history-index l.histories
