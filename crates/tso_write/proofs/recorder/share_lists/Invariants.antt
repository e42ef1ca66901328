use Rattle.std.proofs.Common.{◌≡◌, take}
use Rattle.tso_write.proofs.recorder.share_lists.Given as goal

abbrev pub invariant-loop-list : goal.invariant-loop-list
invariant-loop-list l = l.shared ≡ take l.list-index l.lists
