use Rattle.std.proofs.Common.{◌≡◌, take}
use Rattle.tso_write.proofs.recorder.again_all.Given as goal

abbrev pub invariant-loop-part : goal.invariant-loop-part
invariant-loop-part g l = l.all ≡ take l.part-index l.parts
