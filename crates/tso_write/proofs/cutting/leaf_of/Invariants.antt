use Rattle.std.proofs.Common.{take}
use Rattle.tso_write.specs.Cutting.{AreRecordsOf}
use Rattle.tso_write.proofs.cutting.leaf_of.Given as goal

abbrev pub invariant-loop-number : goal.invariant-loop-number
invariant-loop-number l = AreRecordsOf l.checked.client l.ground l.store.states (take l.number-index l.numbers) l.records
