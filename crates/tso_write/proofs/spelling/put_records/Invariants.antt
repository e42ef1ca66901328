use Rattle.tso_write.specs.Spelling.{AreSpelledBehind}
use Rattle.tso_write.specs.Tasks.{uncut}
use Rattle.tso_write.proofs.spelling.put_records.Given as goal

abbrev pub invariant-loop-number : goal.invariant-loop-number
invariant-loop-number l = AreSpelledBehind (uncut l.checked.client l.ground l.store.states l.numbers) l.number-index l.fn.out.items l.out.items
