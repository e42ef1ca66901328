use Rattle.tso_cert.proofs.WriteLemmas.{on_err}
use Rattle.tso_write.proofs.WritingLemmas.{part_of_nothing}
use Rattle.tso_write.specs.Unspelled.{numbers_of}
use Rattle.tso_write.proofs.writing.put_tree.Goals as goal

pub returns-in_err-list_slabs-clause-err : goal.returns-in_err-list_slabs-clause-err
returns-in_err-list_slabs-clause-err g c = on_err _ (part_of_nothing (numbers_of c.args.whole.now) _)

pub returns-in_err-new-clause-err : goal.returns-in_err-new-clause-err
returns-in_err-new-clause-err g c = on_err _ (part_of_nothing (numbers_of c.args.whole.now) _)
