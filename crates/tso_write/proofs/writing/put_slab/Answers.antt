use Rattle.tso_cert.proofs.WriteLemmas.{on_err}
use Rattle.tso_write.proofs.WritingLemmas.{part_of_nothing, slab_begun, slab_put}
use Rattle.tso_write.specs.Unspelled.{numbers_of}
use Rattle.tso_write.proofs.writing.put_slab.Goals as goal

pub returns-in_err-bytes-clause-err : goal.returns-in_err-bytes-clause-err
returns-in_err-bytes-clause-err g c = on_err _ (part_of_nothing (numbers_of c.args.whole.now) _)

pub returns-in_err-put_bytes-clause-err : goal.returns-in_err-put_bytes-clause-err
returns-in_err-put_bytes-clause-err g c = on_err _ (slab_begun (numbers_of c.args.whole.now) _ _ _ _ c.as_slice.ensures.value c.in_ok-bytes.ensures c.in_err-put_bytes.ensures.err)

pub returns-clause-ok : goal.returns-clause-ok
returns-clause-ok g c = slab_put (numbers_of c.args.whole.now) _ _ _ _ c.as_slice.ensures.value c.in_ok-bytes.ensures c.in_ok-put_bytes.ensures.ok
