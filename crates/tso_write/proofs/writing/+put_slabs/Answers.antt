use Rattle.std.proofs.Common.{refl}
use Rattle.tso_cert.proofs.WriteLemmas.{on_err}
use Rattle.tso_write.proofs.WritingLemmas.{byte_begun, part_before_state, part_of_left, part_of_right, part_of_state, put_fork}
use Rattle.tso_write.specs.Unspelled.{numbers_of}
use Rattle.tso_write.proofs.writing.+put_slabs.Goals as goal

pub returns-in_err-put_bytes-clause-err : goal.returns-in_err-put_bytes-clause-err
returns-in_err-put_bytes-clause-err g t c =
    on_err _ (byte_begun (numbers_of c.args.whole.now) (numbers_of c.in-Some.left) (numbers_of c.in-Some.right) c.in-Some.ensures.0 _ _ _ refl c.in_err-put_bytes.ensures.err)

pub returns-in_err-put_slabs-clause-err : goal.returns-in_err-put_slabs-clause-err
returns-in_err-put_slabs-clause-err g t c =
    on_err _ (part_of_left (numbers_of c.args.whole.now) (numbers_of c.in-Some.left) (numbers_of c.in-Some.right) c.in-Some.ensures.0 _ _ _ refl c.in_ok-put_bytes.ensures.ok _ c.in_err-put_slabs.ensures.err)

pub returns-in_err-middle-clause-err : goal.returns-in_err-middle-clause-err
returns-in_err-middle-clause-err g t c =
    on_err _ (part_before_state (numbers_of c.args.whole.now) (numbers_of c.in-Some.left) (numbers_of c.in-Some.right) c.in-Some.ensures.0 _ _ _ refl c.in_ok-put_bytes.ensures.ok _ c.in_ok-put_slabs.ensures.ok)

pub returns-in_err-put_bytes-2-clause-err : goal.returns-in_err-put_bytes-2-clause-err
returns-in_err-put_bytes-2-clause-err g t c =
    on_err _ (part_of_state (numbers_of c.args.whole.now) (numbers_of c.in-Some.left) (numbers_of c.in-Some.right) c.in-Some.ensures.0 _ _ _ refl c.in_ok-put_bytes.ensures.ok _ c.in_ok-put_slabs.ensures.ok
    _ _ _ c.in_ok-middle.ensures c.as_slice.ensures.value c.in_err-put_bytes-2.ensures.err)

pub returns-in_err-put_slabs-2-clause-err : goal.returns-in_err-put_slabs-2-clause-err
returns-in_err-put_slabs-2-clause-err g t c =
    on_err _ (part_of_right (numbers_of c.args.whole.now) (numbers_of c.in-Some.left) (numbers_of c.in-Some.right) c.in-Some.ensures.0 _ _ _ refl c.in_ok-put_bytes.ensures.ok _ c.in_ok-put_slabs.ensures.ok
    _ _ _ c.in_ok-middle.ensures c.as_slice.ensures.value c.in_ok-put_bytes-2.ensures.ok _ c.in_err-put_slabs-2.ensures.err)

pub returns-clause-ok : goal.returns-clause-ok
returns-clause-ok g t c =
    put_fork (numbers_of c.args.whole.now) (numbers_of c.in-Some.left) (numbers_of c.in-Some.right) c.in-Some.ensures.0 _ _ _ refl c.in_ok-put_bytes.ensures.ok _ c.in_ok-put_slabs.ensures.ok
    _ _ _ c.in_ok-middle.ensures c.as_slice.ensures.value c.in_ok-put_bytes-2.ensures.ok _ c.requires.ready.cut c.in_ok-put_slabs-2.ensures.ok
