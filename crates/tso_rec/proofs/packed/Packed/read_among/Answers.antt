use Rattle.std.proofs.lemmas.Result.{err_from_is_err_and}
use Rattle.tso_code.specs.Fields.{items_at}
use Rattle.tso_code.proofs.ItemLemmas.{goes_on, ends, is_done}
use Rattle.tso_rec.specs.Keeping.{record_of}
use Rattle.tso_rec.specs.Spelling.{record_at}
use Rattle.tso_rec.proofs.packed.Packed.read_among.Goals as goal

pub returns-in_err-kept-clause-read : goal.returns-in_err-kept-clause-read
returns-in_err-kept-clause-read c =
    let p = err_from_is_err_and c.from_residual.result c.from_residual.ensures.1 in
    rw (p.1, p.2) (ends (record_at c.args.grain) c.in_err-kept.field-0.0 c.loop.packed c.args.count c.loop.counter c.loop.rest.now (items_at (record_at c.args.grain) c.args.count c.args.bytes.now) c.loop-test.true c.in_err-kept.ensures.read c.loop.invariant.0)

pub loop-preserved : goal.loop-preserved
loop-preserved c = (rw c.in_ok-append.ensures.ok (goes_on (record_at c.args.grain) c.loop.packed c.args.count c.loop.counter c.loop.rest.now (record_of c.in_ok-kept.kept) c.in_ok-kept.after.now (items_at (record_at c.args.grain) c.args.count c.args.bytes.now) c.loop-test.true c.in_ok-kept.ensures.read c.loop.invariant.0), λ e. let unread = c.in_ok-kept.ensures.empty (c.loop.invariant.1 e).1 in absurd cc)

pub returns-clause-read : goal.returns-clause-read
returns-clause-read c = is_done (record_at c.args.grain) c.loop.packed c.args.count c.loop.counter c.loop.rest.now (items_at (record_at c.args.grain) c.args.count c.args.bytes.now) c.loop-test.false c.loop.invariant.0
