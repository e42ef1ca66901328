use Rattle.std.proofs.Common.{arith}
use Rattle.std.proofs.lemmas.Result.{err_from_is_err_and}
use Rattle.tso_code.specs.Fields.{items_at}
use Rattle.tso_rec.specs.Spelling.{record_at}
use Rattle.tso_skim.proofs.SkipLemmas.{goes_on, is_done, stops}
use Rattle.tso_skim.specs.Skips.{after}
use Rattle.tso_skim.proofs.end.skip_records.Goals as goal

pub returns-in_err-rest : goal.returns-in_err-rest
returns-in_err-rest c =
    let p = err_from_is_err_and c.from_residual.result c.from_residual.ensures.1 in
    rw p.1 (stops (record_at c.args.grain) c.args.count c.loop.counter c.loop.rest.now (after (items_at (record_at c.args.grain) c.args.count c.args.bytes.now)) (omega (arith, c.loop-test.true)) c.in_err-rest.ensures c.loop.invariant)

pub loop-preserved : goal.loop-preserved
loop-preserved c =
    goes_on (record_at c.args.grain) c.args.count c.loop.counter c.loop.rest.now c.in_ok-rest.rest.now (after (items_at (record_at c.args.grain) c.args.count c.args.bytes.now)) (omega (arith, c.loop-test.true)) c.in_ok-rest.ensures c.loop.invariant

pub returns : goal.returns
returns c = is_done (record_at c.args.grain) c.args.count c.loop.counter c.loop.rest.now (after (items_at (record_at c.args.grain) c.args.count c.args.bytes.now)) (omega (arith, c.loop-test.false)) c.loop.invariant
