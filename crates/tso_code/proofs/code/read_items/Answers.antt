use Rattle.std.proofs.lemmas.Result.{err_from_is_err_and}
use Rattle.tso_code.specs.Fields.{items_at}
use Rattle.tso_code.proofs.ItemLemmas.{goes_on, ends, is_done}
use Rattle.tso_code.proofs.code.read_items.Goals as goal

pub returns-in_err-item-clause-read : goal.returns-in_err-item-clause-read
returns-in_err-item-clause-read g c =
    let p = err_from_is_err_and c.from_residual.result c.from_residual.ensures.1 in
    rw (p.1, p.2) (ends g.T.Code.read_at c.in_err-item.field-0.0 c.loop.items.items c.args.count c.loop.counter c.loop.rest.now (items_at g.T.Code.read_at c.args.count c.args.bytes.now) c.loop-test.true c.in_err-item.ensures.read c.loop.invariant.0)

pub loop-preserved : goal.loop-preserved
loop-preserved g c = (rw (c.in_ok-push.ensures.items, c.make_room.ensures) (goes_on g.T.Code.read_at c.loop.items.items c.args.count c.loop.counter c.loop.rest.now c.in_ok-item.item c.in_ok-item.after.now (items_at g.T.Code.read_at c.args.count c.args.bytes.now) c.loop-test.true c.in_ok-item.ensures.read c.loop.invariant.0), λ e. let unread = c.in_ok-item.ensures.empty (c.loop.invariant.1 e).1 in absurd cc)

pub returns-clause-read : goal.returns-clause-read
returns-clause-read g c = is_done g.T.Code.read_at c.loop.items.items c.args.count c.loop.counter c.loop.rest.now (items_at g.T.Code.read_at c.args.count c.args.bytes.now) c.loop-test.false c.loop.invariant.0
