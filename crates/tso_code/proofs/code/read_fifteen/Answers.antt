use Rattle.std.proofs.Common.{◌≡◌, ◌<◌, List, Some, take, length, arith, ◌∙◌, ap, sym}
use Rattle.std.proofs.Math.ListN.{length-set}
use Rattle.std.proofs.lemmas.List.{take_more_set, take_all}
use Rattle.std.proofs.lemmas.Result.{err_from_is_err_and}
use Rattle.tso_code.specs.Fields.{items_at}
use Rattle.tso_code.proofs.ItemLemmas.{goes_on, ends, is_done}
use Rattle.tso_code.proofs.code.read_fifteen.Goals as goal

pub returns-in_err-item-clause-read : goal.returns-in_err-item-clause-read
returns-in_err-item-clause-read g c =
    let p = err_from_is_err_and c.from_residual.result c.from_residual.ensures.1 in
    rw (p.1, p.2) (ends g.T.Code.read_at c.in_err-item.field-0.0 (take c.loop-i.i c.loop-i.items) 15 c.loop-i.i c.loop-i.rest.now (items_at g.T.Code.read_at 15 c.args.bytes.now) c.loop-i-test.true c.in_err-item.ensures.read c.loop-i.invariant.1)

pub loop-i-preserved : goal.loop-i-preserved
loop-i-preserved g c =
    let more = goes_on g.T.Code.read_at (take c.loop-i.i c.loop-i.items) 15 c.loop-i.i c.loop-i.rest.now c.in_ok-item.item c.in_ok-item.after.now (items_at g.T.Code.read_at 15 c.args.bytes.now) c.loop-i-test.true c.in_ok-item.ensures.read c.loop-i.invariant.1 in
    let len : c.loop-i.i < length c.loop-i.items = omega arith in
    (simp length-set c.loop-i.invariant.0, rw (take_more_set c.loop-i.items c.loop-i.i c.in_ok-item.item len) more, λ e. let unread = c.in_ok-item.ensures.empty (c.loop-i.invariant.2 e).1 in absurd cc)

pub returns-clause-empty : goal.returns-clause-empty
returns-clause-empty g c = λ e. let begun = c.loop-i.invariant.2 e in absurd (omega (arith, begun.0, c.loop-i-test.false))

pub returns-clause-read : goal.returns-clause-read
returns-clause-read g c =
    let done = is_done g.T.Code.read_at (take c.loop-i.i c.loop-i.items) 15 c.loop-i.i c.loop-i.rest.now (items_at g.T.Code.read_at 15 c.args.bytes.now) c.loop-i-test.false c.loop-i.invariant.1 in
    let all : take c.loop-i.i c.loop-i.items ≡ c.loop-i.items = take_all c.loop-i.i c.loop-i.items (omega arith) in
    done ∙ ap (λ w. Some (w, c.loop-i.rest.now)) all
