use Rattle.std.proofs.Common.{◌<◌, ◌∙◌, arith, length, sym}
use Rattle.std.proofs.lemmas.List.{length-set}
use Rattle.std.proofs.lemmas.Option.{get_or_from_slice_get}
use Rattle.tso_keys.proofs.Rows.{no_row, row_step}
use Rattle.tso_keys.proofs.viewed_key.find_viewed.Goals as goal

pub returns-in_default-find_near-clause-none : goal.returns-in_default-find_near-clause-none
returns-in_default-find_near-clause-none c =
    let all = c.args.view.now.threads in
    let lt : c.loop-i.i < length all = omega (arith, c.loop-i-test.true, c.thread_count-i-end.ensures) in
    let at = sym (get_or_from_slice_get all c.loop-i.i c.in-Some.thread.now c.in-Some.thread.now (sym c.in-Some.ensures)) in
    no_row c.args.threads.now all c.loop-i.i c.in-Some.thread.now lt at c.in_default-find_near.ensures

pub loop-i-preserved : goal.loop-i-preserved
loop-i-preserved c =
    let all = c.args.view.now.threads in
    let lt : c.loop-i.i < length all = omega (arith, c.loop-i-test.true, c.thread_count-i-end.ensures) in
    let at = sym (get_or_from_slice_get all c.loop-i.i c.in-Some.thread.now c.in-Some.thread.now (sym c.in-Some.ensures)) in
    (row_step c.args.threads.now c.args.threads.now c.loop-i.numbers all c.loop-i.i c.in-Some-find_near.number c.in-Some.thread.now c.loop-i.invariant.0 (λ i x e. e) c.loop-i.invariant.1 c.requires lt at c.in-Some-find_near.ensures, length-set c.loop-i.numbers c.loop-i.i c.in-Some-find_near.number ∙ c.loop-i.invariant.1)
