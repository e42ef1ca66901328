use Rattle.std.proofs.Common.{◌<◌, ◌∙◌, arith, length, sym}
use Rattle.std.proofs.lemmas.List.{length-set}
use Rattle.std.proofs.lemmas.Option.{get_or_from_slice_get}
use Rattle.tso_parts.proofs.Outcomes.{on_err}
use Rattle.tso_keys.proofs.Rows.{no_row, row_step, was_nowhere}
use Rattle.tso_keys.proofs.viewed_key.add_viewed.Goals as goal

pub loop-i-preserved : goal.loop-i-preserved
loop-i-preserved c =
    let all = c.args.view.now.threads in
    let lt : c.loop-i.i < length all = omega (arith, c.loop-i-test.true, c.thread_count-i-end.ensures) in
    let at = sym (get_or_from_slice_get all c.loop-i.i c.in-Some.thread.now c.in-Some.thread.now (sym c.in-Some.ensures)) in (
      row_step c.loop-i.threads c.add_near.new.catalog c.loop-i.numbers all c.loop-i.i c.in_ok-number.number c.in-Some.thread.now c.loop-i.invariant.0 c.add_near.ensures.extends c.loop-i.invariant.2 c.requires lt at c.in_ok-number.ensures.number,
      λ i x e. c.add_near.ensures.extends i x (c.loop-i.invariant.1 i x e),
      length-set c.loop-i.numbers c.loop-i.i c.in_ok-number.number ∙ c.loop-i.invariant.2,
      λ h. c.add_near.ensures.small (c.loop-i.invariant.3 h),
      omega (arith, c.add_near.ensures.more, c.loop-i.invariant.4),
    )

pub returns-in_err-number-clause-absent : goal.returns-in_err-number-clause-absent
returns-in_err-number-clause-absent c =
    let all = c.args.view.now.threads in
    let lt : c.loop-i.i < length all = omega (arith, c.loop-i-test.true, c.thread_count-i-end.ensures) in
    let at = sym (get_or_from_slice_get all c.loop-i.i c.in-Some.thread.now c.in-Some.thread.now (sym c.in-Some.ensures)) in
    on_err _ (no_row c.args.threads.now all c.loop-i.i c.in-Some.thread.now lt at (was_nowhere c.args.threads.now c.loop-i.threads c.in-Some.thread.now c.loop-i.invariant.1 c.in_err-number.ensures.absent))
