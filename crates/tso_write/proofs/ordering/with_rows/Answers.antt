use Rattle.std.proofs.Common.{◌∙◌, sym}
use Rattle.tso_write.proofs.OrderingLemmas.{row_more}
use Rattle.tso_write.proofs.ordering.with_rows.Goals as goal

pub loop-number-preserved : goal.loop-number-preserved
loop-number-preserved c =
    row_more c.args.standings.now c.args.numbers.now c.loop-number.number-index _ c.in-Some.row c.loop-number.all.items _ c.loop-number.invariant c.loop-number-test.true (sym c.get.ensures ∙ c.in-Some.is) c.in_ok-push.ensures.items
