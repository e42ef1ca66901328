use Rattle.tso_scan.proofs.HistoryLemmas.{copied_all, copied_end, copied_more}
use Rattle.tso_scan.proofs.histories.copied_lists.Goals as goal
use Rattle.tso_keys.specs.Numbers.{values_at}

pub returns-in-None : goal.returns-in-None
returns-in-None c =
    copied_end c.args.lists.now c.args.numbers.now c.loop-number.copies (values_at c.args.lists.now c.args.numbers.now) c.loop-number.number-index c.loop-number-test.true c.in-None.ensures c.loop-number.invariant

pub loop-number-preserved : goal.loop-number-preserved
loop-number-preserved c =
    rw (c.in_ok-push-in-Some.ensures.ok, c.in_ok-copy_of-in-Some.ensures)
    (copied_more c.args.lists.now c.args.numbers.now c.loop-number.copies (values_at c.args.lists.now c.args.numbers.now) c.loop-number.number-index c.in-Some.list.now c.loop-number-test.true c.in-Some.ensures c.loop-number.invariant)

pub returns : goal.returns
returns c = copied_all c.args.lists.now c.args.numbers.now c.loop-number.copies (values_at c.args.lists.now c.args.numbers.now) c.loop-number.number-index c.loop-number-test.false c.loop-number.invariant
