use Rattle.std.proofs.Common.{arith}
use Rattle.tso_write.proofs.SpellingLemmas.{none_spelled, one_more_spelled}
use Rattle.tso_write.specs.Tasks.{uncut}
use Rattle.tso_write.proofs.spelling.put_records.Goals as goal

pub loop-number-init : goal.loop-number-init
loop-number-init c = none_spelled (uncut c.args.checked.now.client c.args.ground.now c.args.store.now.states c.args.numbers.now) c.args.out.now.items

pub loop-number-preserved : goal.loop-number-preserved
loop-number-preserved c =
    one_more_spelled (uncut c.args.checked.now.client c.args.ground.now c.args.store.now.states c.args.numbers.now) c.loop-number.number-index c.args.out.now.items c.loop-number.out.items c.put_record.new.out.items c.in_ok-put_record.ensures.spelled c.loop-number.invariant (omega arith) c.in_ok-put_record.ensures.valid c.in_ok-put_record.ensures.is
