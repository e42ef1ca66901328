use Rattle.tso_check.proofs.StoredLemmas.{none_left, none_valid, number_bad, number_valid, valid_up_to}
use Rattle.tso_check.proofs.stored.judge_numbers.Goals as goal

pub loop-number-init : goal.loop-number-init
loop-number-init g c = none_valid c.args.checked.now.client c.args.scanned.now c.requires.stored c.args.from

pub returns-in-None : goal.returns-in-None
returns-in-None g c = none_left c.args.checked.now.client c.args.scanned.now c.requires.stored c.args.from c.args.to c.loop-number.number c.in-None.ensures c.loop-number.invariant

pub returns-in-Some-2 : goal.returns-in-Some-2
returns-in-Some-2 g c =
    number_bad c.args.checked.now.client c.args.scanned.now c.requires.stored c.args.from c.args.to c.loop-number.number c.in-Some.end.now c.in-Some-2.code c.loop-number.auto.number c.loop-number-test.true c.in-Some.ensures c.loop-number.invariant (rw c.in-Some-2.is at c.in_ok-code.ensures)

pub loop-number-preserved : goal.loop-number-preserved
loop-number-preserved g c =
    number_valid c.args.checked.now.client c.args.scanned.now c.requires.stored c.args.from c.loop-number.number c.in-Some.end.now c.in-Some.ensures c.loop-number.invariant (rw c.in-None-2.is at c.in_ok-code.ensures)

pub returns : goal.returns
returns g c = valid_up_to c.args.checked.now.client c.args.scanned.now c.requires.stored c.args.from c.args.to c.loop-number.number c.loop-number-test.false c.loop-number.invariant

pub judge_number-requires : goal.judge_number-requires
judge_number-requires g c = record { rising = c.requires.stored.rising; client = c.requires.stored.client; forms = c.requires.forms }
