use Rattle.tso_line.proofs.Each.{some_more, some_stop, some_end, all_within_length}
use Rattle.tso_line.specs.Ranges.{all_within}
use Rattle.tso_line.proofs.reading.all_within.Goals as goal

pub returns-in_default-clause-exact : goal.returns-in_default-clause-exact
returns-in_default-clause-exact g c = some_stop c.loop-value.found.items c.args.values.now c.loop-value.value-index c.value-item.result (all_within c.args.values.now) c.loop-value-test.true c.value-item.is c.in_default.is c.loop-value.invariant

pub loop-value-preserved : goal.loop-value-preserved
loop-value-preserved g c = rw c.in_ok-push.ensures.items (some_more c.loop-value.found.items c.args.values.now c.loop-value.value-index c.value-item.result c.in-Within.value (all_within c.args.values.now) c.loop-value-test.true c.value-item.is c.in-Within.is c.loop-value.invariant)

pub returns-clause-exact : goal.returns-clause-exact
returns-clause-exact g c = rw c.from_vec.ensures (some_end c.loop-value.found.items c.args.values.now c.loop-value.value-index (all_within c.args.values.now) c.loop-value-test.false c.loop-value.invariant)

pub returns-clause-len : goal.returns-clause-len
returns-clause-len g c = rw c.from_vec.ensures (all_within_length c.args.values.now c.loop-value.found.items (some_end c.loop-value.found.items c.args.values.now c.loop-value.value-index (all_within c.args.values.now) c.loop-value-test.false c.loop-value.invariant))
