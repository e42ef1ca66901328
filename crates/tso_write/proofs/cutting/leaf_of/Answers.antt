use Rattle.std.proofs.Common.{arith}
use Rattle.tso_write.proofs.CuttingLemmas.{leaf_more}
use Rattle.tso_write.proofs.cutting.leaf_of.Goals as goal
use Rattle.tso_rec.specs.Keeping.{record_of}

pub loop-number-preserved : goal.loop-number-preserved
loop-number-preserved c =
    leaf_more c.args.checked.now.client c.args.ground.now c.args.store.now.states c.args.numbers.now c.loop-number.number-index c.loop-number.records c.append.new.self (record_of c.in_ok-added.added) c.loop-number.invariant (omega arith) c.in_ok-added.ensures c.in_ok-append.ensures.ok
