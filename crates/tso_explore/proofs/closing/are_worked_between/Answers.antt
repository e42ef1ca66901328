use Rattle.std.proofs.Common.{arith}
use Rattle.tso_explore.proofs.AskedLemmas.{one_more_worked}
use Rattle.tso_explore.proofs.closing.are_worked_between.Goals as goal

pub loop-number-preserved : goal.loop-number-preserved
loop-number-preserved c =
    one_more_worked c.args.checked.now.client c.args.table.now c.args.store.now.states c.args.from c.loop-number.number c.loop-number.invariant (c.in_ok-is_worked.ensures c.if-not-branch.false)

pub returns : goal.returns
returns c = λ is n from to. c.loop-number.invariant n from (omega (arith, to, c.loop-number-test.false))
