use Rattle.std.proofs.Common.{◌+◌, arith, rules}
use Rattle.std.proofs.lemmas.Option.{slice_get_within}
use Rattle.tso_cells.proofs.TestLemmas.{rising_more}
use Rattle.tso_cells.proofs.lists.are_rising.Goals as goal

pub loop-n-preserved : goal.loop-n-preserved
loop-n-preserved c = rising_more c.args.list.now c.loop-n.n _ _ c.loop-n.auto.n c.loop-n.invariant c.if-list-n.false

pub returns : goal.returns
returns c = (
  λ yes n one next at there. let within = slice_get_within c.args.list.now (n + 1) next there in c.loop-n.invariant n one next (omega (arith, within, c.loop-n-test.false)) at there,
  λ is. search rules,
)
