use Rattle.std.proofs.Common.{◌∙◌}
use Rattle.std.proofs.lemmas.List.{length-set}
use Rattle.tso_keys.proofs.Rows.{no_row, row_step}
use Rattle.tso_keys.proofs.kept.find_threads.Goals as goal

pub returns-in_default-clause-none : goal.returns-in_default-clause-none
returns-in_default-clause-none c = no_row c.args.threads.now c.args.all.now c.loop-i.i c.index-all-i.result c.loop-i-test.true c.index-all-i.is c.in_default.ensures

pub loop-i-preserved : goal.loop-i-preserved
loop-i-preserved c = (row_step c.args.threads.now c.args.threads.now c.loop-i.numbers c.args.all.now c.loop-i.i c.in-Some.number c.index-all-i.result c.loop-i.invariant.0 (λ i x e. e) c.loop-i.invariant.1 c.requires c.loop-i-test.true c.index-all-i.is c.in-Some.ensures, length-set c.loop-i.numbers c.loop-i.i c.in-Some.number ∙ c.loop-i.invariant.1)
