use Rattle.std.proofs.Common.{arith}
use Rattle.std.proofs.lemmas.Bool.Decides.{nat_tests}
use Rattle.tso_write.proofs.CuttingLemmas.{none_over}
use Rattle.tso_write.proofs.cutting.end_of.Goals as goal

pub order_of-requires-clause-over : goal.order_of-requires-clause-over
order_of-requires-clause-over c = none_over c.args.checked.now.client c.args.table.now c.args.state.now c.in_ok-choices.choices c.requires.well_formed c.in_ok-choices.ensures (grind (arith, nat_tests))
