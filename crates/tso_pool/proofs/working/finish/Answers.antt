use Rattle.std.proofs.Common.{arith}
use Rattle.std.proofs.lemmas.Bool.Decides.{nat_tests}
use Rattle.tso_pool.proofs.EndLemmas.{none_over}
use Rattle.tso_pool.proofs.working.finish.Goals as goal

pub finish_order-requires-clause-over : goal.finish_order-requires-clause-over
finish_order-requires-clause-over g c =
    none_over c.args.team.now.checked.now.client c.args.team.now.table.now c.args.kept.now.state c.in_ok-choices.choices c.requires.kept.plausible.well_formed c.in_ok-choices.ensures (grind (arith, nat_tests))
