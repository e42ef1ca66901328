use Rattle.std.proofs.Common.{arith}
use Rattle.tso_search.proofs.SearchLemmas.{ok_as}
use Rattle.tso_explore.proofs.AskedLemmas.{all_worked}
use Rattle.tso_explore.proofs.closing.are_worked.Goals as goal

pub run_by-requires-clause-ready : goal.run_by-requires-clause-ready
run_by-requires-clause-ready g c = λ k within. record { client = c.requires.client; begun = c.requires.begun; ordered = omega arith; there = omega (arith, c.len.ensures) }

pub returns : goal.returns
returns g c =
    ok_as c.run_by.result c.run_by.ensures
    (λ worked all is. all_worked c.args.checked.now.client c.args.table.now c.args.store.now.states c.len.result c.requires.begun c.len.ensures (all is))
