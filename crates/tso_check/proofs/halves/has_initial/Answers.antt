use Rattle.tso_cert.specs.Lookup.{tree_states}
use Rattle.tso_cert.specs.Trees.{tree_of}
use Rattle.tso_check.proofs.VerdictLemmas.{if_initial}
use Rattle.tso_check.proofs.halves.has_initial.Goals as goal

pub returns-in-Steps : goal.returns-in-Steps
returns-in-Steps c = rw c.in-Steps.is c.contains_initial.ensures

pub returns-in_ok-initial-in-Crossings : goal.returns-in_ok-initial-in-Crossings
returns-in_ok-initial-in-Crossings c =
    let w = c.args.whole.now in
    let initial = c.in_ok-initial-in-Crossings.initial in
    rw c.in-Crossings.is (if_initial w.checked.now.client w.own.now w.basis.now.table (tree_states (tree_of w.tree.now)) initial c.is_met_from.result c.requires.least c.in_ok-initial-in-Crossings.ensures.first c.is_met_from.ensures)
