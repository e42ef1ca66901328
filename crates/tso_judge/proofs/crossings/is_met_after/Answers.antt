use Rattle.tso_cert.specs.Lookup.{tree_states}
use Rattle.tso_cert.specs.Trees.{tree_of}
use Rattle.tso_judge.proofs.CrossingLemmas.{if_met}
use Rattle.tso_judge.proofs.crossings.is_met_after.Goals as goal

pub returns-in-Ok : goal.returns-in-Ok
returns-in-Ok c =
    let w = c.args.whole.now in
    if_met w.checked.now.client w.own.now w.basis.now.table (tree_states (tree_of w.tree.now)) c.args.state.now c.in-Ok.after c.args.actor c.is_met_from.result c.in-Ok.ensures.ok c.is_met_from.ensures
