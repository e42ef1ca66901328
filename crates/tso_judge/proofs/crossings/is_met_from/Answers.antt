use Rattle.tso_cert.specs.Lookup.{tree_states}
use Rattle.tso_cert.specs.Trees.{tree_of}
use Rattle.tso_judge.proofs.CrossingLemmas.{met_from}
use Rattle.tso_judge.proofs.crossings.is_met_from.Goals as goal

pub returns : goal.returns
returns c =
    let w = c.args.whole.now in
    met_from w.checked.now.client w.own.now w.basis.now.table (tree_states (tree_of w.tree.now)) c.args.state c.in_ok-stop.stop c.has.result c.in_ok-stop.ensures c.has.ensures
