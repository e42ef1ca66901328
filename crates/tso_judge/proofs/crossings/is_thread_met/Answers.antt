use Rattle.tso_cert.specs.Lookup.{tree_states}
use Rattle.tso_cert.specs.Trees.{tree_of}
use Rattle.tso_judge.proofs.CrossingLemmas.{if_thread}
use Rattle.tso_judge.proofs.crossings.is_thread_met.Goals as goal

pub returns : goal.returns
returns c =
    let w = c.args.whole.now in
    if_thread w.checked.now.client w.own.now w.basis.now.table (tree_states (tree_of w.tree.now)) c.args.state.now c.args.thread c.is_met_after-2.result (c.in_ok-is_met_after.ensures.0 c.if-not-branch.false) c.is_met_after-2.ensures
