use Rattle.std.proofs.Common.{arith, refl}
use Rattle.tso_cert.specs.Lookup.{tree_states}
use Rattle.tso_cert.specs.Trees.{tree_of}
use Rattle.tso_judge.proofs.CrossingLemmas.{all_met, met_more, met_none}
use Rattle.tso_judge.proofs.crossings.are_moves_met.Goals as goal

pub loop-thread-init : goal.loop-thread-init
loop-thread-init c = let w = c.args.whole.now in met_none w.checked.now.client w.own.now w.basis.now.table (tree_states (tree_of w.tree.now)) c.args.state.now

pub loop-thread-preserved : goal.loop-thread-preserved
loop-thread-preserved c =
    let w = c.args.whole.now in
    met_more w.checked.now.client w.own.now w.basis.now.table (tree_states (tree_of w.tree.now)) c.args.state.now c.loop-thread.thread c.loop-thread.invariant (c.in_ok-is_thread_met.ensures.0 c.if-not-branch.false)

pub returns : goal.returns
returns c =
    let w = c.args.whole.now in
    (λ e. all_met w.checked.now.client w.own.now w.basis.now.table (tree_states (tree_of w.tree.now)) c.args.state.now c.requires.least c.loop-thread.thread (omega (arith, c.loop-thread-test.false, c.thread_count-thread-end.ensures)) c.loop-thread.invariant, λ m. refl)
