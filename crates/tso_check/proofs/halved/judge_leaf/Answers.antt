use Rattle.std.proofs.Common.{arith, refl}
use Rattle.tso_cert.specs.Lookup.{tree_states}
use Rattle.tso_cert.specs.Trees.{tree_of}
use Rattle.tso_check.proofs.WalkLemmas.{first_bad, valid_all, valid_one_more}
use Rattle.tso_check.proofs.halved.judge_leaf.Goals as goal

pub returns-in-Some : goal.returns-in-Some
returns-in-Some g c =
    let w = c.args.whole.now in
    let fault = rw c.in-Some.is at c.in_ok-code.ensures in
    (c.loop-k.k, refl, first_bad w.checked.now.client w.basis.now (tree_states (tree_of w.tree.now)) c.args.records.now c.loop-k.k c.in_ok-state.state c.end.result.now c.in-Some.code c.loop-k.invariant c.in_ok-state.ensures c.end.ensures fault)

pub loop-k-preserved : goal.loop-k-preserved
loop-k-preserved g c =
    let w = c.args.whole.now in
    let met = rw c.in-None.is at c.in_ok-code.ensures in
    valid_one_more w.checked.now.client w.basis.now (tree_states (tree_of w.tree.now)) c.args.records.now c.loop-k.k c.in_ok-state.state c.end.result.now c.loop-k.invariant c.in_ok-state.ensures c.end.ensures met

pub returns : goal.returns
returns g c =
    let w = c.args.whole.now in
    valid_all w.checked.now.client w.basis.now (tree_states (tree_of w.tree.now)) c.args.records.now c.loop-k.k (omega (arith, c.loop-k-test.false, c.len-k-end.ensures)) c.loop-k.invariant
