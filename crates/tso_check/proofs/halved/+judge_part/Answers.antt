use Rattle.std.proofs.Common.{◌+◌, ◌++◌}
use Rattle.tso_cert.specs.Lookup.{tree_states}
use Rattle.tso_cert.specs.Trees.{records_of, tree_of}
use Rattle.tso_check.proofs.WalkLemmas.{bad_left, if_ok, judged_right}
use Rattle.tso_check.proofs.halved.+judge_part.Goals as goal
use Rattle.tso_check.specs.Halved.{AreJudgedIn}

pub returns-in-Some : goal.returns-in-Some
returns-in-Some g t c =
    let w = c.args.whole.now in
    let left = tree_of c.in-Fork.left.value in
    let right = tree_of c.in-Fork.right.value in
    let found = rw c.in-Some.is at (rw c.deref.ensures at c.in_ok-bad-in-Fork.ensures) in
    rw c.in-Fork.is (bad_left w.checked.now.client w.basis.now (tree_states (tree_of w.tree.now)) (records_of left) (records_of right) c.args.start c.in-Some.bad found)

pub returns-in-None : goal.returns-in-None
returns-in-None g t c =
    let w = c.args.whole.now in
    let left = tree_of c.in-Fork.left.value in
    let right = tree_of c.in-Fork.right.value in
    let valid = rw c.in-None.is at (rw c.deref.ensures at c.in_ok-bad-in-Fork.ensures) in
    let count = rw c.deref-in-None-2.ensures at c.len.ensures in
    let judged = rw c.deref-in-None.ensures at c.judge_part-in-None.ensures in
    rw c.in-Fork.is (if_ok (AreJudgedIn w (records_of right) (c.args.start + c.len.result)) (AreJudgedIn w (records_of left ++ records_of right) c.args.start) c.judge_part-in-None.result
    (λ found. judged_right w.checked.now.client w.basis.now (tree_states (tree_of w.tree.now)) left right c.args.start c.len.result found count valid) judged)

pub returns-in-Leaf : goal.returns-in-Leaf
returns-in-Leaf g t c = rw c.in-Leaf.is c.judge_leaf.ensures
