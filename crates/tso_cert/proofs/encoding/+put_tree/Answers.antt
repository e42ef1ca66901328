use Rattle.std.proofs.Common.{ap}
use Rattle.tso_code.specs.States.{state}
use Rattle.tso_cert.proofs.WriteLemmas.{on_err, left_failed, state_failed, right_failed}
use Rattle.tso_cert.proofs.encoding.+put_tree.Goals as goal
use Rattle.tso_cert.specs.Trees.{spelling_of, tree_of}

pub returns-in_err-put_tree-in-Fork-clause-err : goal.returns-in_err-put_tree-in-Fork-clause-err
returns-in_err-put_tree-in-Fork-clause-err g t c =
    rw c.in-Fork.is
    (on_err _ (left_failed _ _ c.args.waiting.now.items _ (spelling_of c.args.grain (tree_of c.in-Fork.left.value)) _ (state c.in-Fork.state) (spelling_of c.args.grain (tree_of c.in-Fork.right.value)) c.in_ok-push-in-Fork.ensures.items (ap (λ x. spelling_of c.args.grain (tree_of x)) c.deref.ensures)
    c.in_err-put_tree-in-Fork.ensures.err))

pub returns-in_err-write-in-Fork-clause-err : goal.returns-in_err-write-in-Fork-clause-err
returns-in_err-write-in-Fork-clause-err g t c =
    rw c.in-Fork.is
    (on_err _ (state_failed _ _ c.args.waiting.now.items _ (spelling_of c.args.grain (tree_of c.in-Fork.left.value)) _ (state c.in-Fork.state) (spelling_of c.args.grain (tree_of c.in-Fork.right.value)) c.in_ok-push-in-Fork.ensures.items (ap (λ x. spelling_of c.args.grain (tree_of x)) c.deref.ensures)
    c.in_ok-put_tree-in-Fork.ensures.ok))

pub returns-in_err-put_tree-in-Fork-2-clause-err : goal.returns-in_err-put_tree-in-Fork-2-clause-err
returns-in_err-put_tree-in-Fork-2-clause-err g t c =
    rw c.in-Fork.is
    (on_err _ (right_failed _ _ c.args.waiting.now.items _ (spelling_of c.args.grain (tree_of c.in-Fork.left.value)) _ (state c.in-Fork.state) (spelling_of c.args.grain (tree_of c.in-Fork.right.value)) c.in_ok-push-in-Fork.ensures.items (ap (λ x. spelling_of c.args.grain (tree_of x)) c.deref.ensures)
    _ _ _ _ c.in_ok-put_tree-in-Fork.ensures.none c.in_ok-write-in-Fork.ensures (ap (λ x. spelling_of c.args.grain (tree_of x)) c.deref-in-Fork.ensures) c.in_ok-put_tree-in-Fork.ensures.ok c.in_err-put_tree-in-Fork-2.ensures.err))
