use Rattle.tso_cert.specs.Trees.{tree_of}
use Rattle.tso_check.proofs.SpanLemmas.{whole_judged}
use Rattle.tso_check.proofs.halved.decide_tree.Goals as goal

pub returns-in-Some : goal.returns-in-Some
returns-in-Some c = rw c.rejected.ensures (rw c.in-Some.is at c.in_ok-code.ensures)

pub returns-in_ok-found-in-None : goal.returns-in_ok-found-in-None
returns-in_ok-found-in-None c =
    let w = c.args.whole.now in
    c.verdict_of.ensures w.checked.now.client w.basis.now (tree_of w.tree.now) (rw c.in-None.is at c.in_ok-code.ensures) (whole_judged w.checked.now.client w.basis.now (tree_of w.tree.now) c.in_ok-found-in-None.found c.in_ok-found-in-None.ensures)
