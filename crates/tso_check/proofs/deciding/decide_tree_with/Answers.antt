use Rattle.std.proofs.Common.{◌≡◌, ◌+◌, arith, subst}
use Rattle.tso_cert.specs.Trees.{record_count, records_of, tree_of}
use Rattle.tso_check.proofs.SpanLemmas.{from_all}
use Rattle.tso_check.proofs.deciding.decide_tree_with.Goals as goal
use Rattle.tso_check.specs.Halved.{part_span}
use Rattle.tso_check.specs.Spans.{IsSpanJudged}

pub returns-in-Some : goal.returns-in-Some
returns-in-Some g c = rw c.rejected.ensures (rw c.in-Some.is at c.in_ok-code.ensures)

pub returns-in_ok-found-in-None : goal.returns-in_ok-found-in-None
returns-in_ok-found-in-None g c =
    let w = c.args.whole.now in
    let count = record_count (tree_of w.tree.now) in
    let all : 0 + count ≡ count = omega arith in
    let whole = rw c.in-None.is at c.in_ok-code.ensures in
    c.verdict_of.ensures w.checked.now.client w.basis.now (tree_of w.tree.now) whole (subst (λ n. IsSpanJudged (part_span w 0 n) c.in_ok-found-in-None.found) all c.in_ok-found-in-None.ensures)

pub judge_with-requires-clause-ready : goal.judge_with-requires-clause-ready
judge_with-requires-clause-ready g c =
    let most = c.requires.few in
    let tree = tree_of c.args.whole.now.tree.now in
    let whole = rw c.in-None.is at c.in_ok-code.ensures in
    λ k within. (c.requires.least, whole.ordered, omega (arith, most), from_all (records_of tree))
