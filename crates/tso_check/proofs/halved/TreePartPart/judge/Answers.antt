use Rattle.std.proofs.Common.{◌+◌, arith}
use Rattle.tso_cert.specs.Trees.{record_count, records_of, tree_of}
use Rattle.tso_check.proofs.SpanLemmas.{part_judged}
use Rattle.tso_check.proofs.WalkLemmas.{count_is, if_ok}
use Rattle.tso_check.proofs.halved.TreePartPart.judge.Goals as goal
use Rattle.tso_check.specs.Halved.{AreJudgedIn, part_span}
use Rattle.tso_check.specs.Spans.{IsSpanJudged}

pub returns : goal.returns
returns g c =
    let p = c.args.self.now in
    let w = p.whole in
    let all = records_of (tree_of w.tree.now) in
    let part = tree_of p.part.now in
    let count = count_is part in
    if_ok (AreJudgedIn w (records_of part) p.start) (IsSpanJudged (part_span w p.start (p.start + record_count part))) c.judge_part.result
    (λ found judged. part_judged w.checked.now.client w.basis.now all (records_of part) p.start (p.start + record_count part) found c.requires.3 (omega (arith, count)) judged) c.judge_part.ensures
