use Rattle.tso_cert.specs.Trees.{tree_of}
use Rattle.tso_verdict.proofs.Passing.{passed_also}
use Rattle.tso_verdict.proofs.between.counted_between.Goals as goal

pub returns : goal.returns
returns c =
    let first = c.in_ok-coverage.ensures in
    passed_also c.args.checked.now.client c.args.table.now (tree_of c.args.cert.now) c.in_ok-own.own c.in_ok-coverage.coverage c.pass_between.new.self c.in_ok-own.ensures first.push first.pop first.push_refused first.pop_refused first.most c.in_ok-pass_between.ensures
