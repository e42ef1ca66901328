use Rattle.tso_cert.specs.Trees.{tree_of}
use Rattle.tso_verdict.proofs.Passing.{told_in}
use Rattle.tso_verdict.proofs.fact.Facts.counted.Goals as goal

pub returns : goal.returns
returns c =
    told_in c.args.checked.now.client c.args.grain c.args.table.now (tree_of c.args.cert.now) c.in_ok-coverage.coverage c.of.result c.in_ok-coverage.ensures c.of.ensures.grain c.of.ensures.refused c.of.ensures.most
