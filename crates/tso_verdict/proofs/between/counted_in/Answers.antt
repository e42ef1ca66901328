use Rattle.tso_cert.specs.Trees.{tree_of}
use Rattle.tso_verdict.proofs.Passing.{counted_steps}
use Rattle.tso_verdict.proofs.between.counted_in.Goals as goal

pub returns-in-Steps : goal.returns-in-Steps
returns-in-Steps c =
    let first = c.counted.ensures in
    rw c.in-Steps.is (counted_steps c.args.checked.now.client c.args.table.now (tree_of c.args.cert.now) c.counted.result first.push first.pop first.push_refused first.pop_refused first.most)

pub returns-in-Crossings : goal.returns-in-Crossings
returns-in-Crossings c = rw c.in-Crossings.is c.counted_between.ensures
