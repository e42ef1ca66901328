use Rattle.std.proofs.lemmas.Result.{on_ok_weaker}
use Rattle.tso_cert.specs.Lookup.{tree_states}
use Rattle.tso_cert.specs.Trees.{tree_of}
use Rattle.tso_verdict.proofs.Passing.{all_between}
use Rattle.tso_verdict.proofs.coverage.Coverage.pass_between.Goals as goal

pub returns : goal.returns
returns c =
    let client = c.args.course.now.checked.now.client in
    let own = c.args.course.now.own.now in
    let table = c.args.course.now.table.now in
    on_ok_weaker c.pass_tree.result (all_between client own table (tree_states (tree_of c.args.cert.now)) c.args.self.now c.pass_first.new.self c.pass_tree.new.self c.in_ok-pass_first.ensures) c.pass_tree.ensures
