use Rattle.std.proofs.Common.{sym}
use Rattle.tso_cert.specs.Lookup.{tree_states}
use Rattle.tso_cert.specs.Trees.{tree_of}
use Rattle.tso_verdict.specs.Between.{AreBeyond}
use Rattle.tso_verdict.specs.Counted.{ArePassed}
use Rattle.tso_verdict.proofs.Passing.{both_beyond}
use Rattle.tso_verdict.proofs.coverage.Coverage.+pass_tree.Goals as goal

pub returns-in_ok-pass_tree-in-Fork-2 : goal.returns-in_ok-pass_tree-in-Fork-2
returns-in_ok-pass_tree-in-Fork-2 t c =
    let client = c.args.course.now.checked.now.client in
    let own = c.args.course.now.own.now in
    let table = c.args.course.now.table.now in
    let left = c.in-Fork.left.value in
    let right = c.in-Fork.right.value in
    let first : ArePassed client (AreBeyond client own table (tree_states (tree_of left))) c.args.self.now c.pass_tree.new.self = rw (sym c.deref.ensures) c.in_ok-pass_tree-in-Fork.ensures in
    let second : ArePassed client (AreBeyond client own table (tree_states (tree_of right))) c.pass_tree.new.self c.pass_tree-in-Fork.new.self = rw (sym c.deref-in-Fork.ensures) c.in_ok-pass_tree-in-Fork-2.ensures in
    rw c.in-Fork.is (both_beyond client own table (tree_of left) (tree_of right) c.in-Fork.field-1 c.args.self.now c.pass_tree.new.self c.pass_tree-in-Fork.new.self first second)
