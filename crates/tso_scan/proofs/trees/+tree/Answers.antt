use Rattle.std.proofs.Common.{arith, refl}
use Rattle.tso_cert.proofs.Opening.{opens_fork, opens_leaf}
use Rattle.tso_cert.specs.Certificates.{tree_at}
use Rattle.tso_rec.specs.declared.basis.Grain.TheVariants.{Steps}
use Rattle.tso_scan.proofs.TreeLemmas.{branch_is, fork_scanned, key_scanned}
use Rattle.tso_scan.proofs.trees.+tree.Goals as goal

pub branch_of-returns-in-Some : goal.branch_of-returns-in-Some
branch_of-returns-in-Some t c =
    branch_is c.args.client.now c.args.scan.now c.leaf_of.new.scan _ (tree_at Steps c.args.depth c.args.room c.args.bytes.now) c.in-Some.shape c.in-Some.room c.in-Some.rest.now (opens_leaf Steps c.args.depth c.args.room c.args.bytes.now (omega arith) (omega arith)) (rw c.in-Some.is at c.in_ok-shape-in-0.ensures)

pub branch_of-returns-in-Some-2 : goal.branch_of-returns-in-Some-2
branch_of-returns-in-Some-2 t c =
    branch_is c.args.client.now c.args.scan.now c.fork_of.new.scan _ (tree_at Steps c.args.depth c.args.room c.args.bytes.now) c.in-Some-2.shape c.in-Some-2.room c.in-Some-2.rest.now (opens_fork Steps c.args.depth c.args.room c.args.bytes.now (omega arith) (omega arith) c.if-depth-eq0.false) (rw c.in-Some-2.is at c.in_ok-shape-in-1.ensures)

pub fork_of-returns : goal.fork_of-returns
fork_of-returns t c =
    let left = rw c.in-Some.is at c.in_ok-left.ensures in
    let key = rw c.in-Some-2.is at c.in_ok-middle.ensures in
    let right = rw c.in-Some-3.is at c.in_ok-right.ensures in
    fork_scanned c.args.client.now c.args.scan.now c.branch_of.new.scan c.branch_of-2.new.scan c.read_key.new.sources c.args.depth c.args.room c.args.bytes.now c.in-Some.rest.now c.in-Some-2.rest.now c.in-Some-3.rest.now c.in_ok-left-2.left c.in_ok-right-2.right c.in-Some.room c.in-Some-3.room c.in-Some-2.middle (rw c.in_ok-left-2.ensures.ok left) key (rw c.in_ok-right-2.ensures.ok right) (rw c.len-first.ensures at c.if-not-is_key.ensures refl)

pub fork_of-branch_of-requires-2 : goal.fork_of-branch_of-requires-2
fork_of-branch_of-requires-2 t c =
    let left = rw c.in-Some.is at c.in_ok-left.ensures in
    let key = rw c.in-Some-2.is at c.in_ok-middle.ensures in
    (omega arith, (key_scanned c.args.client.now c.branch_of.new.scan c.read_key.new.sources c.in-Some-2.middle c.in-Some.rest.now c.in-Some-2.rest.now left.more.scan key).scan)
