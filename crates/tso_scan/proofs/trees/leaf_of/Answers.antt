use Rattle.std.proofs.Common.{arith, sym}
use Rattle.tso_scan.proofs.TreeLemmas.{leaf_scanned}
use Rattle.tso_scan.proofs.trees.leaf_of.Goals as goal

pub returns-in-Some-2 : goal.returns-in-Some-2
returns-in-Some-2 c =
    leaf_scanned c.args.client.now c.args.scan.now c.read_records.new.scan c.args.room c.in-Some.count c.args.bytes.now c.in-Some.rest.now c.in-Some-2.rest.now (sym c.in-Some.ensures.read) (omega (arith, c.if-count-from.false, c.min.ensures, c.from.ensures)) (rw c.in-Some-2.is at c.in_ok-rest.ensures)
