use Rattle.tso_scan.proofs.RowLemmas.{list_reads}
use Rattle.tso_scan.proofs.rows.read_row.Goals as goal

pub returns : goal.returns
returns g c =
    let read = rw c.in-Some-2.is at c.in_ok-row.ensures in
    (list_reads c.read_numbers.new.scroll c.args.count c.in-Some.found c.in-Some-2.row c.args.bytes.now c.in-Some.rest.now c.in-Some-2.rest.now c.in-Some.ensures.read c.if-found-count.false read.0, read.1)
