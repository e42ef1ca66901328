use Rattle.tso_scan.proofs.ScanLemmas.{record_scanned}
use Rattle.tso_scan.proofs.states.read_record.Goals as goal

pub returns : goal.returns
returns c =
    record_scanned c.args.client.now c.args.scan.now c.read_state.new.scan c.read_end.new.scan c.args.bytes.now c.in-Some.rest.now c.in-Some-2.rest.now (rw c.in-Some.is at c.in_ok-rest.ensures) (rw c.in-Some-2.is at c.in_ok-rest-2.ensures)
