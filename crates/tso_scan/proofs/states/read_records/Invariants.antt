use Rattle.tso_scan.proofs.ScanLemmas.{AreRecordsTo}
use Rattle.tso_scan.proofs.states.read_records.Given as goal

abbrev pub invariant-loop : goal.invariant-loop
invariant-loop l = AreRecordsTo l.client l.fn.scan l.scan l.count l.counter l.bytes l.rest
