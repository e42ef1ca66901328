use Rattle.tso_scan.proofs.ScanLemmas.{records_all, records_more, records_none}
use Rattle.tso_scan.proofs.states.read_records.Goals as goal

pub loop-init : goal.loop-init
loop-init c = records_none c.args.client.now c.args.scan.now c.args.count c.args.bytes.now c.requires

pub read_record-requires : goal.read_record-requires
read_record-requires c = c.loop.invariant.more.scan

pub loop-preserved : goal.loop-preserved
loop-preserved c =
    records_more c.args.client.now c.args.scan.now c.loop.scan c.read_record.new.scan c.args.count c.loop.counter c.args.bytes.now c.loop.rest.now c.in-Some.after.now c.loop-test.true c.loop.invariant (rw c.in-Some.is at c.in_ok-after.ensures)

pub returns : goal.returns
returns c = records_all c.args.client.now c.args.scan.now c.loop.scan c.args.count c.loop.counter c.args.bytes.now c.loop.rest.now c.loop-test.false c.loop.auto.counter-end c.loop.invariant
