use Rattle.tso_scan.proofs.ScanLemmas.{key_read}
use Rattle.tso_scan.proofs.sources.read_key.Goals as goal
use Rattle.tso_scan.specs.declared.sources.Sources.{Sources}

pub returns : goal.returns
returns c =
    let new : Sources = record { memories = c.read.new.self; threads = c.read_row.new.scroll; lists = c.read_history.new.lists; histories = c.read_history.new.histories; rows = c.read_history.new.rows } in
    let memory = rw c.in-Some-2.is at c.in_ok-memory.ensures in
    let threads = rw c.in-Some-3.is at c.in_ok-threads.ensures in
    let history = rw c.in-Some-4.is at c.in_ok-history.ensures in
    key_read c.args.client.now c.args.sources.now new c.in-Some.count c.in-Some-2.memory c.in-Some-4.history c.in-Some-3.threads c.args.bytes.now c.in-Some-2.rest.now c.in-Some-3.rest.now c.in-Some-4.rest.now c.in-Some.ensures.count memory.0 memory.1 threads.0 threads.1 c.is_numbered.ensures.small history
