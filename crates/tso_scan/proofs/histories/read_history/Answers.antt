use Rattle.tso_scan.proofs.HistoryLemmas.{history_read, rows_still}
use Rattle.tso_scan.proofs.histories.read_history.Goals as goal

pub history_of-requires-clause-rows : goal.history_of-requires-clause-rows
history_of-requires-clause-rows c = let read = rw c.in-Some.is at c.in_ok-row.ensures in rows_still c.args.lists.now c.read_row.new.scroll c.args.histories.now c.args.rows.now read.1 c.requires.rows

pub history_of-requires-clause-there : goal.history_of-requires-clause-there
history_of-requires-clause-there c = let read = rw c.in-Some.is at c.in_ok-row.ensures in (read.0.parts, read.0.numbers)

pub returns-in-Some-2 : goal.returns-in-Some-2
returns-in-Some-2 c =
    let read = rw c.in-Some.is at c.in_ok-row.ensures in
    history_read c.read_row.new.scroll c.args.histories.now c.history_of.new.histories c.history_of.new.rows c.in-Some.row c.args.count c.in-Some-2.number c.args.bytes.now c.in-Some.rest.now c.is_numbered.ensures.small read.0 (rw c.in-Some-2.is at c.in_ok-number.ensures)
