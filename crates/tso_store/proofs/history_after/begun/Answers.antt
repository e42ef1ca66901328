use Rattle.std.proofs.Common.{arith}
use Rattle.tso_store.proofs.Histories.{begun_view}
use Rattle.tso_keys.proofs.Rows.{got}
use Rattle.tso_store.proofs.history_after.begun.Goals as goal

pub returns-in-Some : goal.returns-in-Some
returns-in-Some c =
    let there = rw c.threads.ensures at c.in-Some.ensures.lookup in
    begun_view c.args.history.now c.args.thread c.args.kind c.in-Some.calls.now c.longer.result c.with.result (rw c.threads-in-Some.ensures at c.with.ensures) (rw c.as_slice.ensures at c.longer.ensures)
    (got c.args.history.now c.args.thread c.in-Some.calls.now there.1 (omega (arith, there.3.0)))
