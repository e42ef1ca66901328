use Rattle.std.proofs.Common.{arith, sym}
use Rattle.tso_store.proofs.Histories.{answered_view}
use Rattle.tso_keys.proofs.Rows.{got}
use Rattle.tso_store.proofs.history_after.answered.Goals as goal

pub returns-in-Some-last : goal.returns-in-Some-last
returns-in-Some-last c =
    let there = rw c.threads.ensures at c.in-Some.ensures.lookup in
    answered_view c.args.history.now c.args.thread c.in-Some.calls.now c.with.result c.in-Some-last.call.now c.args.answer c.with-in-Some-last.result (rw c.threads-in-Some-last.ensures at c.with-in-Some-last.ensures)
    (rw c.as_slice-calls.ensures at c.with.ensures) (got c.args.history.now c.args.thread c.in-Some.calls.now there.1 (omega (arith, there.3.0))) (sym (rw c.as_slice-calls.ensures at c.in-Some-last.ensures.value))
