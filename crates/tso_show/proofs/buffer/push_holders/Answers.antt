use Rattle.std.proofs.Common.{◌∙◌, ◌+◌, ◌++◌, ap, drop, sym}
use Rattle.tso_machine.specs.declared.machine.Thread.{Thread}
use Rattle.tso_show.proofs.Joins.{grown, holders_at}
use Rattle.tso_show.specs.Buffers.{holder_text, holders_text}
use Rattle.tso_show.proofs.buffer.push_holders.Goals as goal

pub loop-number-preserved : goal.loop-number-preserved
loop-number-preserved c =
    let k = c.loop-number.number in
    let rest = holders_text c.args.reader c.args.place (k + 1) (drop (k + 1) c.args.threads.now) in
    grown _ _ _ _ _ _ c.in_ok-push_holder.ensures
    (holders_at c.args.reader c.args.place k c.args.threads.now c.index-threads-number.result c.loop-number-test.true ∙ ap (λ (t : Thread). holder_text c.args.reader c.args.place k t ++ rest) (sym c.index-threads-number.is))
    c.loop-number.invariant
