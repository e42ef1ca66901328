use Rattle.std.proofs.Common.{◌∙◌, ◌+◌, ◌++◌, ap, drop, sym}
use Rattle.tso_machine.specs.declared.machine.Thread.{Thread}
use Rattle.tso_show.proofs.Joins.{grown, lines_at}
use Rattle.tso_show.specs.States.{buffer_line, buffer_lines}
use Rattle.tso_show.proofs.state.push_buffer_lines.Goals as goal

pub loop-number-preserved : goal.loop-number-preserved
loop-number-preserved c =
    let k = c.loop-number.number in
    let rest = buffer_lines c.args.arrays.now (k + 1) (drop (k + 1) c.args.threads.now) in
    grown _ _ _ _ _ _ c.in_ok-push_buffer_line.ensures
    (lines_at c.args.arrays.now k c.args.threads.now c.index-threads-number.result c.loop-number-test.true ∙ ap (λ (t : Thread). buffer_line c.args.arrays.now k t ++ rest) (sym c.index-threads-number.is))
    c.loop-number.invariant
