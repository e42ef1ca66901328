use Rattle.std.proofs.Common.{ℕ, ◌+◌, ap, ◌%◌, sym}
use Rattle.tso_state.specs.declared.state.Thread.{Thread}
use Rattle.tso_table.specs.Leading.{position_of}
use Rattle.tso_table.proofs.SumLemmas.{below_16, sum_on}
use Rattle.tso_table.proofs.number.sum_of_positions.Goals as goal

pub loop-number-preserved : goal.loop-number-preserved
loop-number-preserved g c =
    let f : Thread → _ = λ t. position_of t.core in
    (sum_on f (g.S.Viewed.state c.args.state.now).threads c.loop-number.number c.in-Some.thread.now c.loop-number.sum _ (sym c.in-Some.ensures) c.loop-number.invariant.0 (ap (λ (k : ℕ). (c.loop-number.sum + k % 16) % 16) c.position_of.ensures), below_16 _)
