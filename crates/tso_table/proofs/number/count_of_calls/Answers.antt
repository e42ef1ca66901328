use Rattle.std.proofs.Common.{List, length, refl, sym}
use Rattle.tso_hist.specs.declared.call.Call.{Call}
use Rattle.tso_table.proofs.SumLemmas.{below_16, sum_on}
use Rattle.tso_table.proofs.number.count_of_calls.Goals as goal

pub loop-number-preserved : goal.loop-number-preserved
loop-number-preserved g c =
    let f : List Call → _ = λ calls. length calls in
    (sum_on f (g.S.Viewed.state c.args.state.now).history c.loop-number.number c.in-Some.calls.now c.loop-number.sum _ (sym c.in-Some.ensures) c.loop-number.invariant.0 refl, below_16 _)
