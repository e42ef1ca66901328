use Rattle.std.proofs.Common.{sym, ◌∙◌, arith}
use Rattle.tso_rec.proofs.PartLemmas.{ended}
use Rattle.tso_rec.proofs.shared.compare_all.Goals as goal

pub returns : goal.returns
returns g c = c.cmp.ensures ∙ sym (ended g.T.Ord.cmp c.args.parts.now c.args.values.now c.loop-i.i (omega (arith, c.loop-i.auto.i-end, c.loop-i-test.false, c.min-i-end.ensures))) ∙ c.loop-i.invariant
