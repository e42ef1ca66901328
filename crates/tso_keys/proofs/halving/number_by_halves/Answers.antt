use Rattle.std.proofs.Common.{◌+◌, ◌-◌, ◌/◌, arith, sym, ◌∙◌}
use Rattle.std.proofs.lemmas.Bool.{false≢true}
use Rattle.tso_keys.proofs.Halves.{only_left, only_right}
use Rattle.tso_keys.proofs.halving.number_by_halves.Goals as goal

pub loop-low-preserved-then-is_less_at : goal.loop-low-preserved-then-is_less_at
loop-low-preserved-then-is_less_at c =
    only_right c.args.parts.now c.args.keys.now c.args.key.now c.requires.rising c.loop-low.low c.loop-low.high (c.loop-low.low + (c.loop-low.high - c.loop-low.low) / 2) c.loop-low.invariant (c.is_less_at.ensures.0 c.if-is_less_at.true)

pub loop-low-preserved : goal.loop-low-preserved
loop-low-preserved c =
    only_left c.args.parts.now c.args.keys.now c.args.key.now c.requires.rising c.loop-low.low c.loop-low.high (c.loop-low.low + (c.loop-low.high - c.loop-low.low) / 2) c.loop-low.invariant (omega (arith, c.loop-low-test.true))
    (λ here. false≢true (sym c.if-is_at.false ∙ c.is_at.ensures.1 here)) (λ less. false≢true (sym c.if-is_less_at.false ∙ c.is_less_at.ensures.1 less))
