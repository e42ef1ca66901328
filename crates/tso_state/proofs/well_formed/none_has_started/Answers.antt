use Rattle.std.proofs.Common.{below_more, sym, ◌∙◌}
use Rattle.std.proofs.lemmas.Bool.{false≢true}
use Rattle.tso_state.specs.Fitting.{IsOtherStarted}
use Rattle.tso_state.proofs.well_formed.none_has_started.Goals as goal

pub loop-number-preserved : goal.loop-number-preserved
loop-number-preserved g c =
    below_more (λ k. IsOtherStarted (g.S.Viewed.state c.args.state.now) c.args.prologue k → ⊥) _ c.loop-number.invariant
    (λ started. false≢true (sym c.if-is_other_started.false ∙ c.is_other_started.ensures.1 started))
