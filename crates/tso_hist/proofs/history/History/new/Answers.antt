use Rattle.std.proofs.Common.{◌∙◌, ap, arith}
use Rattle.tso_hist.specs.Views.{history_view}
use Rattle.tso_hist.proofs.Viewed.{first-view}
use Rattle.tso_hist.proofs.history.History.new.Goals as goal

pub returns-clause-first : goal.returns-clause-first
returns-clause-first c = λ kss e. ap history_view c.loop.invariant ∙ first-view c.loop.counter kss (omega (arith, e, c.loop-test.false, c.loop.auto.counter-end))
