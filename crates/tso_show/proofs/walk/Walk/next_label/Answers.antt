use Rattle.std.proofs.Common.{subst}
use Rattle.tso_trace.specs.Walks.{Shown, StandsAt}
use Rattle.tso_show.proofs.walk.Walk.next_label.Goals as goal

pub returns-clause-run : goal.returns-clause-run
returns-clause-run c = let P : Shown → Type 0 = λ s. StandsAt s in subst P c.self.view_is c.self.invariant.leads
