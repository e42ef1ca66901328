use Rattle.std.proofs.Common.{subst}
use Rattle.tso_trace.proofs.WalkLemmas.{stands}
use Rattle.tso_trace.specs.Walks.{Shown, StandsAt}
use Rattle.tso_trace.proofs.cursor.Cursor.machine.Goals as goal

pub returns-clause-run : goal.returns-clause-run
returns-clause-run c =
    let P : Shown → Type 0 = λ s. StandsAt s in
    subst P c.self.view_is
    (stands c.self.inside.trace.now.checked.client c.self.inside.trace.now.labels c.self.inside.undos.items c.self.inside.machine c.self.invariant)
