use Rattle.tso_trace.proofs.WalkLemmas.{stands}
use Rattle.tso_trace.proofs.cursor.Cursor.forward.Goals as goal

pub returns-clause-run : goal.returns-clause-run
returns-clause-run c =
    stands c.self.inside.trace.now.checked.client c.self.inside.trace.now.labels c.step_on.new.undos.items c.step_on.new.machine c.step_on.ensures.at
