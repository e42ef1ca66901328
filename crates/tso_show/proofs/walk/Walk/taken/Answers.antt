use Rattle.std.proofs.Common.{subst, take}
use Rattle.tso_trace.specs.Runs.{IsRun}
use Rattle.tso_trace.specs.Walks.{Shown}
use Rattle.tso_show.proofs.walk.Walk.taken.Goals as goal

pub returns-clause-run : goal.returns-clause-run
returns-clause-run c =
    let P : Shown → Type 0 = λ s. IsRun s.client (take c.self.inside.position c.self.inside.labels.now) in
    subst P c.self.view_is (record { machine = _; leads = c.self.invariant.leads })
