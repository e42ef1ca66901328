use Rattle.std.proofs.Common.{subst, sym}
use Rattle.tso_pool.specs.Endings.{IsBad, IsEndedBy}
use Rattle.tso_pool.specs.declared.ending.Ending.{Ending}
use Rattle.tso_table.specs.declared.kept.Kept.{Kept}
use Rattle.tso_pool.proofs.working.work_claim.Goals as goal

pub returns-in-Ok-None-clause-ending : goal.returns-in-Ok-None-clause-ending
returns-in-Ok-None-clause-ending g c =
    let client = c.args.team.now.checked.now.client in
    let bad : IsBad client c.kept.result.now.state = rw c.in-Ok-None.field-0-is at c.in-Ok-None.ensures.bad in
    let same : IsBad client c.args.claim.kept.state = subst (λ (k : Kept). IsBad client k.state) c.kept.ensures bad in
    subst (λ (e : Ending). IsEndedBy client e) (sym c.into_violation.ensures) (record { early = tt; ending = (c.requires.kept, same) })
