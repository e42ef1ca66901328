use Rattle.std.proofs.Common.{inr, subst}
use Rattle.tso_client.proofs.program.checked_of.Goals as goal
use Rattle.tso_client.specs.Programs.{IsClientOf}
use Rattle.tso_flow.specs.First.{IsRefusal}

pub returns-in-Err-Refused-check-clause-refused : goal.returns-in-Err-Refused-check-clause-refused
returns-in-Err-Refused-check-clause-refused c =
    let is : IsClientOf c.args.text.now c.in-Ok.client = record { denoted = c.in-Ok.ensures.exact; lines = c.in-Ok.ensures.lines } in
    inr (c.in-Ok.client, is, subst (λ e. IsRefusal c.in-Ok.client e) c.in-Err-Refused-check.field-0-is c.in-Err-Refused-check.ensures.refused)
