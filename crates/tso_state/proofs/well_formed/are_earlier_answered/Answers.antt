use Rattle.tso_state.proofs.FitLemmas.{earlier_last}
use Rattle.tso_state.proofs.well_formed.are_earlier_answered.Goals as goal

pub returns-in-Some : goal.returns-in-Some
returns-in-Some c =
    let (fits, parts) = earlier_last c.args.calls.now c.in-Some.earlier.now c.in-Some.field-0-0.now c.in-Some.ensures.cases.0 in
    (λ h. fits (c.are_answered.ensures.0 h), λ k. c.are_answered.ensures.1 (parts k))
