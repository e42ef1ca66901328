use Rattle.std.proofs.Common.{refl}
use Rattle.std.proofs.lemmas.Bool.{false≢true}
use Rattle.tso_check.proofs.NumberedLemmas.{initial_found, initial_lost}
use Rattle.tso_check.proofs.numbered.has_initial.Goals as goal

pub returns-in-Some : goal.returns-in-Some
returns-in-Some c =
    let first = c.in_ok-initial.ensures.first in
    (λ e. initial_found c.args.checked.now.client c.args.store.now.states c.in_ok-initial.initial c.in-Some.field-0 first c.in-Some.ensures, λ h. refl)

pub returns : goal.returns
returns c =
    let first = c.in_ok-initial.ensures.first in
    (λ e. absurd (false≢true e), λ h. absurd (initial_lost c.args.checked.now.client c.args.store.now.states c.in_ok-initial.initial first c.in-None.ensures h))
