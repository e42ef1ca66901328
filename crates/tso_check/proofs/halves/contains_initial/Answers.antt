use Rattle.std.proofs.Common.{refl}
use Rattle.std.proofs.lemmas.Bool.{false≢true}
use Rattle.tso_cert.specs.Lookup.{tree_states}
use Rattle.tso_cert.specs.Trees.{tree_of}
use Rattle.tso_check.proofs.VerdictLemmas.{initial_there}
use Rattle.tso_check.proofs.halves.contains_initial.Goals as goal

pub returns-then-not-has : goal.returns-then-not-has
returns-then-not-has c =
    let states = tree_states (tree_of c.args.cert.now) in
    (λ e. absurd (false≢true e), λ h. absurd (false≢true (c.if-not-has.ensures.1 (initial_there c.args.checked.now.client states c.in_ok-initial.initial c.in_ok-initial.ensures.first h))))

pub returns : goal.returns
returns c = (λ e. record { initial = c.in_ok-initial.initial; first = c.in_ok-initial.ensures.first; there = c.if-not-has.ensures.0 refl }, λ h. refl)
