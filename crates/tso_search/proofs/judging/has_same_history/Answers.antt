use Rattle.std.proofs.Common.{refl, arith}
use Rattle.tso_keys.proofs.Lists.{same_lists}
use Rattle.tso_search.proofs.judging.has_same_history.Goals as goal

pub returns : goal.returns
returns g c =
    let known = c.loop-thread.invariant in
    (λ _. same_lists _ _ known.0 (λ k lt. known.2 k (omega (arith, lt, known.0, known.1, c.loop-thread-test.false))), λ _. refl)
