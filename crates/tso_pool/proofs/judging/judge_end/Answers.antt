use Rattle.std.proofs.Common.{refl}
use Rattle.tso_pool.proofs.EndLemmas.{both_some}
use Rattle.tso_pool.proofs.judging.judge_end.Goals as goal

pub returns-clause-good : goal.returns-clause-good
returns-clause-good c = both_some _ c.in_ok-found.found (c.if-not-has_no_stopped.ensures.0 refl) c.in_ok-found.ensures.found
