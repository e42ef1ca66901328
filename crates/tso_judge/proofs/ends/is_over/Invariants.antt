use Rattle.tso_judge.proofs.EndLemmas.{HaveNoStepTo}
use Rattle.tso_judge.proofs.ends.is_over.Given as goal

abbrev pub invariant-loop-thread : goal.invariant-loop-thread
invariant-loop-thread g l = HaveNoStepTo l.checked.client (g.S.Viewed.state l.state) l.thread
