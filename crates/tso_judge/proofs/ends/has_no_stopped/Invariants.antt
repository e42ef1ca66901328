use Rattle.tso_judge.proofs.EndLemmas.{AreNotStoppedTo}
use Rattle.tso_judge.proofs.ends.has_no_stopped.Given as goal

abbrev pub invariant-loop-number : goal.invariant-loop-number
invariant-loop-number g l = AreNotStoppedTo (g.S.Viewed.state l.state) l.number
