use Rattle.tso_regions.specs.Regions.{IsFollowing}
use Rattle.tso_regions.proofs.stepping.follow_all.Given as goal

abbrev pub invariant-loop-k : goal.invariant-loop-k
invariant-loop-k l = IsFollowing l.checked.client l.initial.store l.store l.number l.set l.k
