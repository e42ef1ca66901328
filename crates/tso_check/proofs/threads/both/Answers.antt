use Rattle.tso_check.proofs.PieceLemmas.{both_judged}
use Rattle.tso_check.proofs.threads.both.Goals as goal

pub returns : goal.returns
returns c = λ spans one two. both_judged spans c.in_ok-all.all.items c.in_ok-others.others.items c.append.new.self.items c.in_ok-append.ensures.items (rw c.in_ok-all.was at one) (rw c.in_ok-others.was at two)
