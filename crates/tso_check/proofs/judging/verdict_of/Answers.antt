use Rattle.tso_check.proofs.SpanLemmas.{all_valid, one_bad}
use Rattle.tso_check.proofs.judging.verdict_of.Goals as goal

pub returns-in-Some : goal.returns-in-Some
returns-in-Some c = λ client t tree whole judged. one_bad client t tree c.in-Some.bad whole (rw c.in-Some.is at judged)

pub returns-in-None : goal.returns-in-None
returns-in-None c = λ client t tree whole judged. all_valid client t tree whole (rw c.in-None.is at judged)
