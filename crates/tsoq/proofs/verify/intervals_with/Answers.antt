use Rattle.tsoq.proofs.ReportLemmas.{new_table}
use Rattle.tsoq.proofs.verify.intervals_with.Goals as goal

pub returns : goal.returns
returns c = new_table c.args.checked.now.client c.args.worked.now c.in_ok-intervals.intervals c.requires.steps c.in_ok-intervals.ensures.inductive c.in_ok-intervals.ensures.held c.in_ok-intervals.ensures.narrow
