use Rattle.tsoq.proofs.ReportLemmas.{good_of_worked}
use Rattle.tsoq.proofs.verify.certified_worked.Goals as goal

pub returns-clause-good : goal.returns-clause-good
returns-clause-good g c = good_of_worked _ c.args.checked.now.client c.args.worked.now _ c.in_ok-taken.taken c.in_ok-taken.ensures.taken c.len.ensures
