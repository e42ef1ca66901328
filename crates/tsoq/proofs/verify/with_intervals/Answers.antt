use Rattle.tso_cert.specs.Trees.{tree_of}
use Rattle.tsoq.proofs.ReportLemmas.{with_intervals}
use Rattle.tsoq.proofs.verify.with_intervals.Goals as goal

pub returns : goal.returns
returns c =
    with_intervals c.args.checked.now.client c.args.table.now c.in_ok-intervals.intervals (tree_of c.args.cert.now) c.requires c.in_ok-intervals.ensures.inductive c.in_ok-intervals.ensures.held
    c.in_ok-intervals.ensures.narrow
