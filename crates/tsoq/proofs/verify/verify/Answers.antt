use Rattle.tsoq.proofs.ReportLemmas.{all_good, asked_certified, asked_violated, filed_certificate, filed_trace, one_errs, told_certified, told_of}
use Rattle.tsoq.proofs.verify.verify.Goals as goal

pub returns-in_ok-made-in-Worked-clause-report : goal.returns-in_ok-made-in-Worked-clause-report
returns-in_ok-made-in-Worked-clause-report g c =
    let good = c.in_ok-made-in-Worked.ensures.good in
    all_good c.args.program.now c.in_ok-checked.checked.client good.limit good.ground good.tree c.in_ok-made-in-Worked.made.report c.in_ok-checked.ensures.denoted good.good good.records

pub returns-in_ok-made-in-Worked-clause-trace : goal.returns-in_ok-made-in-Worked-clause-trace
returns-in_ok-made-in-Worked-clause-trace g c = told_certified c.in_ok-made-in-Worked.made.report _ c.in_ok-made-in-Worked.ensures.good.records

pub returns-in_ok-made-in-Worked-clause-file : goal.returns-in_ok-made-in-Worked-clause-file
returns-in_ok-made-in-Worked-clause-file g c =
    let good = c.in_ok-made-in-Worked.ensures.good in
    filed_certificate c.args.search.now.form c.args.program.now c.in_ok-checked.checked.client _ good.tree c.in_ok-made-in-Worked.made.report c.in_ok-made-in-Worked.made.taken
    c.in_ok-checked.ensures.denoted good.records good.taken

pub returns-in_ok-made-in-Worked-clause-asked : goal.returns-in_ok-made-in-Worked-clause-asked
returns-in_ok-made-in-Worked-clause-asked g c =
    asked_certified _ _ _ c.in_ok-made-in-Worked.made.report c.in_ok-made-in-Worked.made.taken c.in_ok-made-in-Worked.ensures.good.records c.in_ok-made-in-Worked.ensures.asked

pub returns-in_ok-found-in-Trace-clause-report : goal.returns-in_ok-found-in-Trace-clause-report
returns-in_ok-found-in-Trace-clause-report g c =
    one_errs c.args.program.now c.in_ok-checked.checked.client c.in-Trace.trace.labels _ c.in_ok-found-in-Trace.found.report c.in_ok-checked.ensures.denoted c.in-Trace.ensures.1
    c.in_ok-found-in-Trace.ensures.labels

pub returns-in_ok-found-in-Trace-clause-trace : goal.returns-in_ok-found-in-Trace-clause-trace
returns-in_ok-found-in-Trace-clause-trace g c =
    told_of c.in_ok-found-in-Trace.found.report c.in-Trace.trace c.in_ok-found-in-Trace.found.trace c.in_ok-found-in-Trace.ensures.trace c.in_ok-found-in-Trace.ensures.labels

pub returns-in_ok-found-in-Trace-clause-file : goal.returns-in_ok-found-in-Trace-clause-file
returns-in_ok-found-in-Trace-clause-file g c =
    filed_trace c.args.search.now.form c.args.program.now _ _ c.in_ok-found-in-Trace.found.report c.in-Trace.trace c.in_ok-found-in-Trace.found.trace c.in_ok-found-in-Trace.found.taken
    c.in_ok-found-in-Trace.ensures.trace c.in_ok-found-in-Trace.ensures.labels c.in_ok-found-in-Trace.ensures.taken

pub returns-in_ok-found-in-Trace-clause-asked : goal.returns-in_ok-found-in-Trace-clause-asked
returns-in_ok-found-in-Trace-clause-asked g c =
    asked_violated _ _ _ _ c.in_ok-found-in-Trace.found.report c.in_ok-found-in-Trace.found.taken c.in_ok-found-in-Trace.found.unwritten c.in_ok-found-in-Trace.ensures.labels
    c.in_ok-found-in-Trace.ensures.asked
