use Rattle.std.proofs.Common.{◌∙◌, sym}
use Rattle.tso_trace.proofs.GoodLemmas.{faults_err, no_order_errs, order_is_good, when_none, when_some}
use Rattle.tso_trace.proofs.good.is_good.Goals as goal

pub returns-then-has_fault-clause-errs : goal.returns-then-has_fault-clause-errs
returns-then-has_fault-clause-errs c = λ e. faults_err c.args.client.now c.args.labels.now (sym c.has_fault.ensures ∙ c.if-has_fault.true)

pub returns-in-Some-clause-good : goal.returns-in-Some-clause-good
returns-in-Some-clause-good c =
    λ e. order_is_good c.args.client.now c.args.labels.now c.requires _ c.in_ok-history.ensures _ c.from.ensures (sym c.has_fault.ensures ∙ c.if-has_fault.false) _
    (when_some _ _ _ c.in-Some.is c.in_ok-_order.ensures.found)

pub returns-clause-errs : goal.returns-clause-errs
returns-clause-errs c =
    λ e. no_order_errs c.args.client.now c.args.labels.now c.requires _ c.in_ok-history.ensures _ c.from.ensures
    (λ order o. when_none _ _ c.in-None.is c.in_ok-_order.ensures.none (order, o))
