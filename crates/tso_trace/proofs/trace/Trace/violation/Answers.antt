use Rattle.std.proofs.Common.{◌∙◌, ap, sym}
use Rattle.std.proofs.Math.Logic.{∥∥₁_elim}
use Rattle.tso_trace.specs.Runs.{first_fault}
use Rattle.tso_trace.proofs.GoodLemmas.{errs_unordered}
use Rattle.tso_trace.proofs.trace.Trace.violation.Goals as goal

pub returns-in-None-clause-no_order : goal.returns-in-None-clause-no_order
returns-in-None-clause-no_order c = λ is linearizable.
    let none = sym (ap first_fault c.as_slice.ensures) ∙ (sym c.first_fault.ensures ∙ c.in-None.is) in
    ∥∥₁_elim c.args.self.now.erring (λ x y. absurd x) (λ e. errs_unordered c.args.self.now.checked.client c.args.self.now.labels e none linearizable)
