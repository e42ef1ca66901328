use Rattle.std.proofs.Common.{◌≡◌, ◌∙◌, sym, ap}
use Rattle.std.specs.Option.{option_map}
use Rattle.std.proofs.lemmas.Bool.{false≢true}
use Rattle.tso_machine.proofs.StepLemmas.{step_of, none_is_no_step, other_is_no_step}
use Rattle.tso_machine.specs.Offers.{next_of}
use Rattle.tso_machine.specs.Programs.{program_of}
use Rattle.tso_machine.proofs.step.offered.Goals as goal

pub returns-in_err-offer-clause-none : goal.returns-in_err-offer-clause-none
returns-in_err-offer-clause-none c =
    let thread = c.in_ok-thread.thread.now in
    let none = sym c.next_offer.ensures.is ∙ ap (option_map (next_of c.args.machine.now c.args.label.thread thread)) c.in_err-offer.was in
    rw c.from_residual-in_err-offer.ensures (none_is_no_step (program_of c.args.client.now) c.args.machine.now c.args.label none)

pub returns-then-is_same-clause-step : goal.returns-then-is_same-clause-step
returns-then-is_same-clause-step c =
    step_of (program_of c.args.client.now) c.args.machine.now c.args.label c.in_ok-thread.thread.now c.in_ok-offer.offer (sym c.in_ok-thread.ensures) c.in_ok-offer.ensures.fits
    (c.is_same.ensures.0 c.if-is_same.true) (sym c.in_ok-offer.ensures.is)

pub returns-else-is_same-clause-none : goal.returns-else-is_same-clause-none
returns-else-is_same-clause-none c =
    let other : c.in_ok-offer.offer.kind ≡ c.args.label.kind → ⊥ = λ e. let yes_same = c.is_same.ensures.1 e in absurd (false≢true (sym c.if-is_same.false ∙ yes_same)) in
    other_is_no_step (program_of c.args.client.now) c.args.machine.now c.args.label c.in_ok-thread.thread.now c.in_ok-offer.offer other (sym c.in_ok-offer.ensures.is)
