use Rattle.std.proofs.Common.{sym, ap, Err}
use Rattle.std.proofs.Math.Logic.{∥∥₁_elim}
use Rattle.tso_trace.proofs.EndLemmas.{never_stuck}
use Rattle.tso_trace.proofs.WalkLemmas.{at_more}
use Rattle.tso_trace.proofs.cursor.step_on.Goals as goal

pub returns-in-Ok-clause-at : goal.returns-in-Ok-clause-at
returns-in-Ok-clause-at c =
    rw (c.keep.ensures.items, c.in_ok-reserve.ensures.items)
    (at_more c.args.trace.now.checked.client c.args.trace.now.labels c.args.undos.now.items c.args.machine.now c.requires c.in-Ok.back c.in-Some.label c.apply.new.machine
    (sym c.in-Some.ensures) c.in-Ok.ensures.back c.in-Ok.ensures.step)

pub unreachable-requires : goal.unreachable-requires
unreachable-requires c =
    ∥∥₁_elim c.args.trace.now.erring (λ x y. absurd x)
    (λ erring. never_stuck c.args.trace.now.checked.client c.args.trace.now.labels c.args.undos.now.items c.args.machine.now c.in-Some.label erring c.requires
    (sym c.in-Some.ensures) (c.in-Err-NotAStep.ensures.refused (ap Err c.in-Err-NotAStep.field-0-is)))
