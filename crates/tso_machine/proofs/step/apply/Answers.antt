use Rattle.std.proofs.Common.{subst, sym}
use Rattle.tso_machine.specs.Machines.{label_of, machine_of}
use Rattle.tso_machine.specs.Programs.{program_of}
use Rattle.tso_machine.specs.declared.machine.Machine.{Machine}
use Rattle.tso_model.specs.Labels.{Step}
use Rattle.tso_machine.proofs.step.apply.Goals as goal

pub returns-in_ok-perform-in-Some-clause-step : goal.returns-in_ok-perform-in-Some-clause-step
returns-in_ok-perform-in-Some-clause-step c =
    let offered = c.in-Some.ensures.step in
    let P : Machine → Type 0 = λ m. Step (program_of c.args.checked.now.client) (machine_of c.args.machine.now) (label_of c.args.label) (machine_of m) in
    subst P (sym (c.in_ok-perform-in-Some.ensures.after offered.thread offered.there)) offered.step
