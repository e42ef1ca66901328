use Rattle.std.proofs.Common.{take}
use Rattle.tso_machine.specs.Machines.{machine_of}
use Rattle.tso_trace.specs.Runs.{LeadsTo}
use Rattle.tso_trace.proofs.run.take_steps.Given as goal

abbrev pub invariant-loop-position : goal.invariant-loop-position
invariant-loop-position l = LeadsTo l.checked.client (take l.position l.labels) (machine_of l.machine)
