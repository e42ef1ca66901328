-- Walks along labels.
use Rattle.std.specs.Prelude.{ℕ, ◌≤◌, List, length, take}
use Rattle.tso_machine.specs.Machines.{machine_of}
use Rattle.tso_machine.specs.declared.label.Label.{Label}
use Rattle.tso_machine.specs.declared.machine.Machine.{Machine}
use Rattle.tso_prog.specs.declared.client.Client.{Client}
use Rattle.tso_trace.specs.Runs.{LeadsTo}

-- the first so many labels lead to this machine
pub record IsOn (c : Client) (labels : List Label) (position : ℕ) (m : Machine) : Type 0 where
  pub within : position ≤ length labels
  pub leads : LeadsTo c (take position labels) (machine_of m)
