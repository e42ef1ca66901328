-- Walks along a run, with what takes each step back.
use Rattle.std.specs.Prelude.{◌≡◌, ℕ, ◌≤◌, List, [], ◌∷◌, length, take}
use Rattle.tso_prog.specs.declared.client.Client.{Client}
use Rattle.tso_machine.specs.Activations.{Activation}
use Rattle.tso_machine.specs.Machines.{label_of, machine_of}
use Rattle.tso_machine.specs.Places.{first_memory}
use Rattle.tso_machine.specs.Programs.{program_of}
use Rattle.tso_machine.specs.Undone.{Undoes}
use Rattle.tso_machine.specs.declared.back.Undo.{Undo}
use Rattle.tso_machine.specs.declared.label.Label.{Label}
use Rattle.tso_machine.specs.declared.machine.Machine.{Machine}
use Rattle.tso_model.specs.Labels.{Step, first_machine}
use Rattle.tso_model.specs.Programs.{Program}
use Rattle.tso_trace.specs.Runs.{LeadsTo}

-- the labels lead from the first machine to the last, and each step is taken back by its own way back
abbrev pub Walk : Program Activation → Machine → List Undo → List Label → Machine → Type 0
Walk p m [] [] end = end ≡ m
Walk p m [] (l ∷ ls) end = ⊥
Walk p m (u ∷ us) [] end = ⊥
Walk p m (u ∷ us) (l ∷ ls) end = (mid : Machine) × Undoes u mid m × Step p (machine_of m) (label_of l) (machine_of mid) × Walk p mid us ls end

-- the machine is where a client's first labels lead, one for each way back
pub record IsAt (c : Client) (labels : List Label) (us : List Undo) (m : Machine) : Type 0 where
  pub first : Machine
  pub begins : machine_of first ≡ first_machine (program_of c) (first_memory c.arrays)
  pub within : length us ≤ length labels
  pub walk : Walk (program_of c) first us (take (length us) labels) m

-- what a cursor shows: the trace, how many labels are taken, and the machine after them
pub record Shown : Type 0 where
  pub client : Client
  pub labels : List Label
  pub position : ℕ
  pub machine : Machine

-- the machine that it shows is the one after the labels that are taken
abbrev pub StandsAt : Shown → Type 0
StandsAt s = LeadsTo s.client (take s.position s.labels) (machine_of s.machine)
