-- What a thread has next.
use Rattle.std.specs.Prelude.{ℕ}
use Rattle.tso_prog.specs.declared.client.Client.{Client}
use Rattle.tso_machine.specs.declared.label.Label.{Label}
use Rattle.tso_machine.specs.declared.label.LabelKind.{LabelKind}
use Rattle.tso_machine.specs.declared.machine.Machine.{Machine}
use Rattle.tso_machine.specs.Machines.{label_of, machine_of}
use Rattle.tso_machine.specs.Programs.{program_of}
use Rattle.tso_machine.specs.Stepping.{IsNoStep, IsStep}
use Rattle.tso_say.specs.declared.ahead.Next.{Next}
use Rattle.tso_say.specs.declared.ahead.Next.TheVariants.{Step, Later}

abbrev pub label : ℕ → LabelKind → Label
label thread kind = record { thread = thread; kind = kind }

-- a label that is said to be a step is one, and one that is said to come later is none
abbrev pub IsAhead : Client → Machine → ℕ → Next → Type 0
IsAhead client machine thread (Step kind) = IsStep (program_of client) (machine_of machine) (label_of (label thread kind))
IsAhead client machine thread (Later kind) = IsNoStep (program_of client) (machine_of machine) (label_of (label thread kind))
IsAhead client machine thread _ = Unit {0}
