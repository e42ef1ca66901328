-- Runs of a client's labels (Sewell and others 2010), and which of them are good (Herlihy and Wing 1990).
use Rattle.std.specs.Prelude.{◌≡◌, ◌≢◌, ℕ, ◌+◌, Bool, false, true, List, [], map, take, Option, Some, None, slice_get}
use Rattle.std.specs.List.{find, list_any}
use Rattle.std.specs.Option.{option_map}
use Rattle.tso_prog.specs.declared.client.Client.{Client}
use Rattle.tso_machine.specs.Activations.{Activation}
use Rattle.tso_machine.specs.Machines.{label_of}
use Rattle.tso_machine.specs.Places.{first_memory}
use Rattle.tso_machine.specs.Programs.{program_of}
use Rattle.tso_machine.specs.Stepping.{IsNoStep}
use Rattle.tso_machine.specs.declared.label.Label.{Label}
use Rattle.tso_machine.specs.declared.label.LabelKind.{LabelKind}
use Rattle.tso_machine.specs.declared.label.LabelKind.TheVariants as kinds
use Rattle.tso_model.specs.Certificate.{IsGood}
use Rattle.tso_model.specs.Labels.{Machine, Run, first_machine}
use Rattle.tso_model.specs.Objects.{Object, Queue}
use Rattle.tso_prog.specs.Views.{mode_view}
use Rattle.tso_trace.specs.declared.trace.Violation.{Violation}
use Rattle.tso_trace.specs.declared.trace.Violation.TheVariants as violations
use Rattle.tso_trace.specs.declared.fault.TraceFault.{TraceFault}
use Rattle.tso_trace.specs.declared.fault.TraceFault.TheVariants.{NotAStep, NoError, Grammar, Memory}

-- these labels lead from the client's first machine to this one
pub record LeadsTo (c : Client) (labels : List Label) (m : Machine Activation) : Type 0 where
  pub run : Run (program_of c) (first_machine (program_of c) (first_memory c.arrays)) (map label_of labels) m

-- each label is a step after those before it
pub record IsRun (c : Client) (labels : List Label) : Type 0 where
  pub machine : Machine Activation
  pub leads : LeadsTo c labels machine

-- the labels before the one of this number, from 1, are a run, and that one is no step after them
pub record IsFirstNonStep (c : Client) (labels : List Label) (number : ℕ) : Type 0 where
  pub position : ℕ
  pub label : Label
  pub machine : Machine Activation
  pub there : slice_get labels position ≡ Some label
  pub counted : number ≡ position + 1
  pub leads : LeadsTo c (take position labels) machine
  pub none : IsNoStep (program_of c) machine (label_of label)

abbrev pub is_fault : LabelKind → Bool
is_fault (kinds.Fault kind) = true
is_fault _ = false

-- some thread stops at a fault
abbrev pub has_fault : List Label → Bool
has_fault labels = list_any (λ (l : Label). is_fault l.kind) labels

-- the thread that the first fault stops
abbrev pub first_fault : List Label → Option ℕ
first_fault labels = option_map (λ (l : Label). l.thread) (find (λ (l : Label). is_fault l.kind) labels)

-- the first fault, or that no order of the calls is allowed
abbrev pub violation_of : Option ℕ → Violation
violation_of (Some thread) = violations.Fault thread
violation_of None = violations.NoOrder

-- the bounded queue whose answers the client's calls are held against
abbrev pub queue_of : Client → Object
queue_of c = Queue (mode_view c.mode) c.capacity

-- the run is good: no fault stands in it, and its calls and returns have a linearization
abbrev pub IsGoodRun : Client → List Label → Type 0
IsGoodRun c labels = IsGood (queue_of c) (map label_of labels)

-- the run is an error: it is not good
pub record IsErrorTrace (c : Client) (labels : List Label) : Type 0 where
  pub run : IsRun c labels
  pub errs : IsGoodRun c labels → ⊥

-- why a list of labels is refused as a trace. Memory is wanting where there is a label
abbrev pub IsTraceFault : Client → List Label → TraceFault → Type 0
IsTraceFault c labels (NotAStep number) = IsFirstNonStep c labels number
IsTraceFault c labels NoError = IsRun c labels × IsGoodRun c labels
IsTraceFault c labels (Grammar line) = ⊥
IsTraceFault c labels Memory = labels ≢ []
