-- What the grammar of traces and the steps of a cursor mean, what queue runs are held against, and what histories say of runs.
use Rattle.std.specs.Prelude.{◌≡◌, ◌+◌, ℕ, pos, List, [], ◌∷◌, length, Some, slice_get}
use Rattle.std.specs.List.{flat_map}
use Rattle.tso_line.specs.declared.instruction.Mode.{Mode}
use Rattle.tso_line.specs.declared.instruction.Mode.TheVariants as modes
use Rattle.tso_hist.specs.declared.call.Call.{Call}
use Rattle.tso_hist.specs.Turns.{IsHistoryOf, IsInTurn}
use Rattle.tso_hist.specs.Views.{history_view}
use Rattle.tso_model.specs.Events.{events_of}
use Rattle.tso_model.specs.Histories.{SameCalls}
use Rattle.tso_model.specs.Labels as model
use Rattle.tso_model.specs.Objects as objects
use Rattle.tso_prog.specs.Client.{client}
use Rattle.tso_prog.specs.Parts.{HasParts, capacity_in, mode_in}
use Rattle.tso_prog.specs.Program.{Numbered}
use Rattle.tso_prog.specs.Views.{mode_view}
use Rattle.tso_prog.specs.declared.client.Array.{Array}
use Rattle.tso_prog.specs.declared.client.Client.{Client}
use Rattle.tso_machine.specs.Places.{place_of}
use Rattle.tso_machine.specs.Activations.{Activation}
use Rattle.tso_machine.specs.Laws.{IsRunOf}
use Rattle.tso_machine.specs.Machines.{machine_of}
use Rattle.tso_machine.specs.Programs.{calls_of}
use Rattle.tso_machine.specs.declared.label.Label.{Label}
use Rattle.tso_trace.specs.declared.fault.TraceFault.{TraceFault}
use Rattle.tso_trace.specs.declared.fault.TraceFault.TheVariants.{Memory}
use Rattle.tso_trace.specs.Grammar.{cell_text, named_cell, IsFirstBadLine, IsLineOf, IsReadFault, IsTextOf}
use Rattle.tso_trace.specs.Runs.{IsErrorTrace, queue_of}
use Rattle.tso_trace.specs.Walks.{Shown, StandsAt}

-- a line spells one label at most
abbrev pub LinesAreUnique : Client → Type 0
LinesAreUnique c = (line : List ℕ) (a b : Label) → IsLineOf c.arrays line a → IsLineOf c.arrays line b → a ≡ b

-- a text spells one list of labels, or has one earliest line that is not of the grammar, and not both
pub record AreTextsUnique (c : Client) : Type 0 where
  pub labels : (text : List ℕ) (xs ys : List Label) → IsTextOf c.arrays text xs → IsTextOf c.arrays text ys → xs ≡ ys
  pub lines : (text : List ℕ) (m n : ℕ) → IsFirstBadLine c.arrays text m → IsFirstBadLine c.arrays text n → m ≡ n
  pub apart : (text : List ℕ) (labels : List Label) (n : ℕ) → IsTextOf c.arrays text labels → IsFirstBadLine c.arrays text n → ⊥

-- the text of an error trace is refused for want of memory alone
abbrev pub ReadsBack : Client → Type 0
ReadsBack c = (text : List ℕ) (labels : List Label) (fault : TraceFault) → IsTextOf c.arrays text labels → IsErrorTrace c labels → IsReadFault c text fault → fault ≡ Memory

-- after so many labels of a trace the machine is always the same
abbrev pub PlacesShowOneState : Type 0
PlacesShowOneState =
    (s t : Shown) → StandsAt s → StandsAt t → s.client ≡ t.client → s.labels ≡ t.labels → s.position ≡ t.position → machine_of s.machine ≡ machine_of t.machine

-- each word of each array is shown by the array's name and the word's index
abbrev pub CellsAreNamed : Client → Type 0
CellsAreNamed c =
    (number index place : ℕ) (a : Array) → slice_get c.arrays number ≡ Some a → place_of c.arrays number (pos index) ≡ Some place → cell_text c.arrays place ≡ named_cell a.name index

-- a step forwards and then one back show the state before
abbrev pub BackIsInverse : Type 0
BackIsInverse =
    (before there back : Shown) → StandsAt before → StandsAt back → there.client ≡ before.client → there.labels ≡ before.labels → back.client ≡ there.client → back.labels ≡ there.labels
    → there.position ≡ before.position + 1 → back.position + 1 ≡ there.position → machine_of back.machine ≡ machine_of before.machine

-- the queue that a client's calls are held against has its mode and its capacity: those of the two lines where the client
-- is of the lines of a text
pub record QueueIsTheClients (c : Client) : Type 0 where
  pub strict : c.mode ≡ modes.Strict → queue_of c ≡ objects.Queue objects.Strict c.capacity
  pub weak : c.mode ≡ modes.Weak → queue_of c ≡ objects.Queue objects.Weak c.capacity
  pub lines : (lines : List Numbered) (mode : Mode) (capacity : ℕ) → HasParts lines (client c) → flat_map (λ l. mode_in l.line) lines ≡ mode ∷ [] → flat_map (λ l. capacity_in l.line) lines ≡ capacity ∷ []
      → queue_of c ≡ objects.Queue (mode_view mode) capacity

-- each thread calls and returns in turn, and the history that on_call and on_return make of the events says of kinds,
-- answers and "before" what they say
pub record IsTold (c : Client) (labels : List model.Label) : Type 0 where
  pub turns : IsInTurn (length (calls_of c)) (events_of labels)
  pub tells : (h : List (List Call)) → IsHistoryOf (length (calls_of c)) (events_of labels) h → SameCalls (history_view h) (events_of labels)

-- so in each run of the client's machine
abbrev pub RunsAreTold : Client → Type 0
RunsAreTold c = (labels : List model.Label) (m : model.Machine Activation) → IsRunOf c labels m → IsTold c labels
