-- The text of traces: which bytes spell a label, and which spell a list of labels. A line is of the grammar where it spells a label.
use Rattle.std.specs.Prelude.{◌≡◌, ◌≢◌, ◌⊎◌, ℕ, ◌+◌, ◌-◌, Bool, true, ◌&&◌, nat_lt, if◌then◌else◌, List, [], ◌∷◌, ◌++◌, length, sum_by, Option, Some, None, unwrap_or, codes, decimal, IsTrue}
use Rattle.std.specs.List.{flat_map, list_all}
use Rattle.tso_text.specs.Bytes.{newline}
use Rattle.tso_line.specs.Proper.{is_word, is_call}
use Rattle.tso_line.specs.declared.instruction.CallKind.{CallKind}
use Rattle.tso_line.specs.declared.instruction.CallKind.TheVariants as calls
use Rattle.tso_prog.specs.declared.answer.Answer.{Answer}
use Rattle.tso_prog.specs.declared.answer.Answer.TheVariants as answers
use Rattle.tso_prog.specs.declared.client.Array.{Array}
use Rattle.tso_prog.specs.declared.client.Client.{Client}
use Rattle.tso_machine.specs.declared.action.FaultKind.{FaultKind}
use Rattle.tso_machine.specs.declared.action.FaultKind.TheVariants as faults
use Rattle.tso_machine.specs.declared.label.Label.{Label}
use Rattle.tso_machine.specs.declared.label.LabelKind.{LabelKind}
use Rattle.tso_machine.specs.declared.label.LabelKind.TheVariants as kinds
use Rattle.tso_trace.specs.declared.fault.TraceFault.{TraceFault}
use Rattle.tso_trace.specs.declared.fault.TraceFault.TheVariants.{NotAStep, NoError, Grammar, Memory}
use Rattle.tso_trace.specs.Runs.{IsTraceFault}

-- ---- labels as lines

-- an array's name and an index
abbrev pub named_cell : List ℕ → ℕ → List ℕ
named_cell name index = name ++ (codes "[" ++ (decimal index ++ codes "]"))

-- the cell at a place, if the arrays, one after another, have so many words
abbrev pub cell_in : List Array → ℕ → Option (List ℕ)
cell_in [] place = None
cell_in (a ∷ arrays) place = if nat_lt place (length a.words) then Some (named_cell a.name place) else cell_in arrays (place - length a.words)

-- the cell at a place of memory; any other place is shown by its number
abbrev pub cell_text : List Array → ℕ → List ℕ
cell_text arrays place = unwrap_or (cell_in arrays place) (named_cell (codes "?") place)

-- a cell and a word
abbrev pub access_text : List Array → ℕ → ℕ → List ℕ
access_text arrays place word = cell_text arrays place ++ (codes " = " ++ decimal word)

-- which call begins
abbrev pub call_text : CallKind → List ℕ
call_text (calls.Push argument) = codes "push " ++ decimal argument
call_text calls.Pop = codes "pop"

-- what a call answers
abbrev pub answer_text : Answer → List ℕ
answer_text answers.Refused = codes "refused"
answer_text answers.Done = codes "done"
answer_text (answers.Value word) = codes "value " ++ decimal word

-- why a thread stops
abbrev pub fault_text : FaultKind → List ℕ
fault_text faults.OutOfRange = codes "range"
fault_text faults.FalseAssertion = codes "assert"
fault_text faults.BadAnswer = codes "answer"

-- what a thread does
abbrev pub kind_text : List Array → LabelKind → List ℕ
kind_text arrays (kinds.Call call) = codes "call " ++ call_text call
kind_text arrays kinds.Reg = codes "reg"
kind_text arrays (kinds.Read place word) = codes "read " ++ access_text arrays place word
kind_text arrays (kinds.Write place word) = codes "write " ++ access_text arrays place word
kind_text arrays (kinds.Drain place word) = codes "drain " ++ access_text arrays place word
kind_text arrays kinds.Fence = codes "fence"
kind_text arrays kinds.Lock = codes "lock"
kind_text arrays kinds.Unlock = codes "unlock"
kind_text arrays (kinds.Return answer) = codes "return " ++ answer_text answer
kind_text arrays (kinds.Fault kind) = codes "fault " ++ fault_text kind

-- the thread, a space, and what it does
abbrev pub line_text : List Array → Label → List ℕ
line_text arrays l = decimal l.thread ++ (codes " " ++ kind_text arrays l.kind)

-- ---- which labels a line can spell

-- a place of memory, and a word of 64 bits
abbrev pub is_access : List Array → ℕ → ℕ → Bool
is_access arrays place word = nat_lt place (sum_by (λ (a : Array). length a.words) arrays) && is_word word

-- a word of 64 bits, where it has one
abbrev pub is_answer : Answer → Bool
is_answer (answers.Value word) = is_word word
is_answer _ = true

-- its places are those of memory, and its words have 64 bits
abbrev pub is_proper_kind : List Array → LabelKind → Bool
is_proper_kind arrays (kinds.Call call) = is_call call
is_proper_kind arrays (kinds.Read place word) = is_access arrays place word
is_proper_kind arrays (kinds.Write place word) = is_access arrays place word
is_proper_kind arrays (kinds.Drain place word) = is_access arrays place word
is_proper_kind arrays (kinds.Return answer) = is_answer answer
is_proper_kind arrays _ = true

-- and so has the number of its thread
abbrev pub is_proper : List Array → Label → Bool
is_proper arrays l = is_word l.thread && is_proper_kind arrays l.kind

-- the line spells the label
pub record IsLineOf (arrays : List Array) (line : List ℕ) (l : Label) : Type 0 where
  pub proper : IsTrue (is_proper arrays l)
  pub spelled : line ≡ line_text arrays l

-- ---- texts

-- the first line
abbrev pub header : List ℕ
header = codes "tso-trace 1"

-- a line with its newline
abbrev pub ended : List ℕ → List ℕ
ended line = line ++ newline ∷ []

-- the lines of labels, each with its newline
abbrev pub lines_text : List Array → List Label → List ℕ
lines_text arrays labels = flat_map (λ (l : Label). ended (line_text arrays l)) labels

-- the first line, and one for each label
abbrev pub trace_text : List Array → List Label → List ℕ
trace_text arrays labels = ended header ++ lines_text arrays labels

-- the text spells the labels
pub record IsTextOf (arrays : List Array) (text : List ℕ) (labels : List Label) : Type 0 where
  pub proper : IsTrue (list_all (is_proper arrays) labels)
  pub spelled : text ≡ trace_text arrays labels

-- ---- the earliest line that is not of the grammar

-- the text begins with the first line of each trace
pub record HasHeader (text : List ℕ) : Type 0 where
  pub rest : List ℕ
  pub begins : text ≡ ended header ++ rest

-- the text begins with the line of a label
pub record HasLine (arrays : List Array) (text : List ℕ) : Type 0 where
  pub label : Label
  pub rest : List ℕ
  pub proper : IsTrue (is_proper arrays label)
  pub begins : text ≡ ended (line_text arrays label) ++ rest

-- the text begins with the line of this label, and goes on so
abbrev pub BeginsWithLine : List Array → List ℕ → Label → List ℕ → Type 0
BeginsWithLine arrays text label rest = IsTrue (is_proper arrays label) × (text ≡ ended (line_text arrays label) ++ rest)

-- behind the first line and the lines of these labels the text goes on, and not with the line of a label
pub record GoesWrong (arrays : List Array) (text : List ℕ) (labels : List Label) : Type 0 where
  pub rest : List ℕ
  pub proper : IsTrue (list_all (is_proper arrays) labels)
  pub begins : text ≡ trace_text arrays labels ++ rest
  pub goes_on : rest ≢ []
  pub wrong : HasLine arrays rest → ⊥

-- the line of this number, from 1, is not of the grammar, and those before it are
abbrev pub IsFirstBadLine : List Array → List ℕ → ℕ → Type 0
IsFirstBadLine arrays text number =
    ((number ≡ 1) × (HasHeader text → ⊥)) ⊎ ((labels : List Label) × (number ≡ length labels + 2) × GoesWrong arrays text labels)

-- the text spells a list of labels that is not empty
abbrev pub SpellsLabels : List Array → List ℕ → Type 0
SpellsLabels arrays text = (labels : List Label) × IsTextOf arrays text labels × (labels ≢ [])

-- why the labels of a text are not told: memory is wanting for those of a text of the grammar alone
abbrev pub IsTextFault : List Array → List ℕ → TraceFault → Type 0
IsTextFault arrays text (Grammar line) = IsFirstBadLine arrays text line
IsTextFault arrays text Memory = SpellsLabels arrays text
IsTextFault arrays text (NotAStep number) = ⊥
IsTextFault arrays text NoError = ⊥

-- why a text is refused as a trace: a line is not of the grammar, or else its labels are no trace. Memory is wanting for
-- labels alone
abbrev pub IsReadFault : Client → List ℕ → TraceFault → Type 0
IsReadFault c text (Grammar line) = IsFirstBadLine c.arrays text line
IsReadFault c text Memory = SpellsLabels c.arrays text
IsReadFault c text (NotAStep number) = (labels : List Label) × IsTextOf c.arrays text labels × IsTraceFault c labels (NotAStep number)
IsReadFault c text NoError = (labels : List Label) × IsTextOf c.arrays text labels × IsTraceFault c labels NoError
