-- The calls of a run, in time: labels are numbered from 1.
use Rattle.std.specs.Prelude.{ℕ, ◌+◌, ◌==◌, if◌then◌else◌, List, [], ◌∷◌, ◌++◌, Option, Some, None}
use Rattle.tso_machine.specs.declared.label.Label.{Label}
use Rattle.tso_machine.specs.declared.label.LabelKind.{LabelKind}
use Rattle.tso_machine.specs.declared.label.LabelKind.TheVariants as kinds
use Rattle.tso_prog.specs.declared.answer.Answer.{Answer}
use Rattle.tso_why.specs.declared.call.Returned.{Returned}
use Rattle.tso_why.specs.declared.call.TimedCall.{TimedCall}

abbrev pub answer_of : LabelKind → Option Answer
answer_of (kinds.Return answer) = Some answer
answer_of _ = None

-- the answer, where the label is a return of the thread
abbrev pub answer_in : ℕ → Label → Option Answer
answer_in thread l = if l.thread == thread then answer_of l.kind else None

-- this return, or else the later one
abbrev pub first_of : ℕ → Option Answer → Option Returned → Option Returned
first_of number (Some answer) later = Some (record { label = number; answer = answer })
first_of number None later = later

-- the first return of the thread among labels that stand behind so many others
abbrev pub returned_in : ℕ → ℕ → List Label → Option Returned
returned_in thread behind [] = None
returned_in thread behind (l ∷ ls) = first_of (behind + 1) (answer_in thread l) (returned_in thread (behind + 1) ls)

-- the call that begins at a label of this kind, behind so many others
abbrev pub call_at : ℕ → ℕ → LabelKind → List Label → List TimedCall
call_at behind thread (kinds.Call kind) later = record { thread = thread; kind = kind; begins = behind + 1; returns = returned_in thread (behind + 1) later } ∷ []
call_at behind thread _ later = []

-- each call that begins, in order, with the first return of its thread behind it
abbrev pub calls_from : ℕ → List Label → List TimedCall
calls_from behind [] = []
calls_from behind (l ∷ ls) = call_at behind l.thread l.kind ls ++ calls_from (behind + 1) ls
