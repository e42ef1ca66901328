-- What records show of instructions.
use Rattle.std.specs.Prelude.{ℕ, List, [], ◌∷◌, Option, Some, None, length, replicate, slice_get, slice_set}
use Rattle.std.specs.List.{fold}
use Rattle.tso_verdict.specs.declared.mark.Mark.{Mark}
use Rattle.tso_verdict.specs.declared.mark.Mark.TheVariants.{NeverMet, Met, Cut}
use Rattle.tso_flow.specs.declared.location.ProcedureKind.{ProcedureKind}
use Rattle.tso_flow.specs.declared.location.ProcedureKind.TheVariants as procedures
use Rattle.tso_machine.specs.Activations.{activation}
use Rattle.tso_hist.specs.declared.call.Call.{Call}
use Rattle.tso_machine.specs.Instructions.{instructions_of, next_action}
use Rattle.tso_machine.specs.Kinds.{kind_of_action}
use Rattle.tso_machine.specs.declared.frame.Frame.{Frame}
use Rattle.tso_machine.specs.declared.kinds.ActionKind.{ActionKind}
use Rattle.tso_machine.specs.declared.kinds.ActionKind.TheVariants as kinds
use Rattle.tso_prog.specs.declared.client.Client.{Client}
use Rattle.tso_state.specs.Views.{running_procedure}
use Rattle.tso_state.specs.declared.state.Core.{Core}
use Rattle.tso_state.specs.declared.state.Core.TheVariants as cores
use Rattle.tso_state.specs.declared.state.State.{State}
use Rattle.tso_state.specs.declared.state.Thread.{Thread}

-- a call is at an instruction; it is cut there where no step follows
abbrev pub mark_of_kind : ActionKind → Mark
mark_of_kind kinds.Local = Met
mark_of_kind (kinds.Load place) = Met
mark_of_kind kinds.Barrier = Met
mark_of_kind (kinds.Locked place) = Met
mark_of_kind kinds.Return = Met
mark_of_kind kinds.Cut = Cut

-- what a running call shows of the instruction that it is at
abbrev pub mark_at : Client → ProcedureKind → Frame → Mark
mark_at c procedure f = mark_of_kind (kind_of_action (next_action c (activation procedure f)))

-- of two marks the one that shows more
abbrev pub stronger : Mark → Mark → Mark
stronger Cut b = Cut
stronger Met Cut = Cut
stronger Met Met = Met
stronger Met NeverMet = Met
stronger NeverMet b = b

-- the marks once a record shows another one at a position
abbrev pub noted_over : List Mark → ℕ → Mark → Option Mark → List Mark
noted_over marks position mark None = marks
noted_over marks position mark (Some before) = slice_set marks position (stronger before mark)

abbrev pub noted : List Mark → ℕ → Mark → List Mark
noted marks position mark = noted_over marks position mark (slice_get marks position)

-- the marks of a procedure once a record has a call at an instruction of a procedure
abbrev pub noted_in : Client → ProcedureKind → ProcedureKind → Frame → List Mark → List Mark
noted_in c procedures.Push procedures.Push f marks = noted marks f.pc (mark_at c procedures.Push f)
noted_in c procedures.Push procedures.Pop f marks = marks
noted_in c procedures.Pop procedures.Push f marks = marks
noted_in c procedures.Pop procedures.Pop f marks = noted marks f.pc (mark_at c procedures.Pop f)

-- once a record has a core that runs a call of a procedure, if it runs one
abbrev pub core_noted : Client → ProcedureKind → ProcedureKind → Core → List Mark → List Mark
core_noted c which procedure (cores.Running f) marks = noted_in c which procedure f marks
core_noted c which procedure cores.Idle marks = marks
core_noted c which procedure cores.Stopped marks = marks

abbrev pub thread_noted : Client → ProcedureKind → Thread → List Call → List Mark → List Mark
thread_noted c which t calls marks = core_noted c which (running_procedure calls) t.core marks

-- once a record has these threads, with their calls that have begun
abbrev pub threads_noted : Client → ProcedureKind → List Thread → List (List Call) → List Mark → List Mark
threads_noted c which [] history marks = marks
threads_noted c which (t ∷ threads) [] marks = marks
threads_noted c which (t ∷ threads) (calls ∷ history) marks = threads_noted c which threads history (thread_noted c which t calls marks)

abbrev pub state_noted : Client → ProcedureKind → List Mark → State → List Mark
state_noted c which marks s = threads_noted c which s.threads s.history marks

-- once records have these states
abbrev pub states_noted : Client → ProcedureKind → List Mark → List State → List Mark
states_noted c which marks states = fold (state_noted c which) marks states

-- what records of these states show of the instructions of a procedure
abbrev pub marks_of : Client → ProcedureKind → List State → List Mark
marks_of c which states = states_noted c which (replicate (length (instructions_of c which)) NeverMet) states
