-- How far calls come, and what they answer.
use Rattle.std.specs.Prelude.{ℕ, List, ◌||◌, Bool, true, false, Option, Some, None, slice_get, slice_set}
use Rattle.std.specs.List.{fold, list_any}
use Rattle.tso_verdict.specs.declared.call.Reach.{Reach}
use Rattle.tso_verdict.specs.declared.call.Reach.TheVariants.{NeverBegun, NeverReturned, Returned}
use Rattle.tso_flow.specs.Calls.{kind_of}
use Rattle.tso_flow.specs.declared.location.ProcedureKind.{ProcedureKind}
use Rattle.tso_flow.specs.declared.location.ProcedureKind.TheVariants as procedures
use Rattle.tso_hist.specs.declared.call.Call.{Call}
use Rattle.tso_prog.specs.declared.answer.Answer.{Answer}
use Rattle.tso_prog.specs.declared.answer.Answer.TheVariants.{Refused, Done, Value}
use Rattle.tso_state.specs.declared.state.State.{State}

abbrev pub reach_of_answer : Option Answer → Reach
reach_of_answer None = NeverReturned
reach_of_answer (Some answer) = Returned

-- how far a call has come that has begun
abbrev pub reach_of : Call → Reach
reach_of call = reach_of_answer call.answer

-- of two the one that is further
abbrev pub further : Reach → Reach → Reach
further Returned b = Returned
further NeverReturned Returned = Returned
further NeverReturned NeverReturned = NeverReturned
further NeverReturned NeverBegun = NeverReturned
further NeverBegun b = b

-- how far calls come once one of them has come so far
abbrev pub noted_over : List Reach → ℕ → Reach → Option Reach → List Reach
noted_over calls number reach None = calls
noted_over calls number reach (Some before) = slice_set calls number (further before reach)

abbrev pub noted : List Reach → ℕ → Reach → List Reach
noted calls number reach = noted_over calls number reach (slice_get calls number)

abbrev pub is_refused_answer : Option Answer → Bool
is_refused_answer None = false
is_refused_answer (Some Refused) = true
is_refused_answer (Some Done) = false
is_refused_answer (Some (Value word)) = false

abbrev pub if_same : ProcedureKind → ProcedureKind → Bool → Bool
if_same procedures.Push procedures.Push b = b
if_same procedures.Push procedures.Pop b = false
if_same procedures.Pop procedures.Push b = false
if_same procedures.Pop procedures.Pop b = b

-- a call of this procedure that was refused
abbrev pub is_refused_by : ProcedureKind → Call → Bool
is_refused_by procedure call = if_same (kind_of call.kind) procedure (is_refused_answer call.answer)

abbrev pub has_refused : ProcedureKind → List Call → Bool
has_refused procedure calls = list_any (λ call. is_refused_by procedure call) calls

abbrev pub is_done_answer : Option Answer → Bool
is_done_answer None = false
is_done_answer (Some Refused) = false
is_done_answer (Some Done) = true
is_done_answer (Some (Value word)) = false

-- a push that is done: no other call answers so
abbrev pub is_done : Call → Bool
is_done call = is_done_answer call.answer

-- whether a call of this procedure was refused, once a record has this state
abbrev pub refused_noted : ProcedureKind → Bool → State → Bool
refused_noted procedure was s = was || list_any (has_refused procedure) s.history

-- whether one is refused in some of these states
abbrev pub refused_in : ProcedureKind → List State → Bool
refused_in procedure states = fold (refused_noted procedure) false states
