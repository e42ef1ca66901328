-- The calls of a client, and how many steps they can take.
use Rattle.std.specs.Prelude.{ℕ, ◌+◌, ◌*◌, List, [], ◌∷◌, ◌++◌, length, Option, Some, None, sum_by}
use Rattle.tso_line.specs.declared.instruction.CallKind.{CallKind}
use Rattle.tso_line.specs.declared.instruction.CallKind.TheVariants.{Push, Pop}
use Rattle.tso_line.specs.declared.instruction.Instruction.{Instruction}
use Rattle.tso_line.specs.declared.instruction.Instruction.TheVariants.{Jump}
use Rattle.tso_prog.specs.declared.client.Client.{Client}
use Rattle.tso_prog.specs.declared.client.Procedure.{Procedure}
use Rattle.tso_flow.specs.declared.location.ProcedureKind.{ProcedureKind}
use Rattle.tso_flow.specs.declared.location.ProcedureKind.TheVariants as procedures

-- which procedure a call runs
abbrev pub kind_of : CallKind → ProcedureKind
kind_of (Push argument) = procedures.Push
kind_of Pop = procedures.Pop

abbrev pub procedure_of_kind : Client → ProcedureKind → Procedure
procedure_of_kind client procedures.Push = client.push
procedure_of_kind client procedures.Pop = client.pop

-- the procedure that a call runs
abbrev pub procedure_of : Client → CallKind → Procedure
procedure_of client call = procedure_of_kind client (kind_of call)

-- the prologue is one more thread, where there is one
abbrev pub as_thread : List CallKind → List (List CallKind)
as_thread [] = []
as_thread (call ∷ calls) = (call ∷ calls) ∷ []

-- the calls of each thread, the prologue's last
abbrev pub calls_of_client : Client → List (List CallKind)
calls_of_client client = client.threads ++ as_thread client.prologue

-- the number, or zero where there is none
abbrev pub number_or_zero : Option ℕ → ℕ
number_or_zero None = 0
number_or_zero (Some n) = n

-- how often the instruction may jump back in one call
abbrev pub bound_of : Instruction ℕ ℕ → ℕ
bound_of (Jump when target bound) = number_or_zero bound
bound_of _ = 0

-- how often the instructions may jump back in one call
abbrev pub bounds_of : List (Instruction ℕ ℕ) → ℕ
bounds_of steps = sum_by bound_of steps

-- A call begins and returns by one step each. Between two jumps back each instruction runs at most once, and none takes more than five steps, a store's drain counted.
unfoldable pub procedure_limit : Procedure → ℕ
procedure_limit procedure = 5 * length procedure.instructions * (1 + bounds_of procedure.instructions) + 2

-- how many steps the call can take at most
abbrev pub call_limit : Client → CallKind → ℕ
call_limit client call = procedure_limit (procedure_of client call)

-- how many steps a run of the client can take at most
abbrev pub step_limit : Client → ℕ
step_limit client = sum_by (λ calls. sum_by (λ call. call_limit client call) calls) (calls_of_client client)

-- of two numbers the one for this kind of call
abbrev pub by_kind : ℕ → ℕ → CallKind → ℕ
by_kind push pop (Push argument) = push
by_kind push pop Pop = pop
