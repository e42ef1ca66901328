-- A client as a program of the model.
use Rattle.std.specs.Prelude.{ℕ, zero, suc, List, [], ◌∷◌, length, map, Option, Some, None}
use Rattle.tso_line.specs.declared.instruction.CallKind.{CallKind}
use Rattle.tso_prog.specs.declared.client.Client.{Client}
use Rattle.tso_prog.specs.Views.{call_view}
use Rattle.tso_machine.specs.Activations.{Activation, activation}
use Rattle.tso_machine.specs.Changes.{first_frame}
use Rattle.tso_flow.specs.Calls.{calls_of_client}
use Rattle.tso_flow.specs.declared.location.ProcedureKind.{ProcedureKind}
use Rattle.tso_flow.specs.declared.location.ProcedureKind.TheVariants as procedures
use Rattle.tso_machine.specs.Instructions.{back_jumps, instructions_of, next_action}
use Rattle.tso_model.specs.Programs as model

-- how many back jumps a procedure has
abbrev pub jump_count : Client → ProcedureKind → ℕ
jump_count c name = back_jumps 0 (instructions_of c name)

-- a call starts at the first instruction, with all registers and flags 0 but RDI of a push, which has the argument
abbrev pub start_of : Client → model.CallKind → Activation
start_of c (model.Push v) = activation procedures.Push (first_frame v (jump_count c procedures.Push))
start_of c model.Pop = activation procedures.Pop (first_frame 0 (jump_count c procedures.Pop))

-- the prologue's thread comes after all others
abbrev pub prologue_number : List CallKind → ℕ → Option ℕ
prologue_number [] others = None
prologue_number (k ∷ ks) others = Some others

abbrev pub calls_of : Client → List (List model.CallKind)
calls_of c = map (map call_view) (calls_of_client c)

-- the program of the model that a client stands for
abbrev pub program_of : Client → model.Program Activation
program_of c = record { next = next_action c; start = start_of c; calls = calls_of c; prologue = prologue_number c.prologue (length c.threads) }

-- the calls of a thread, without the list of all
abbrev pub calls_in : List (List CallKind) → List CallKind → ℕ → List CallKind
calls_in [] prologue zero = prologue
calls_in [] prologue (suc i) = []
calls_in (calls ∷ rest) prologue zero = calls
calls_in (calls ∷ rest) prologue (suc i) = calls_in rest prologue i
