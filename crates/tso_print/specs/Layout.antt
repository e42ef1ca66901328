-- The lines that a client is printed as.
use Rattle.std.specs.Prelude.{ℕ, ◌+◌, ◌-◌, ◌*◌, ◌^◌, Bool, false, ◌==◌, nat_lt, if◌then◌else◌, List, [], ◌∷◌, ◌++◌, length, map, drop, codes, slice_index_or, Option, Some, None, ℤ, pos, negsuc}
use Rattle.std.specs.List.{list_all, list_any}
use Rattle.std.specs.Fmt.{decimal}
use Rattle.tso_line.specs.declared.instruction.Register.{Register}
use Rattle.tso_line.specs.declared.instruction.Mode.{Mode}
use Rattle.tso_line.specs.declared.instruction.Mode.TheVariants as modes
use Rattle.tso_line.specs.declared.instruction.CallKind.{CallKind}
use Rattle.tso_line.specs.declared.instruction.CallKind.TheVariants as calls
use Rattle.tso_line.specs.declared.instruction.Source.{Source}
use Rattle.tso_line.specs.declared.instruction.Source.TheVariants as sources
use Rattle.tso_line.specs.declared.instruction.Address.{Address}
use Rattle.tso_line.specs.declared.instruction.LockedOperation.{LockedOperation}
use Rattle.tso_line.specs.declared.instruction.LockedOperation.TheVariants as locked
use Rattle.tso_line.specs.declared.instruction.Instruction.{Instruction}
use Rattle.tso_line.specs.declared.instruction.Instruction.TheVariants as instructions
use Rattle.tso_line.specs.declared.lexeme.Directive.TheVariants as directives
use Rattle.tso_line.specs.declared.lexeme.Mnemonic.TheVariants as mnemonics
use Rattle.tso_line.specs.declared.lexeme.Meaning.TheVariants as meanings
use Rattle.tso_line.specs.Instructions.{label_of}
use Rattle.tso_prog.specs.declared.client.Array.{Array}
use Rattle.tso_prog.specs.Clients.{ClientOf}
use Rattle.tso_print.specs.Signs.{Sign, directive, keyword, name, number, colon, comma, bracket, end_bracket, plus, minus, star, equals}
use Rattle.tso_print.specs.Pieces.{Piece, tight, spaced, indented, text_of}

-- ---- operands

abbrev pub register_sign : Register → Sign
register_sign r = keyword (meanings.Register r)

-- a word as a signed number: from 2^63 on it is printed as what is missing to 2^64, behind a minus
abbrev pub source_pieces : Source → List Piece
source_pieces (sources.Register r) = spaced (register_sign r) ∷ []
source_pieces (sources.Word w) = if nat_lt w (2 ^ 63) then spaced (number w) ∷ [] else spaced minus ∷ tight (number (2 ^ 64 - w)) ∷ []

-- `+ R*8`
abbrev pub index_pieces : Option Register → List Piece
index_pieces None = []
index_pieces (Some r) = spaced plus ∷ spaced (register_sign r) ∷ tight star ∷ tight (number 8) ∷ []

-- `+ D` or `- D`, in bytes
abbrev pub offset_pieces : ℤ → List Piece
offset_pieces (pos n) = if n == 0 then [] else spaced plus ∷ spaced (number (n * 8)) ∷ []
offset_pieces (negsuc n) = spaced minus ∷ spaced (number ((n + 1) * 8)) ∷ []

-- the name of the array of this number
abbrev pub array_name : List Array → ℕ → List ℕ
array_name arrays n = (slice_index_or arrays n (record { name = []; words = [] })).name

abbrev pub cell_pieces : List Array → Address ℕ → List Piece
cell_pieces arrays cell =
    spaced (keyword meanings.Qword) ∷ spaced (keyword meanings.Ptr) ∷ spaced bracket ∷ tight (name (array_name arrays cell.array))
    ∷ (index_pieces cell.index ++ (offset_pieces cell.offset ++ tight end_bracket ∷ []))

-- ---- instructions

-- `l` and the position of the instruction before which the label stands
abbrev pub label_name : ℕ → List ℕ
label_name at = codes "l" ++ decimal at

-- `R, S`
abbrev pub two_pieces : Register → Source → List Piece
two_pieces left right = spaced (register_sign left) ∷ tight comma ∷ source_pieces right

abbrev pub bound_pieces : Option ℕ → List Piece
bound_pieces None = []
bound_pieces (Some n) = spaced (keyword meanings.Bound) ∷ spaced (number n) ∷ []

-- a label, and perhaps a bound
abbrev pub jump_pieces : ℕ → Option ℕ → List Piece
jump_pieces target bound = spaced (name (label_name target)) ∷ bound_pieces bound

-- a compare and exchange, and an exchange and add, stand behind lock
abbrev pub locked_pieces : LockedOperation → List Piece
locked_pieces locked.Exchange = indented (keyword (meanings.Mnemonic (mnemonics.Locked locked.Exchange))) ∷ []
locked_pieces operation = indented (keyword meanings.Lock) ∷ spaced (keyword (meanings.Mnemonic (mnemonics.Locked operation))) ∷ []

abbrev pub instruction_pieces : List Array → Instruction ℕ ℕ → List Piece
instruction_pieces arrays (instructions.Move to from) = indented (keyword (meanings.Mnemonic mnemonics.Mov)) ∷ two_pieces to from
instruction_pieces arrays (instructions.Load to from) = indented (keyword (meanings.Mnemonic mnemonics.Mov)) ∷ spaced (register_sign to) ∷ tight comma ∷ cell_pieces arrays from
instruction_pieces arrays (instructions.Store to from) = indented (keyword (meanings.Mnemonic mnemonics.Mov)) ∷ (cell_pieces arrays to ++ tight comma ∷ source_pieces from)
instruction_pieces arrays (instructions.Compute operation to from) = indented (keyword (meanings.Mnemonic (mnemonics.Compute operation))) ∷ two_pieces to from
instruction_pieces arrays (instructions.Compare comparison left right) = indented (keyword (meanings.Mnemonic (mnemonics.Compare comparison))) ∷ two_pieces left right
instruction_pieces arrays (instructions.Increment to) = indented (keyword (meanings.Mnemonic mnemonics.Increment)) ∷ spaced (register_sign to) ∷ []
instruction_pieces arrays (instructions.Decrement to) = indented (keyword (meanings.Mnemonic mnemonics.Decrement)) ∷ spaced (register_sign to) ∷ []
instruction_pieces arrays (instructions.Jump when target bound) = indented (keyword (meanings.Mnemonic (mnemonics.Jump when))) ∷ jump_pieces target bound
instruction_pieces arrays (instructions.Assert condition) = indented (keyword (meanings.Mnemonic mnemonics.Assert)) ∷ spaced (keyword (meanings.Condition condition)) ∷ []
instruction_pieces arrays (instructions.Locked operation cell register) = locked_pieces operation ++ (cell_pieces arrays cell ++ tight comma ∷ spaced (register_sign register) ∷ [])
instruction_pieces arrays instructions.Fence = indented (keyword (meanings.Mnemonic mnemonics.Fence)) ∷ []
instruction_pieces arrays instructions.Nop = indented (keyword (meanings.Mnemonic mnemonics.Nop)) ∷ []
instruction_pieces arrays instructions.Pause = indented (keyword (meanings.Mnemonic mnemonics.Pause)) ∷ []
instruction_pieces arrays instructions.Return = indented (keyword (meanings.Mnemonic mnemonics.Return)) ∷ []

-- ---- procedures

abbrev pub is_target : ℕ → Option ℕ → Bool
is_target at None = false
is_target at (Some target) = target == at

-- some of the instructions jumps to this position
abbrev pub is_jumped_to : List (Instruction ℕ ℕ) → ℕ → Bool
is_jumped_to steps at = list_any (λ i. is_target at (label_of i)) steps

-- a label stands only where it is jumped to
abbrev pub label_lines : List (Instruction ℕ ℕ) → ℕ → List (List Piece)
label_lines steps at = if is_jumped_to steps at then (tight (name (label_name at)) ∷ tight colon ∷ []) ∷ [] else []

-- the lines of the last instructions, which begin at this position, and the label behind them
abbrev pub body_lines : List Array → List (Instruction ℕ ℕ) → ℕ → List (Instruction ℕ ℕ) → List (List Piece)
body_lines arrays steps at [] = label_lines steps at
body_lines arrays steps at (i ∷ is) = label_lines steps at ++ instruction_pieces arrays i ∷ body_lines arrays steps (at + 1) is

-- the text of those from a position on
abbrev pub text_from : List Array → List (Instruction ℕ ℕ) → ℕ → List ℕ
text_from arrays steps at = text_of (body_lines arrays steps at (drop at steps))

-- the lines of a procedure
abbrev pub body_text : List Array → List (Instruction ℕ ℕ) → List ℕ
body_text arrays steps = text_of (body_lines arrays steps 0 steps)

-- a procedure from its directive to its end
abbrev pub procedure_text : List Array → List ℕ → List (Instruction ℕ ℕ) → List ℕ
procedure_text arrays head steps = head ++ (codes "\n" ++ (body_text arrays steps ++ codes ".end\n"))

-- ---- the other lines

abbrev pub mode_sign : Mode → Sign
mode_sign modes.Strict = keyword meanings.Strict
mode_sign modes.Weak = keyword meanings.Weak

-- what follows the first of a list, behind a comma each
abbrev pub more_values : List ℕ → List Piece
more_values [] = []
more_values (v ∷ vs) = tight comma ∷ spaced (number v) ∷ more_values vs

-- no values where all are 0
abbrev pub value_pieces : List ℕ → List Piece
value_pieces [] = []
value_pieces (v ∷ vs) = if list_all (λ w. w == 0) (v ∷ vs) then [] else spaced equals ∷ spaced (number v) ∷ more_values vs

abbrev pub array_pieces : Array → List Piece
array_pieces a = tight (directive directives.Array) ∷ spaced (name a.name) ∷ spaced (number (length a.words)) ∷ value_pieces a.words

abbrev pub call_pieces : CallKind → List Piece
call_pieces (calls.Push v) = spaced (keyword meanings.Push) ∷ spaced (number v) ∷ []
call_pieces calls.Pop = spaced (keyword meanings.Pop) ∷ []

abbrev pub more_calls : List CallKind → List Piece
more_calls [] = []
more_calls (c ∷ cs) = tight comma ∷ (call_pieces c ++ more_calls cs)

-- calls between commas
abbrev pub calls_pieces : List CallKind → List Piece
calls_pieces [] = []
calls_pieces (c ∷ cs) = call_pieces c ++ more_calls cs

-- no line where there is no prologue
abbrev pub prologue_lines : List CallKind → List (List Piece)
prologue_lines [] = []
prologue_lines (c ∷ cs) = (tight (directive directives.Before) ∷ calls_pieces (c ∷ cs)) ∷ []

abbrev pub thread_pieces : List CallKind → List Piece
thread_pieces calls = tight (directive directives.Thread) ∷ calls_pieces calls

abbrev pub directive_line : Sign → List Piece
directive_line sign = tight sign ∷ []

-- ---- the whole

abbrev pub head_lines : ℕ → Mode → List (List Piece)
head_lines capacity mode = (tight (directive directives.Capacity) ∷ spaced (number capacity) ∷ []) ∷ (tight (directive directives.Mode) ∷ spaced (mode_sign mode) ∷ []) ∷ []

-- a procedure between its directive and its end
abbrev pub procedure_lines : List Array → Sign → List (Instruction ℕ ℕ) → List (List Piece)
procedure_lines arrays sign steps = directive_line sign ∷ (body_lines arrays steps 0 steps ++ directive_line (directive directives.End) ∷ [])

-- capacity, mode, arrays, push, pop, perhaps a prologue, threads
abbrev pub client_lines : ClientOf → List (List Piece)
client_lines c =
    head_lines c.capacity c.mode ++ (map array_pieces c.arrays ++ (procedure_lines c.arrays (directive directives.Push) c.push
    ++ (procedure_lines c.arrays (directive directives.Pop) c.pop ++ (prologue_lines c.prologue ++ map thread_pieces c.threads))))

-- the bytes that a client is printed as
unfoldable pub printed : ClientOf → List ℕ
printed c = text_of (client_lines c)
