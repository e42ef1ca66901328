-- What a line of lexemes says by itself.
use Rattle.std.specs.Prelude.{ℕ, ◌-◌, ◌^◌, Bool, false, ◌&&◌, ◌==◌, nat_le, if◌then◌else◌, List, [], ◌∷◌, length, replicate, Option, Some, None, option_and_then}
use Rattle.std.specs.Option.{option_map}
use Rattle.tso_line.specs.declared.instruction.Mode.TheVariants as modes
use Rattle.tso_line.specs.declared.instruction.CallKind.{CallKind}
use Rattle.tso_line.specs.declared.instruction.CallKind.TheVariants as calls
use Rattle.tso_line.specs.declared.instruction.Instruction.{Instruction}
use Rattle.tso_line.specs.declared.lexeme.Span.{Span}
use Rattle.tso_line.specs.declared.lexeme.Directive.{Directive}
use Rattle.tso_line.specs.declared.lexeme.Directive.TheVariants as directives
use Rattle.tso_line.specs.declared.lexeme.Lexeme.{Lexeme}
use Rattle.tso_line.specs.declared.lexeme.Lexeme.TheVariants as lexemes
use Rattle.tso_line.specs.declared.lexeme.Meaning.TheVariants as meanings
use Rattle.tso_line.specs.declared.line.Kind.{Kind}
use Rattle.tso_line.specs.declared.line.Kind.TheVariants as kinds
use Rattle.tso_line.specs.declared.line.Slip.TheVariants as slips
use Rattle.tso_line.specs.declared.lexeme.Ranged.{Ranged}
use Rattle.tso_line.specs.declared.lexeme.Ranged.TheVariants.{Within, OutOfRange}
use Rattle.tso_line.specs.Ranges.{all_within, ranged}
use Rattle.tso_line.specs.declared.reading.Calls.{Calls}
use Rattle.tso_line.specs.declared.reading.Calls.TheVariants as cases
use Rattle.tso_line.specs.declared.shape.Statement.{Statement}
use Rattle.tso_line.specs.declared.form.Form.{Form}
use Rattle.tso_line.specs.Instructions.{renamed}
use Rattle.tso_line.specs.Lexemes.{signed_of, pieces, statement_of}
use Rattle.tso_line.specs.Forms.{word_of, form_of, lacks_lock, instruction_of, text_at}
use Rattle.tso_line.specs.Lines.{Name, Line, misshapen, wrong, capacity, mode, array, push, pop, end, label, instruction, before, thread}

-- a value from -2^63 to 2^64-1
abbrev pub value_of : List Lexeme → Option (Ranged ℕ)
value_of ls = option_map (λ n. ranged (word_of (2 ^ 63) (2 ^ 64 - 1) n)) (signed_of ls)

-- `push V` or `pop`
abbrev pub push_of : Ranged ℕ → Ranged CallKind
push_of (Within w) = Within (calls.Push w)
push_of OutOfRange = OutOfRange

abbrev pub call_of : List Lexeme → Option (Ranged CallKind)
call_of (lexemes.Word s meanings.Pop ∷ []) = Some (Within calls.Pop)
call_of (lexemes.Word s meanings.Push ∷ rest) = option_map push_of (value_of rest)
call_of _ = None

-- each piece read, if each has the shape
unfoldable pub each : {A : Type 0} → (List Lexeme → Option A) → List (List Lexeme) → Option (List A)
each f [] = Some []
each f (p ∷ ps) = option_and_then (λ x. option_map (λ xs. x ∷ xs) (each f ps)) (f p)

abbrev pub number_wrong : Line
number_wrong = wrong kinds.Array slips.Number

-- without values all are 0
abbrev pub array_line : Name → Ranged ℕ → Line
array_line name OutOfRange = number_wrong
array_line name (Within len) = if nat_le 1 len && nat_le len 256 then array name (replicate len 0) else number_wrong

abbrev pub array_of_all : Name → Option (List ℕ) → Line
array_of_all name None = number_wrong
array_of_all name (Some words) = array name words

-- the length is this count
abbrev pub is_counted : Ranged ℕ → ℕ → Bool
is_counted OutOfRange n = false
is_counted (Within len) n = len == n

-- a wrong count of values comes before a number out of range
abbrev pub values_line : Name → Ranged ℕ → List (Ranged ℕ) → Line
values_line name len values =
    if is_counted len (length values) then (if nat_le (length values) 256 then array_of_all name (all_within values) else number_wrong)
    else wrong kinds.Array slips.Count

abbrev pub values_or_none : Name → Ranged ℕ → Option (List (Ranged ℕ)) → Line
values_or_none name len None = misshapen
values_or_none name len (Some values) = values_line name len values

-- calls that are in their range, or one is not
abbrev pub calls_in_range : Option (List CallKind) → Calls
calls_in_range None = cases.OutOfRange
calls_in_range (Some calls) = cases.Are calls

abbrev pub calls_if : Option (List (Ranged CallKind)) → Calls
calls_if None = cases.Misshapen
calls_if (Some calls) = calls_in_range (all_within calls)

-- calls between commas, if each is one; none of them where a value is out of its range
abbrev pub calls_of : List Lexeme → Calls
calls_of ls = calls_if (each call_of (pieces ls))

abbrev pub IfCalls : Calls → (List CallKind → Type 0) → Type 0
IfCalls (cases.Are calls) P = P calls
IfCalls _ P = Unit {0}

-- a line of calls of this kind
abbrev pub calls_line : Kind → (List CallKind → Line) → Calls → Line
calls_line kind make cases.Misshapen = misshapen
calls_line kind make cases.OutOfRange = wrong kind slips.Number
calls_line kind make (cases.Are calls) = make calls

abbrev pub by_instruction : List ℕ → Bool → Option (Instruction Span Span) → Line
by_instruction source lacks None = wrong kinds.Instruction slips.Number
by_instruction source lacks (Some i) = instruction (renamed (text_at source) (text_at source) i) lacks

abbrev pub by_form : List ℕ → Bool → Option Form → Line
by_form source lacks None = wrong kinds.Instruction slips.Word
by_form source lacks (Some form) = by_instruction source lacks (instruction_of form)

abbrev pub by_statement : List ℕ → Option Statement → Line
by_statement source None = misshapen
by_statement source (Some statement) = by_form source (lacks_lock statement) (form_of statement)

-- an instruction: its shape, then its words, then its numbers
unfoldable pub instruction_line : List ℕ → List Lexeme → Line
instruction_line source ls = by_statement source (statement_of ls)

abbrev pub capacity_line : Ranged ℕ → Line
capacity_line OutOfRange = wrong kinds.Capacity slips.Number
capacity_line (Within n) = if nat_le 1 n && nat_le n 16 then capacity n else wrong kinds.Capacity slips.Number

unfoldable pub directive_line : List ℕ → Directive → List Lexeme → Line
directive_line source directives.Capacity (lexemes.Number n ∷ []) = capacity_line n
directive_line source directives.Mode (lexemes.Word s meanings.Strict ∷ []) = mode modes.Strict
directive_line source directives.Mode (lexemes.Word s meanings.Weak ∷ []) = mode modes.Weak
directive_line source directives.Array (lexemes.Word name m ∷ lexemes.Number len ∷ []) = array_line (text_at source name) len
directive_line source directives.Array (lexemes.Word name m ∷ lexemes.Number len ∷ lexemes.Equals ∷ rest) = values_or_none (text_at source name) len (each value_of (pieces rest))
directive_line source directives.Push [] = push
directive_line source directives.Pop [] = pop
directive_line source directives.End [] = end
directive_line source directives.Before rest = calls_line kinds.Before before (calls_of rest)
directive_line source directives.Thread rest = calls_line kinds.Thread thread (calls_of rest)
directive_line source _ _ = misshapen

abbrev pub line_of : List ℕ → List Lexeme → Line
line_of source (lexemes.Directive directive ∷ rest) = directive_line source directive rest
line_of source (lexemes.Word name m ∷ lexemes.Colon ∷ []) = label (text_at source name)
line_of source ls = instruction_line source ls
