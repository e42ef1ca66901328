-- The shapes of operands, each the whole of its lexemes.
use Rattle.std.specs.Prelude.{ℕ, ◌-◌, Bool, true, false, if◌then◌else◌, List, [], ◌∷◌, length, take, drop, Option, Some, None, is_some, option_and_then}
use Rattle.std.specs.Option.{option_map}
use Rattle.tso_line.specs.declared.lexeme.Lexeme.{Lexeme}
use Rattle.tso_line.specs.declared.lexeme.Lexeme.TheVariants as lexemes
use Rattle.tso_line.specs.declared.lexeme.Meaning.{Meaning}
use Rattle.tso_line.specs.declared.lexeme.Meaning.TheVariants as meanings
use Rattle.tso_line.specs.declared.lexeme.Ranged.{Ranged}
use Rattle.tso_line.specs.declared.shape.Offset.{Offset}
use Rattle.tso_line.specs.declared.shape.Offset.TheVariants as offsets
use Rattle.tso_line.specs.declared.shape.Signed.{Signed}
use Rattle.tso_line.specs.declared.shape.Cell.{Cell}
use Rattle.tso_line.specs.declared.shape.Operand.{Operand}
use Rattle.tso_line.specs.declared.shape.Operand.TheVariants as operands
use Rattle.tso_line.specs.declared.shape.Operands.{Operands}
use Rattle.tso_line.specs.declared.shape.Operands.TheVariants as lists
use Rattle.tso_line.specs.declared.shape.Statement.{Statement}

abbrev pub is_comma : Lexeme → Bool
is_comma lexemes.Comma = true
is_comma _ = false

abbrev pub signed : Bool → Ranged ℕ → Signed
signed negative magnitude = record { negative = negative; magnitude = magnitude }

-- a number, and a minus before it
abbrev pub signed_of : List Lexeme → Option Signed
signed_of (lexemes.Number n ∷ []) = Some (signed false n)
signed_of (lexemes.Minus ∷ lexemes.Number n ∷ []) = Some (signed true n)
signed_of _ = None

-- `]`, `+ D ]` or `- D ]`
abbrev pub offset_of : List Lexeme → Option Offset
offset_of (lexemes.Close ∷ []) = Some offsets.Absent
offset_of (lexemes.Plus ∷ lexemes.Number n ∷ lexemes.Close ∷ []) = Some (offsets.By (signed false n))
offset_of (lexemes.Minus ∷ lexemes.Number n ∷ lexemes.Close ∷ []) = Some (offsets.By (signed true n))
offset_of _ = None

-- `NAME`, and then perhaps `+ WORD * N`, and then an offset
abbrev pub cell_of : List Lexeme → Option Cell
cell_of (lexemes.Word array m ∷ lexemes.Plus ∷ lexemes.Word s register ∷ lexemes.Star ∷ lexemes.Number scale ∷ rest) =
    option_map (λ offset. record { array = array; index = Some (record { register = register; scale = scale }); offset = offset }) (offset_of rest)
cell_of (lexemes.Word array m ∷ rest) = option_map (λ offset. record { array = array; index = None; offset = offset }) (offset_of rest)
cell_of _ = None

-- a word, `qword ptr [ .. ]`, or a number
abbrev pub operand_of : List Lexeme → Option Operand
operand_of (lexemes.Word span meaning ∷ []) = Some (operands.Word span meaning)
operand_of (lexemes.Word s meanings.Qword ∷ lexemes.Word t meanings.Ptr ∷ lexemes.Open ∷ rest) = option_map operands.Memory (cell_of rest)
operand_of ls = option_map operands.Number (signed_of ls)

-- ---- lists with commas

abbrev pub onto : {A : Type 0} → A → List (List A) → List (List A)
onto l [] = (l ∷ []) ∷ []
onto l (p ∷ ps) = (l ∷ p) ∷ ps

-- what stands between those that pass
unfoldable pub split_by : {A : Type 0} → (A → Bool) → List A → List (List A)
split_by p [] = [] ∷ []
split_by p (l ∷ ls) = if p l then [] ∷ split_by p ls else onto l (split_by p ls)

-- what stands between the commas
abbrev pub pieces : List Lexeme → List (List Lexeme)
pieces ls = split_by is_comma ls

abbrev pub and_operand : Operands → Operand → Operands
and_operand lists.Zero o = lists.One o
and_operand (lists.One first) o = lists.Two first o
and_operand (lists.Two first second) o = lists.More
and_operand lists.More o = lists.More

-- the operands after these, one in each piece
unfoldable pub operands_after : Operands → List (List Lexeme) → Option Operands
operands_after found [] = Some found
operands_after found (p ∷ ps) = option_and_then (λ o. operands_after (and_operand found o) ps) (operand_of p)

abbrev pub operands_of : List Lexeme → Option Operands
operands_of [] = Some lists.Zero
operands_of (l ∷ ls) = operands_after lists.Zero (pieces (l ∷ ls))

-- ---- instructions

abbrev pub bound_in : List Lexeme → Option (Ranged ℕ)
bound_in (lexemes.Word s meanings.Bound ∷ lexemes.Number n ∷ []) = Some n
bound_in _ = None

-- `bound N` at the end
abbrev pub bound_of : List Lexeme → Option (Ranged ℕ)
bound_of ls = bound_in (drop (length ls - 2) ls)

-- what stands before it
abbrev pub before_bound : List Lexeme → List Lexeme
before_bound ls = if is_some (bound_of ls) then take (length ls - 2) ls else ls

abbrev pub statement : Bool → Meaning → Option (Ranged ℕ) → Operands → Statement
statement lock mnemonic bound operands = record { lock = lock; mnemonic = mnemonic; operands = operands; bound = bound }

abbrev pub unlocked_of : Bool → List Lexeme → Option Statement
unlocked_of lock (lexemes.Word s mnemonic ∷ rest) = option_map (statement lock mnemonic (bound_of rest)) (operands_of (before_bound rest))
unlocked_of lock _ = None

-- the first of two that is there
abbrev pub or_else : {A : Type 0} → Option A → Option A → Option A
or_else (Some x) o = Some x
or_else None o = o

-- a first word `lock` is the prefix where an instruction follows it
abbrev pub statement_of : List Lexeme → Option Statement
statement_of (lexemes.Word s meanings.Lock ∷ rest) = or_else (unlocked_of true rest) (unlocked_of false (lexemes.Word s meanings.Lock ∷ rest))
statement_of ls = unlocked_of false ls
