-- The shape of each printed instruction.
use Rattle.std.proofs.Common.{◌≡◌, ℕ, false, List, [], ◌∷◌, ◌++◌, Option, Some, None, refl}
use Rattle.std.specs.Option.{option_map}
use Rattle.tso_word.specs.declared.Condition.{Condition}
use Rattle.tso_line.specs.declared.lexeme.Ranged.TheVariants.{Within}
use Rattle.tso_line.specs.declared.shape.Offset.TheVariants as offsets
use Rattle.tso_line.specs.declared.instruction.Register.{Register}
use Rattle.tso_line.specs.declared.instruction.Operation.{Operation}
use Rattle.tso_line.specs.declared.instruction.Comparison.{Comparison}
use Rattle.tso_line.specs.declared.instruction.LockedOperation.{LockedOperation}
use Rattle.tso_line.specs.declared.instruction.LockedOperation.TheVariants as locked
use Rattle.tso_line.specs.declared.lexeme.Span.{Span}
use Rattle.tso_line.specs.declared.lexeme.Mnemonic.{Mnemonic}
use Rattle.tso_line.specs.declared.lexeme.Mnemonic.TheVariants as mnemonics
use Rattle.tso_line.specs.declared.lexeme.Meaning.{Meaning}
use Rattle.tso_line.specs.declared.lexeme.Meaning.TheVariants as meanings
use Rattle.tso_line.specs.declared.lexeme.Lexeme.TheVariants as lexemes
use Rattle.tso_line.specs.declared.form.Form.TheVariants as forms
use Rattle.tso_line.specs.Lexemes.{split_by, operands_after}
use Rattle.tso_line.specs.Forms.{raw_cell, instruction_of}
use Rattle.tso_line.specs.Words.{meaning_of}
use Rattle.tso_line.specs.Reading.{line_of, instruction_line, by_instruction}
use Rattle.tso_print.specs.Signs.{Sign, keyword, name, comma, bracket, end_bracket}
use Rattle.tso_print.specs.Pieces.{Piece, tight, spaced, indented}
use Rattle.tso_print.specs.Layout.{register_sign, index_pieces, bound_pieces, locked_pieces}
use Rattle.tso_print.proofs.Tokens.{sign_end}
use Rattle.tso_print.proofs.Placing.{span_at, lexemes_at}
use Rattle.tso_print.proofs.Ranges.{Offset, none, up, down, pieces_of_offset, signed_of_offset, Origin, register, word, negative, pieces_of_origin, raw_of_origin}

-- ---- pieces

abbrev pub mnemonic : Mnemonic → Piece
mnemonic m = indented (keyword (meanings.Mnemonic m))

-- a cell of the array of this name
abbrev pub pieces_of_cell : List ℕ → Option Register → Offset → List Piece
pieces_of_cell array index offset =
    spaced (keyword meanings.Qword) ∷ spaced (keyword meanings.Ptr) ∷ spaced bracket ∷ tight (name array) ∷ (index_pieces index ++ (pieces_of_offset offset ++ tight end_bracket ∷ []))

abbrev pub two_pieces : Mnemonic → Register → Origin → List Piece
two_pieces m left right = mnemonic m ∷ spaced (register_sign left) ∷ tight comma ∷ pieces_of_origin right

abbrev pub load_pieces : Register → List ℕ → Option Register → Offset → List Piece
load_pieces to array index offset = mnemonic mnemonics.Mov ∷ spaced (register_sign to) ∷ tight comma ∷ pieces_of_cell array index offset

abbrev pub store_pieces : List ℕ → Option Register → Offset → Origin → List Piece
store_pieces array index offset from = mnemonic mnemonics.Mov ∷ (pieces_of_cell array index offset ++ tight comma ∷ pieces_of_origin from)

abbrev pub pieces_of_locked : LockedOperation → List ℕ → Option Register → Offset → Register → List Piece
pieces_of_locked operation array index offset r = locked_pieces operation ++ (pieces_of_cell array index offset ++ tight comma ∷ spaced (register_sign r) ∷ [])

abbrev pub jump_pieces : Option Condition → List ℕ → Option ℕ → List Piece
jump_pieces when target bound = mnemonic (mnemonics.Jump when) ∷ spaced (name target) ∷ bound_pieces bound

abbrev pub span_or : Span → Span → Sign → Span
span_or here behind (name n) = here
span_or here behind _ = behind

-- where the name in a line stands
abbrev pub name_span : ℕ → List Piece → Span
name_span at [] = record { start = 0; end = 0 }
name_span at (p ∷ ps) = span_or (span_at at p) (name_span (sign_end at p) ps) p.sign

-- ---- shapes

pub move_shape : (to : Register) (from : Origin) (source : List ℕ) (at : ℕ) → line_of source (lexemes_at at (two_pieces mnemonics.Mov to from)) ≡ by_instruction source false (instruction_of (forms.Move to (raw_of_origin from)))
unfolding instruction_line split_by operands_after
move_shape to (register r) source at = refl
move_shape to (word w) source at = refl
move_shape to (negative m) source at = refl

pub compute_shape : (operation : Operation) (to : Register) (from : Origin) (source : List ℕ) (at : ℕ) → line_of source (lexemes_at at (two_pieces (mnemonics.Compute operation) to from)) ≡ by_instruction source false (instruction_of (forms.Compute operation to (raw_of_origin from)))
unfolding instruction_line split_by operands_after
compute_shape operation to (register r) source at = refl
compute_shape operation to (word w) source at = refl
compute_shape operation to (negative m) source at = refl

pub compare_shape : (comparison : Comparison) (left : Register) (right : Origin) (source : List ℕ) (at : ℕ) → line_of source (lexemes_at at (two_pieces (mnemonics.Compare comparison) left right)) ≡ by_instruction source false (instruction_of (forms.Compare comparison left (raw_of_origin right)))
unfolding instruction_line split_by operands_after
compare_shape comparison left (register r) source at = refl
compare_shape comparison left (word w) source at = refl
compare_shape comparison left (negative m) source at = refl

-- a name that could be the word bound is none
load_plain : (source : List ℕ) (to : Register) (m : Meaning) (s t u v w : Span)
    → line_of source (lexemes.Word s (meanings.Mnemonic mnemonics.Mov) ∷ lexemes.Word t (meanings.Register to) ∷ lexemes.Comma ∷ lexemes.Word u meanings.Qword ∷ lexemes.Word v meanings.Ptr ∷ lexemes.Open ∷ lexemes.Word w m ∷ lexemes.Close ∷ [])
    ≡ by_instruction source false (instruction_of (forms.Load to (raw_cell w offsets.Absent None)))
unfolding instruction_line split_by operands_after
load_plain source to meanings.Plain s t u v w = refl
load_plain source to (meanings.Register r) s t u v w = refl
load_plain source to (meanings.Mnemonic m) s t u v w = refl
load_plain source to (meanings.Condition c) s t u v w = refl
load_plain source to meanings.Lock s t u v w = refl
load_plain source to meanings.Bound s t u v w = refl
load_plain source to meanings.Qword s t u v w = refl
load_plain source to meanings.Ptr s t u v w = refl
load_plain source to meanings.Strict s t u v w = refl
load_plain source to meanings.Weak s t u v w = refl
load_plain source to meanings.Push s t u v w = refl
load_plain source to meanings.Pop s t u v w = refl

jump_plain : (source : List ℕ) (when : Option Condition) (m : Meaning) (s t : Span) → line_of source (lexemes.Word s (meanings.Mnemonic (mnemonics.Jump when)) ∷ lexemes.Word t m ∷ []) ≡ by_instruction source false (instruction_of (forms.Jump when t None))
unfolding instruction_line split_by operands_after
jump_plain source when meanings.Plain s t = refl
jump_plain source when (meanings.Register r) s t = refl
jump_plain source when (meanings.Mnemonic m) s t = refl
jump_plain source when (meanings.Condition c) s t = refl
jump_plain source when meanings.Lock s t = refl
jump_plain source when meanings.Bound s t = refl
jump_plain source when meanings.Qword s t = refl
jump_plain source when meanings.Ptr s t = refl
jump_plain source when meanings.Strict s t = refl
jump_plain source when meanings.Weak s t = refl
jump_plain source when meanings.Push s t = refl
jump_plain source when meanings.Pop s t = refl

pub load_shape : (to : Register) (array : List ℕ) (index : Option Register) (offset : Offset) (source : List ℕ) (at : ℕ)
    → line_of source (lexemes_at at (load_pieces to array index offset)) ≡ by_instruction source false (instruction_of (forms.Load to (raw_cell (name_span at (load_pieces to array index offset)) (signed_of_offset offset) index)))
unfolding instruction_line split_by operands_after
load_shape to array None none source at =
    let p0 : Piece = mnemonic mnemonics.Mov in
    let p1 : Piece = spaced (register_sign to) in
    let p2 : Piece = tight comma in
    let p3 : Piece = spaced (keyword meanings.Qword) in
    let p4 : Piece = spaced (keyword meanings.Ptr) in
    let p5 : Piece = spaced bracket in
    let p6 : Piece = tight (name array) in
    let a1 : ℕ = sign_end at p0 in
    let a2 : ℕ = sign_end a1 p1 in
    let a3 : ℕ = sign_end a2 p2 in
    let a4 : ℕ = sign_end a3 p3 in
    let a5 : ℕ = sign_end a4 p4 in
    let a6 : ℕ = sign_end a5 p5 in
    load_plain source to (meaning_of array) (span_at at p0) (span_at a1 p1) (span_at a3 p3) (span_at a4 p4) (span_at a6 p6)
load_shape to array None (up m) source at = refl
load_shape to array None (down m) source at = refl
load_shape to array (Some i) none source at = refl
load_shape to array (Some i) (up m) source at = refl
load_shape to array (Some i) (down m) source at = refl

pub store_shape : (array : List ℕ) (index : Option Register) (offset : Offset) (from : Origin) (source : List ℕ) (at : ℕ)
    → line_of source (lexemes_at at (store_pieces array index offset from)) ≡ by_instruction source false (instruction_of (forms.Store (raw_cell (name_span at (store_pieces array index offset from)) (signed_of_offset offset) index) (raw_of_origin from)))
unfolding instruction_line split_by operands_after
store_shape array None none (register r) source at = refl
store_shape array None none (word w) source at = refl
store_shape array None none (negative k) source at = refl
store_shape array None (up m) (register r) source at = refl
store_shape array None (up m) (word w) source at = refl
store_shape array None (up m) (negative k) source at = refl
store_shape array None (down m) (register r) source at = refl
store_shape array None (down m) (word w) source at = refl
store_shape array None (down m) (negative k) source at = refl
store_shape array (Some i) none (register r) source at = refl
store_shape array (Some i) none (word w) source at = refl
store_shape array (Some i) none (negative k) source at = refl
store_shape array (Some i) (up m) (register r) source at = refl
store_shape array (Some i) (up m) (word w) source at = refl
store_shape array (Some i) (up m) (negative k) source at = refl
store_shape array (Some i) (down m) (register r) source at = refl
store_shape array (Some i) (down m) (word w) source at = refl
store_shape array (Some i) (down m) (negative k) source at = refl

pub locked_shape : (operation : LockedOperation) (array : List ℕ) (index : Option Register) (offset : Offset) (r : Register) (source : List ℕ) (at : ℕ)
    → line_of source (lexemes_at at (pieces_of_locked operation array index offset r)) ≡ by_instruction source false (instruction_of (forms.Locked operation (raw_cell (name_span at (pieces_of_locked operation array index offset r)) (signed_of_offset offset) index) r))
unfolding instruction_line split_by operands_after
locked_shape locked.Exchange array None none r source at = refl
locked_shape locked.Exchange array None (up m) r source at = refl
locked_shape locked.Exchange array None (down m) r source at = refl
locked_shape locked.Exchange array (Some i) none r source at = refl
locked_shape locked.Exchange array (Some i) (up m) r source at = refl
locked_shape locked.Exchange array (Some i) (down m) r source at = refl
locked_shape locked.CompareExchange array None none r source at = refl
locked_shape locked.CompareExchange array None (up m) r source at = refl
locked_shape locked.CompareExchange array None (down m) r source at = refl
locked_shape locked.CompareExchange array (Some i) none r source at = refl
locked_shape locked.CompareExchange array (Some i) (up m) r source at = refl
locked_shape locked.CompareExchange array (Some i) (down m) r source at = refl
locked_shape locked.ExchangeAdd array None none r source at = refl
locked_shape locked.ExchangeAdd array None (up m) r source at = refl
locked_shape locked.ExchangeAdd array None (down m) r source at = refl
locked_shape locked.ExchangeAdd array (Some i) none r source at = refl
locked_shape locked.ExchangeAdd array (Some i) (up m) r source at = refl
locked_shape locked.ExchangeAdd array (Some i) (down m) r source at = refl

pub jump_shape : (when : Option Condition) (target : List ℕ) (bound : Option ℕ) (source : List ℕ) (at : ℕ)
    → line_of source (lexemes_at at (jump_pieces when target bound)) ≡ by_instruction source false (instruction_of (forms.Jump when (name_span at (jump_pieces when target bound)) (option_map (λ n. Within n) bound)))
unfolding instruction_line split_by operands_after
jump_shape when target None source at =
    let p0 : Piece = mnemonic (mnemonics.Jump when) in
    let p1 : Piece = spaced (name target) in
    jump_plain source when (meaning_of target) (span_at at p0) (span_at (sign_end at p0) p1)
jump_shape when target (Some n) source at = refl
