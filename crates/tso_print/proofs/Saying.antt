-- What each printed instruction says.
use Rattle.std.proofs.Common.{◌≡◌, ℕ, true, false, List, [], ◌∷◌, ◌++◌, Option, Some, None, ℤ, refl, sym, ap, subst, ◌∙◌}
use Rattle.std.specs.Prelude.{option_and_then}
use Rattle.std.specs.Option.{option_map}
use Rattle.std.proofs.lemmas.Bool.{and_parts}
use Rattle.tso_line.specs.declared.lexeme.Ranged.{Ranged}
use Rattle.tso_line.specs.Ranges.{within}
use Rattle.tso_line.specs.declared.lexeme.Ranged.TheVariants.{Within}
use Rattle.tso_line.specs.declared.instruction.Register.{Register}
use Rattle.tso_line.specs.declared.instruction.Address.{Address}
use Rattle.tso_line.specs.declared.instruction.Source.{Source}
use Rattle.tso_line.specs.declared.instruction.LockedOperation.{LockedOperation}
use Rattle.tso_line.specs.declared.instruction.LockedOperation.TheVariants as locked
use Rattle.tso_line.specs.declared.instruction.Instruction.{Instruction}
use Rattle.tso_line.specs.declared.instruction.Instruction.TheVariants as instructions
use Rattle.tso_line.specs.declared.lexeme.Span.{Span}
use Rattle.tso_line.specs.declared.lexeme.Mnemonic.TheVariants as mnemonics
use Rattle.tso_line.specs.declared.lexeme.Meaning.TheVariants as meanings
use Rattle.tso_line.specs.Forms.{from_of, bound_value, text_at}
use Rattle.tso_line.specs.Instructions.{renamed}
use Rattle.tso_line.specs.Lexemes.{split_by, operands_after}
use Rattle.tso_line.specs.Lines.{Name, Line, instruction}
use Rattle.tso_line.specs.Proper.{is_in_range, is_near, is_small, is_narrow_source}
use Rattle.tso_line.specs.Reading.{instruction_line, by_instruction}
use Rattle.tso_prog.specs.declared.client.Array.{Array}
use Rattle.tso_print.specs.Signs.{keyword, name, comma, bracket, end_bracket}
use Rattle.tso_print.specs.Pieces.{Piece, tight, spaced}
use Rattle.tso_print.specs.Layout.{register_sign, source_pieces, index_pieces, array_name, label_name, locked_pieces, instruction_pieces}
use Rattle.tso_print.proofs.Placing.{Placed, Says}
use Rattle.tso_print.proofs.Ranges.{Offset, offset_of, pieces_of_offset, offset_is, cells_is, origin_of, raw_of_origin, source_is, from_is, move_is}
use Rattle.tso_print.proofs.Shapes.{mnemonic, load_pieces, store_pieces, pieces_of_locked, jump_pieces, name_span, move_shape, compute_shape, compare_shape, load_shape, store_shape, locked_shape, jump_shape}

-- the line of an instruction whose array and label have these names
abbrev pub named : List Array → Instruction ℕ ℕ → Instruction Name Name
named arrays i = renamed (array_name arrays) label_name i

abbrev pub instruction_said : List Array → Instruction ℕ ℕ → Line
instruction_said arrays i = instruction (named arrays i) false

abbrev address : {A : Type 0} → A → Option Register → ℤ → Address A
address array index offset = record { array = array; index = index; offset = offset }

-- ---- where the name stands

locked_there : (operation : LockedOperation) (array : List ℕ) (index : Option Register) (offset : Offset) (r : Register) (source : List ℕ) (at : ℕ) → Placed source at (pieces_of_locked operation array index offset r)
    → text_at source (name_span at (pieces_of_locked operation array index offset r)) ≡ array
locked_there locked.Exchange array index offset r source at h = h.1.1.1.1.0
locked_there locked.CompareExchange array index offset r source at h = h.1.1.1.1.1.0
locked_there locked.ExchangeAdd array index offset r source at h = h.1.1.1.1.1.0

-- ---- lines

load_says : (arrays : List Array) (to : Register) (from : Address ℕ) → is_near from.offset ≡ true → Says (load_pieces to (array_name arrays from.array) from.index (offset_of from.offset)) (instruction_said arrays (instructions.Load to from))
load_says arrays to from e source at h =
    let n : Name = array_name arrays from.array in
    let span : Span = name_span at (load_pieces to n from.index (offset_of from.offset)) in
    let there : text_at source span ≡ n = h.1.1.1.1.1.1.0 in
    load_shape to n from.index (offset_of from.offset) source at
    ∙ ap (λ (o : Option ℤ). by_instruction source false (option_map (instructions.Load to) (option_map (address span from.index) o))) (cells_is from.offset e)
    ∙ ap (λ (m : Name). instruction (instructions.Load to (address m from.index from.offset)) false) there

store_says : (arrays : List Array) (to : Address ℕ) (from : Source) → is_near to.offset ≡ true → is_narrow_source from ≡ true
    → Says (store_pieces (array_name arrays to.array) to.index (offset_of to.offset) (origin_of from)) (instruction_said arrays (instructions.Store to from))
store_says arrays to from e f source at h =
    let n : Name = array_name arrays to.array in
    let span : Span = name_span at (store_pieces n to.index (offset_of to.offset) (origin_of from)) in
    let there : text_at source span ≡ n = h.1.1.1.1.0 in
    store_shape n to.index (offset_of to.offset) (origin_of from) source at
    ∙ ap (λ (o : Option ℤ). by_instruction source false (option_and_then (λ (a : Address Span). option_map (instructions.Store a) (from_of (raw_of_origin (origin_of from)))) (option_map (address span to.index) o))) (cells_is to.offset e)
    ∙ ap (λ (o : Option Source). by_instruction source false (option_map (instructions.Store (address span to.index to.offset)) o)) (from_is from f)
    ∙ ap (λ (m : Name). instruction (instructions.Store (address m to.index to.offset) from) false) there

locked_says : (arrays : List Array) (operation : LockedOperation) (cell : Address ℕ) (r : Register) → is_near cell.offset ≡ true
    → Says (pieces_of_locked operation (array_name arrays cell.array) cell.index (offset_of cell.offset) r) (instruction_said arrays (instructions.Locked operation cell r))
locked_says arrays operation cell r e source at h =
    let n : Name = array_name arrays cell.array in
    let span : Span = name_span at (pieces_of_locked operation n cell.index (offset_of cell.offset) r) in
    let there : text_at source span ≡ n = locked_there operation n cell.index (offset_of cell.offset) r source at h in
    locked_shape operation n cell.index (offset_of cell.offset) r source at
    ∙ ap (λ (o : Option ℤ). by_instruction source false (option_map (λ (a : Address Span). instructions.Locked operation a r) (option_map (address span cell.index) o))) (cells_is cell.offset e)
    ∙ ap (λ (m : Name). instruction (instructions.Locked operation (address m cell.index cell.offset) r) false) there

bound_is : (bound : Option ℕ) → is_small bound ≡ true → bound_value (option_map (λ (n : ℕ). Within n) bound) ≡ Within bound
bound_is None e = refl
bound_is (Some n) e = rw e refl

pub instruction_says : (arrays : List Array) (i : Instruction ℕ ℕ) → is_in_range i ≡ true → Says (instruction_pieces arrays i) (instruction_said arrays i)
unfolding instruction_line split_by operands_after
instruction_says arrays (instructions.Move to from) e =
    let P : List Piece → Type 0 = λ tail. Says (mnemonic mnemonics.Mov ∷ spaced (register_sign to) ∷ tight comma ∷ tail) (instruction_said arrays (instructions.Move to from)) in
    subst P (sym (source_is from)) (λ source at h. move_shape to (origin_of from) source at ∙ ap (by_instruction source false) (move_is to from e))
instruction_says arrays (instructions.Load to from) e =
    let P : List Piece → Type 0 = λ tail. Says (mnemonic mnemonics.Mov ∷ spaced (register_sign to) ∷ tight comma ∷ spaced (keyword meanings.Qword) ∷ spaced (keyword meanings.Ptr) ∷ spaced bracket ∷ tight (name (array_name arrays from.array)) ∷ (index_pieces from.index ++ (tail ++ tight end_bracket ∷ []))) (instruction_said arrays (instructions.Load to from)) in
    subst P (sym (offset_is from.offset)) (load_says arrays to from e)
instruction_says arrays (instructions.Store to from) e =
    let a = and_parts (is_near to.offset) (is_narrow_source from) e in
    let P : List Piece → List Piece → Type 0 = λ middle tail. Says (mnemonic mnemonics.Mov ∷ spaced (keyword meanings.Qword) ∷ spaced (keyword meanings.Ptr) ∷ spaced bracket ∷ tight (name (array_name arrays to.array)) ∷ ((index_pieces to.index ++ (middle ++ tight end_bracket ∷ [])) ++ tight comma ∷ tail)) (instruction_said arrays (instructions.Store to from)) in
    subst (λ (middle : List Piece). P middle (source_pieces from)) (sym (offset_is to.offset)) (subst (P (pieces_of_offset (offset_of to.offset))) (sym (source_is from)) (store_says arrays to from a.0 a.1))
instruction_says arrays (instructions.Compute operation to from) e =
    let P : List Piece → Type 0 = λ tail. Says (mnemonic (mnemonics.Compute operation) ∷ spaced (register_sign to) ∷ tight comma ∷ tail) (instruction_said arrays (instructions.Compute operation to from)) in
    subst P (sym (source_is from)) (λ source at h. compute_shape operation to (origin_of from) source at ∙ ap (λ (o : Option Source). by_instruction source false (option_map (instructions.Compute operation to) o)) (from_is from e))
instruction_says arrays (instructions.Compare comparison left right) e =
    let P : List Piece → Type 0 = λ tail. Says (mnemonic (mnemonics.Compare comparison) ∷ spaced (register_sign left) ∷ tight comma ∷ tail) (instruction_said arrays (instructions.Compare comparison left right)) in
    subst P (sym (source_is right)) (λ source at h. compare_shape comparison left (origin_of right) source at ∙ ap (λ (o : Option Source). by_instruction source false (option_map (instructions.Compare comparison left) o)) (from_is right e))
instruction_says arrays (instructions.Increment to) e = λ source at h. refl
instruction_says arrays (instructions.Decrement to) e = λ source at h. refl
instruction_says arrays (instructions.Jump when target bound) e = λ source at h.
    jump_shape when (label_name target) bound source at
    ∙ ap (λ (o : Ranged (Option ℕ)). by_instruction source false (option_map (instructions.Jump when (name_span at (jump_pieces when (label_name target) bound))) (within o))) (bound_is bound e)
    ∙ ap (λ (m : Name). instruction (instructions.Jump when m bound) false) h.1.0
instruction_says arrays (instructions.Assert condition) e = λ source at h. refl
instruction_says arrays (instructions.Locked operation cell r) e =
    let P : List Piece → Type 0 = λ middle. Says (locked_pieces operation ++ ((spaced (keyword meanings.Qword) ∷ spaced (keyword meanings.Ptr) ∷ spaced bracket ∷ tight (name (array_name arrays cell.array)) ∷ (index_pieces cell.index ++ (middle ++ tight end_bracket ∷ []))) ++ tight comma ∷ spaced (register_sign r) ∷ [])) (instruction_said arrays (instructions.Locked operation cell r)) in
    subst P (sym (offset_is cell.offset)) (locked_says arrays operation cell r e)
instruction_says arrays instructions.Fence e = λ source at h. refl
instruction_says arrays instructions.Nop e = λ source at h. refl
instruction_says arrays instructions.Pause e = λ source at h. refl
instruction_says arrays instructions.Return e = λ source at h. refl
