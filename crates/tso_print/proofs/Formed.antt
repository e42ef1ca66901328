-- Printed lines are made of signs that stand apart, and are short.
use Rattle.std.proofs.Common.{◌≡◌, ℕ, suc, ◌+◌, ◌-◌, ◌*◌, ◌^◌, ◌<◌, ◌≤◌, Bool, true, false, cond, List, [], ◌∷◌, ◌++◌, length, Option, Some, None, ℤ, pos, refl, sym, subst, arith}
use Rattle.std.specs.Prelude.{◌==◌, nat_lt, nat_le, negsuc}
use Rattle.std.specs.List.{list_all}
use Rattle.std.specs.Fmt.{decimal}
use Rattle.std.proofs.lemmas.Bool.{and_parts, and_from, leb-true, leb-false, le-leb}
use Rattle.std.proofs.lemmas.Bool.Decides.{nat_tests}
use Rattle.std.proofs.lemmas.Fmt.{length-decimal-le}
use Rattle.tso_word.specs.declared.Condition.{Condition}
use Rattle.tso_line.specs.declared.instruction.Register.{Register}
use Rattle.tso_line.specs.declared.instruction.Mode.{Mode}
use Rattle.tso_line.specs.declared.instruction.Mode.TheVariants as modes
use Rattle.tso_line.specs.declared.instruction.CallKind.{CallKind}
use Rattle.tso_line.specs.declared.instruction.CallKind.TheVariants as calls
use Rattle.tso_line.specs.declared.instruction.Source.{Source}
use Rattle.tso_line.specs.declared.instruction.Source.TheVariants as sources
use Rattle.tso_line.specs.declared.instruction.LockedOperation.{LockedOperation}
use Rattle.tso_line.specs.declared.instruction.LockedOperation.TheVariants as locked
use Rattle.tso_line.specs.declared.instruction.Instruction.{Instruction}
use Rattle.tso_line.specs.declared.instruction.Instruction.TheVariants as instructions
use Rattle.tso_line.specs.declared.lexeme.Directive.TheVariants as directives
use Rattle.tso_line.specs.declared.lexeme.Mnemonic.{Mnemonic}
use Rattle.tso_line.specs.declared.lexeme.Mnemonic.TheVariants as mnemonics
use Rattle.tso_line.specs.declared.lexeme.Meaning.TheVariants as meanings
use Rattle.tso_line.specs.Proper.{is_name, is_in_range, is_near, is_small, is_word, is_word_source, is_narrow, is_narrow_source, is_call}
use Rattle.tso_prog.specs.declared.client.Array.{Array}
use Rattle.tso_prog.specs.Limits.{is_short_name}
use Rattle.tso_print.specs.Signs.{directive, keyword, name, number, colon, comma, bracket, end_bracket, equals}
use Rattle.tso_print.specs.Pieces.{Piece, tight, spaced}
use Rattle.tso_print.specs.Layout.{register_sign, source_pieces, index_pieces, array_name, label_name, locked_pieces, instruction_pieces, mode_sign, more_values, value_pieces, array_pieces, call_pieces, more_calls, calls_pieces, thread_pieces}
use Rattle.tso_print.proofs.Digits.{decimal_all}
use Rattle.tso_print.proofs.Lexed.{digits_go}
use Rattle.tso_print.proofs.Tokens.{is_apart, are_pieces}
use Rattle.tso_print.proofs.Ranges.{Offset, none, up, down, offset_of, pieces_of_offset, offset_is, Origin, register, word, negative, origin_of, source_is}
use Rattle.tso_print.proofs.Shapes.{mnemonic, two_pieces, load_pieces, store_pieces, pieces_of_locked, jump_pieces}

-- ---- numbers that fit

abbrev pub fits_offset : Offset → Bool
fits_offset none = true
fits_offset (up m) = nat_lt m (2 ^ 64)
fits_offset (down m) = nat_lt m (2 ^ 64)

abbrev pub fits_origin : Origin → Bool
fits_origin (register r) = true
fits_origin (word w) = nat_lt w (2 ^ 64)
fits_origin (negative m) = nat_lt m (2 ^ 64)

pub near_fits : (z : ℤ) → is_near z ≡ true → fits_offset (offset_of z) ≡ true
near_fits (negsuc n) e = let lt : suc n ≤ 2 ^ 28 = leb-true (suc n) (2 ^ 28) e in le-leb (suc ((n + 1) * 8)) (2 ^ 64) (omega (arith, lt))
near_fits (pos n) e = by (n == 0)
  where
    by : (b : Bool) → fits_offset (cond b none (up (n * 8))) ≡ true
    by true = refl
    by false = let lt : suc n ≤ 2 ^ 28 = leb-true (suc n) (2 ^ 28) e in le-leb (suc (n * 8)) (2 ^ 64) (omega (arith, lt))

pub word_fits : (s : Source) → is_word_source s ≡ true → fits_origin (origin_of s) ≡ true
word_fits (sources.Register r) e = refl
word_fits (sources.Word w) e = by (nat_lt w (2 ^ 63)) refl
  where
    by : (b : Bool) → nat_lt w (2 ^ 63) ≡ b → fits_origin (cond b (word w) (negative (2 ^ 64 - w))) ≡ true
    by true f = e
    by false f = let ge : 2 ^ 63 < suc w = leb-false (suc w) (2 ^ 63) f in le-leb (suc (2 ^ 64 - w)) (2 ^ 64) (omega (arith, ge))

narrow_word : (w : ℕ) → is_narrow w ≡ true → is_word w ≡ true
narrow_word w e = grind (arith, nat_tests)

pub narrow_fits : (s : Source) → is_narrow_source s ≡ true → fits_origin (origin_of s) ≡ true
narrow_fits (sources.Register r) e = refl
narrow_fits (sources.Word w) e = word_fits (sources.Word w) (narrow_word w e)

-- ---- labels

small_word : (n : ℕ) → n ≤ 256 → nat_lt n (2 ^ 64) ≡ true
small_word n le = le-leb (suc n) (2 ^ 64) (omega arith)

pub label_short : (n : ℕ) → n ≤ 256 → is_short_name (label_name n) ≡ true
unfolding is_name
label_short n le =
    let most : length (decimal n) ≤ 3 = length-decimal-le 3 n (omega arith) (omega arith) (omega arith) in
    let few : nat_le (length (label_name n)) 32 ≡ true = le-leb (length (label_name n)) 32 (omega arith) in
    and_from (is_name (label_name n)) (nat_le (length (label_name n)) 32) (digits_go (decimal n) (decimal_all n (omega arith))) few

-- ---- instructions

two_formed : (m : Mnemonic) (left : Register) (right : Origin) → fits_origin right ≡ true → are_pieces (two_pieces m left right) ≡ true
two_formed m left (register r) e = refl
two_formed m left (word w) e = rw e refl
two_formed m left (negative k) e = rw e refl

load_formed : (to : Register) (array : List ℕ) (index : Option Register) (offset : Offset) → is_short_name array ≡ true → fits_offset offset ≡ true → are_pieces (load_pieces to array index offset) ≡ true
load_formed to array None none e f = rw e refl
load_formed to array None (up m) e f = rw (e, f) refl
load_formed to array None (down m) e f = rw (e, f) refl
load_formed to array (Some i) none e f = rw e refl
load_formed to array (Some i) (up m) e f = rw (e, f) refl
load_formed to array (Some i) (down m) e f = rw (e, f) refl

store_formed : (array : List ℕ) (index : Option Register) (offset : Offset) (from : Origin) → is_short_name array ≡ true → fits_offset offset ≡ true → fits_origin from ≡ true → are_pieces (store_pieces array index offset from) ≡ true
store_formed array None none (register r) e f g = rw e refl
store_formed array None none (word w) e f g = rw (e, g) refl
store_formed array None none (negative k) e f g = rw (e, g) refl
store_formed array None (up m) (register r) e f g = rw (e, f) refl
store_formed array None (up m) (word w) e f g = rw (e, f, g) refl
store_formed array None (up m) (negative k) e f g = rw (e, f, g) refl
store_formed array None (down m) (register r) e f g = rw (e, f) refl
store_formed array None (down m) (word w) e f g = rw (e, f, g) refl
store_formed array None (down m) (negative k) e f g = rw (e, f, g) refl
store_formed array (Some i) none (register r) e f g = rw e refl
store_formed array (Some i) none (word w) e f g = rw (e, g) refl
store_formed array (Some i) none (negative k) e f g = rw (e, g) refl
store_formed array (Some i) (up m) (register r) e f g = rw (e, f) refl
store_formed array (Some i) (up m) (word w) e f g = rw (e, f, g) refl
store_formed array (Some i) (up m) (negative k) e f g = rw (e, f, g) refl
store_formed array (Some i) (down m) (register r) e f g = rw (e, f) refl
store_formed array (Some i) (down m) (word w) e f g = rw (e, f, g) refl
store_formed array (Some i) (down m) (negative k) e f g = rw (e, f, g) refl

locked_formed : (operation : LockedOperation) (array : List ℕ) (index : Option Register) (offset : Offset) (r : Register) → is_short_name array ≡ true → fits_offset offset ≡ true → are_pieces (pieces_of_locked operation array index offset r) ≡ true
locked_formed locked.Exchange array None none r e f = rw e refl
locked_formed locked.Exchange array None (up m) r e f = rw (e, f) refl
locked_formed locked.Exchange array None (down m) r e f = rw (e, f) refl
locked_formed locked.Exchange array (Some i) none r e f = rw e refl
locked_formed locked.Exchange array (Some i) (up m) r e f = rw (e, f) refl
locked_formed locked.Exchange array (Some i) (down m) r e f = rw (e, f) refl
locked_formed locked.CompareExchange array None none r e f = rw e refl
locked_formed locked.CompareExchange array None (up m) r e f = rw (e, f) refl
locked_formed locked.CompareExchange array None (down m) r e f = rw (e, f) refl
locked_formed locked.CompareExchange array (Some i) none r e f = rw e refl
locked_formed locked.CompareExchange array (Some i) (up m) r e f = rw (e, f) refl
locked_formed locked.CompareExchange array (Some i) (down m) r e f = rw (e, f) refl
locked_formed locked.ExchangeAdd array None none r e f = rw e refl
locked_formed locked.ExchangeAdd array None (up m) r e f = rw (e, f) refl
locked_formed locked.ExchangeAdd array None (down m) r e f = rw (e, f) refl
locked_formed locked.ExchangeAdd array (Some i) none r e f = rw e refl
locked_formed locked.ExchangeAdd array (Some i) (up m) r e f = rw (e, f) refl
locked_formed locked.ExchangeAdd array (Some i) (down m) r e f = rw (e, f) refl

jump_formed : (when : Option Condition) (target : List ℕ) (bound : Option ℕ) → is_short_name target ≡ true → is_small bound ≡ true → are_pieces (jump_pieces when target bound) ≡ true
jump_formed when target None e f = rw e refl
jump_formed when target (Some n) e f = let le : n ≤ 15 = leb-true n 15 f in let small : nat_lt n (2 ^ 64) ≡ true = small_word n (omega (arith, le)) in rw (e, small) refl

-- the array that an instruction names has a short name, and its target is near
abbrev pub is_named : List Array → Instruction ℕ ℕ → Bool
is_named arrays (instructions.Load to from) = is_short_name (array_name arrays from.array)
is_named arrays (instructions.Store to from) = is_short_name (array_name arrays to.array)
is_named arrays (instructions.Locked operation cell r) = is_short_name (array_name arrays cell.array)
is_named arrays (instructions.Jump when target bound) = nat_le target 256
is_named arrays _ = true

pub instruction_formed : (arrays : List Array) (i : Instruction ℕ ℕ) → is_in_range i ≡ true → is_named arrays i ≡ true → are_pieces (instruction_pieces arrays i) ≡ true
instruction_formed arrays (instructions.Move to from) e n =
    let P : List Piece → Type 0 = λ tail. are_pieces (mnemonic mnemonics.Mov ∷ spaced (register_sign to) ∷ tight comma ∷ tail) ≡ true in
    subst P (sym (source_is from)) (two_formed mnemonics.Mov to (origin_of from) (word_fits from e))
instruction_formed arrays (instructions.Load to from) e n =
    let P : List Piece → Type 0 = λ tail. are_pieces (mnemonic mnemonics.Mov ∷ spaced (register_sign to) ∷ tight comma ∷ spaced (keyword meanings.Qword) ∷ spaced (keyword meanings.Ptr) ∷ spaced bracket ∷ tight (name (array_name arrays from.array)) ∷ (index_pieces from.index ++ (tail ++ tight end_bracket ∷ []))) ≡ true in
    subst P (sym (offset_is from.offset)) (load_formed to (array_name arrays from.array) from.index (offset_of from.offset) n (near_fits from.offset e))
instruction_formed arrays (instructions.Store to from) e n =
    let a = and_parts (is_near to.offset) (is_narrow_source from) e in
    let P : List Piece → List Piece → Type 0 = λ middle tail. are_pieces (mnemonic mnemonics.Mov ∷ spaced (keyword meanings.Qword) ∷ spaced (keyword meanings.Ptr) ∷ spaced bracket ∷ tight (name (array_name arrays to.array)) ∷ ((index_pieces to.index ++ (middle ++ tight end_bracket ∷ [])) ++ tight comma ∷ tail)) ≡ true in
    subst (λ (middle : List Piece). P middle (source_pieces from)) (sym (offset_is to.offset)) (subst (P (pieces_of_offset (offset_of to.offset))) (sym (source_is from)) (store_formed (array_name arrays to.array) to.index (offset_of to.offset) (origin_of from) n (near_fits to.offset a.0) (narrow_fits from a.1)))
instruction_formed arrays (instructions.Compute operation to from) e n =
    let P : List Piece → Type 0 = λ tail. are_pieces (mnemonic (mnemonics.Compute operation) ∷ spaced (register_sign to) ∷ tight comma ∷ tail) ≡ true in
    subst P (sym (source_is from)) (two_formed (mnemonics.Compute operation) to (origin_of from) (narrow_fits from e))
instruction_formed arrays (instructions.Compare comparison left right) e n =
    let P : List Piece → Type 0 = λ tail. are_pieces (mnemonic (mnemonics.Compare comparison) ∷ spaced (register_sign left) ∷ tight comma ∷ tail) ≡ true in
    subst P (sym (source_is right)) (two_formed (mnemonics.Compare comparison) left (origin_of right) (narrow_fits right e))
instruction_formed arrays (instructions.Increment to) e n = refl
instruction_formed arrays (instructions.Decrement to) e n = refl
instruction_formed arrays (instructions.Jump when target bound) e n = jump_formed when (label_name target) bound (label_short target (leb-true target 256 n)) e
instruction_formed arrays (instructions.Assert condition) e n = refl
instruction_formed arrays (instructions.Locked operation cell r) e n =
    let P : List Piece → Type 0 = λ middle. are_pieces (locked_pieces operation ++ ((spaced (keyword meanings.Qword) ∷ spaced (keyword meanings.Ptr) ∷ spaced bracket ∷ tight (name (array_name arrays cell.array)) ∷ (index_pieces cell.index ++ (middle ++ tight end_bracket ∷ []))) ++ tight comma ∷ spaced (register_sign r) ∷ [])) ≡ true in
    subst P (sym (offset_is cell.offset)) (locked_formed operation (array_name arrays cell.array) cell.index (offset_of cell.offset) r n (near_fits cell.offset e))
instruction_formed arrays instructions.Fence e n = refl
instruction_formed arrays instructions.Nop e n = refl
instruction_formed arrays instructions.Pause e n = refl
instruction_formed arrays instructions.Return e n = refl

-- ---- other lines

pub capacity_formed : (n : ℕ) → n ≤ 16 → are_pieces (tight (directive directives.Capacity) ∷ spaced (number n) ∷ []) ≡ true
capacity_formed n le = let small : nat_lt n (2 ^ 64) ≡ true = small_word n (omega arith) in rw small refl

pub mode_formed : (m : Mode) → are_pieces (tight (directive directives.Mode) ∷ spaced (mode_sign m) ∷ []) ≡ true
mode_formed modes.Strict = refl
mode_formed modes.Weak = refl

pub label_formed : (n : ℕ) → n ≤ 256 → are_pieces (tight (name (label_name n)) ∷ tight colon ∷ []) ≡ true
label_formed n le = let short = label_short n le in rw short refl

more_apart : (vs : List ℕ) → is_apart (more_values vs) ≡ true
more_apart [] = refl
more_apart (v ∷ vs) = refl

more_formed : (vs : List ℕ) → list_all is_word vs ≡ true → are_pieces (more_values vs) ≡ true
more_formed [] e = refl
more_formed (v ∷ vs) e =
    let a = and_parts (is_word v) (list_all is_word vs) e in
    rw (a.0, more_apart vs, more_formed vs a.1) refl

array_formed_at : (b : Bool) (n : List ℕ) (len v : ℕ) (vs : List ℕ) → is_short_name n ≡ true → len ≤ 256 → list_all is_word (v ∷ vs) ≡ true
    → are_pieces (tight (directive directives.Array) ∷ spaced (name n) ∷ spaced (number len) ∷ cond b [] (spaced equals ∷ spaced (number v) ∷ more_values vs)) ≡ true
array_formed_at true n len v vs e le all = let small : nat_lt len (2 ^ 64) ≡ true = small_word len le in rw (e, small) refl
array_formed_at false n len v vs e le all =
    let small : nat_lt len (2 ^ 64) ≡ true = small_word len le in
    let a = and_parts (is_word v) (list_all is_word vs) all in
    rw (e, small, a.0, more_apart vs, more_formed vs a.1) refl

pub array_formed : (a : Array) → is_short_name a.name ≡ true → length a.words ≤ 256 → list_all is_word a.words ≡ true → are_pieces (array_pieces a) ≡ true
array_formed a e le all = by a.name a.words e le all
  where
    by : (n ws : List ℕ) → is_short_name n ≡ true → length ws ≤ 256 → list_all is_word ws ≡ true → are_pieces (tight (directive directives.Array) ∷ spaced (name n) ∷ spaced (number (length ws)) ∷ value_pieces ws) ≡ true
    by n [] e le all = let small : nat_lt 0 (2 ^ 64) ≡ true = refl in rw e refl
    by n (v ∷ vs) e le all = array_formed_at (list_all (λ (w : ℕ). w == 0) (v ∷ vs)) n (length (v ∷ vs)) v vs e le all

calls_apart : (cs : List CallKind) → is_apart (more_calls cs) ≡ true
calls_apart [] = refl
calls_apart (c ∷ cs) = refl

call_formed : (c : CallKind) (ps : List Piece) → is_call c ≡ true → is_apart ps ≡ true → are_pieces ps ≡ true → are_pieces (call_pieces c ++ ps) ≡ true
call_formed (calls.Push v) ps e f g = rw (e, f, g) refl
call_formed calls.Pop ps e f g = rw (f, g) refl

more_calls_formed : (cs : List CallKind) → list_all is_call cs ≡ true → are_pieces (more_calls cs) ≡ true
more_calls_formed [] e = refl
more_calls_formed (c ∷ cs) e =
    let a = and_parts (is_call c) (list_all is_call cs) e in
    call_formed c (more_calls cs) a.0 (calls_apart cs) (more_calls_formed cs a.1)

first_apart : (c : CallKind) (ps : List Piece) → is_apart (call_pieces c ++ ps) ≡ true
first_apart (calls.Push v) ps = refl
first_apart calls.Pop ps = refl

pub before_formed : (c : CallKind) (cs : List CallKind) → list_all is_call (c ∷ cs) ≡ true → are_pieces (tight (directive directives.Before) ∷ calls_pieces (c ∷ cs)) ≡ true
before_formed c cs e =
    let a = and_parts (is_call c) (list_all is_call cs) e in
    rw (first_apart c (more_calls cs)) (call_formed c (more_calls cs) a.0 (calls_apart cs) (more_calls_formed cs a.1))

pub thread_formed : (c : CallKind) (cs : List CallKind) → list_all is_call (c ∷ cs) ≡ true → are_pieces (thread_pieces (c ∷ cs)) ≡ true
thread_formed c cs e =
    let a = and_parts (is_call c) (list_all is_call cs) e in
    rw (first_apart c (more_calls cs)) (call_formed c (more_calls cs) a.0 (calls_apart cs) (more_calls_formed cs a.1))
