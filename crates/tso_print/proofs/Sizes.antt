-- A printed client is short, and all its bytes may stand in a text.
use Rattle.std.proofs.Common.{◌≡◌, ℕ, zero, suc, ◌+◌, ◌-◌, ◌*◌, ◌^◌, ◌<◌, ◌≤◌, Bool, true, false, cond, List, [], ◌∷◌, ◌++◌, length, replicate, map, Option, Some, None, ℤ, pos, refl, arith}
use Rattle.std.specs.Prelude.{◌==◌, nat_lt, nat_le, negsuc}
use Rattle.std.specs.List.{list_all}
use Rattle.std.specs.Char.{is_ascii_digit}
use Rattle.std.specs.Fmt.{decimal}
use Rattle.std.proofs.lemmas.Bool.{and_parts, and_from, leb-true}
use Rattle.std.proofs.lemmas.Bool.Decides.{nat_tests}
use Rattle.std.proofs.lemmas.Fmt.{length-decimal-le}
use Rattle.std.proofs.lemmas.List.{length-append, length-replicate}
use Rattle.tso_text.specs.Lexing.{is_text, first_bad_line}
use Rattle.tso_line.specs.declared.instruction.Register.{Register}
use Rattle.tso_line.specs.declared.instruction.Mode.{Mode}
use Rattle.tso_line.specs.declared.instruction.Mode.TheVariants as modes
use Rattle.tso_line.specs.declared.instruction.Address.{Address}
use Rattle.tso_line.specs.declared.instruction.LockedOperation.{LockedOperation}
use Rattle.tso_line.specs.declared.instruction.CallKind.{CallKind}
use Rattle.tso_line.specs.declared.instruction.CallKind.TheVariants as calls
use Rattle.tso_line.specs.declared.instruction.LockedOperation.TheVariants as locked
use Rattle.tso_line.specs.declared.instruction.Source.{Source}
use Rattle.tso_line.specs.declared.instruction.Source.TheVariants as sources
use Rattle.tso_line.specs.declared.instruction.Instruction.{Instruction}
use Rattle.tso_line.specs.declared.instruction.Instruction.TheVariants as instructions
use Rattle.tso_line.specs.declared.lexeme.Directive.{Directive}
use Rattle.tso_line.specs.declared.lexeme.Directive.TheVariants as directives
use Rattle.tso_line.specs.declared.lexeme.Meaning.TheVariants as meanings
use Rattle.tso_line.specs.Lines.{Line}
use Rattle.tso_line.specs.Proper.{goes_on, is_name}
use Rattle.tso_prog.specs.declared.client.Array.{Array}
use Rattle.tso_prog.specs.Clients.{ClientOf}
use Rattle.tso_line.specs.Vocabulary.{keyword_word, directive_word}
use Rattle.tso_print.specs.Signs.{Sign, directive, keyword, name, number, colon, comma, bracket, end_bracket, plus, minus, star, equals, sign_text}
use Rattle.tso_print.specs.Pieces.{Piece, tight, spaced, spelled, text_of}
use Rattle.tso_print.specs.Layout.{source_pieces, index_pieces, offset_pieces, bound_pieces, locked_pieces, cell_pieces, instruction_pieces, is_jumped_to, label_name, label_lines, body_lines, mode_sign, more_values, value_pieces, array_pieces, call_pieces, more_calls, calls_pieces, prologue_lines, thread_pieces, procedure_lines, client_lines, printed}
use Rattle.tso_print.proofs.Digits.{decimal_all}
use Rattle.tso_print.proofs.Meant.{keyword_named, keyword_short}
use Rattle.tso_print.proofs.Names.{name_goes}
use Rattle.tso_print.proofs.Lexed.{is_sign}
use Rattle.tso_print.proofs.Tokens.{is_piece, are_pieces}
use Rattle.tso_print.proofs.Placing.{AreLines}
use Rattle.tso_print.proofs.Reading.{words_in}
use Rattle.tso_print.proofs.Whole.{IsSound, calls_in, lines_said}
use Rattle.tso_print.proofs.Said.{client_are}

-- ---- bytes

goes_text : (b : ℕ) → goes_on b ≡ true → is_text b ≡ true
goes_text b e = grind (arith, nat_tests)

digit_text : (b : ℕ) → is_ascii_digit b ≡ true → is_text b ≡ true
digit_text b e = grind (arith, nat_tests)

all_weaker : (p q : ℕ → Bool) → ((b : ℕ) → p b ≡ true → q b ≡ true) → (bs : List ℕ) → list_all p bs ≡ true → list_all q bs ≡ true
all_weaker p q h [] e = refl
all_weaker p q h (b ∷ bs) e = let a = and_parts (p b) (list_all p bs) e in and_from (q b) (list_all q bs) (h b a.0) (all_weaker p q h bs a.1)

all_append : (p : ℕ → Bool) (xs ys : List ℕ) → list_all p xs ≡ true → list_all p ys ≡ true → list_all p (xs ++ ys) ≡ true
all_append p [] ys e f = f
all_append p (x ∷ xs) ys e f = let a = and_parts (p x) (list_all p xs) e in and_from (p x) (list_all p (xs ++ ys)) a.0 (all_append p xs ys a.1 f)

name_text : (text : List ℕ) → is_name text ≡ true → list_all is_text text ≡ true
name_text text e = all_weaker goes_on is_text goes_text text (name_goes text e)

directive_text : (d : Directive) → list_all is_text (directive_word d) ≡ true
directive_text directives.Capacity = refl
directive_text directives.Mode = refl
directive_text directives.Array = refl
directive_text directives.Push = refl
directive_text directives.Pop = refl
directive_text directives.End = refl
directive_text directives.Before = refl
directive_text directives.Thread = refl

sign_bytes : (s : Sign) → is_sign s ≡ true → list_all is_text (sign_text s) ≡ true
sign_bytes (directive d) e = directive_text d
sign_bytes (keyword m) e = name_text (keyword_word m) (keyword_named m e)
sign_bytes (name n) e = name_text n (and_parts (is_name n) (nat_le (length n) 32) e).0
sign_bytes (number n) e = all_weaker is_ascii_digit is_text digit_text (decimal n) (decimal_all n (leb-true (suc n) (2 ^ 64) e))
sign_bytes colon e = refl
sign_bytes comma e = refl
sign_bytes bracket e = refl
sign_bytes end_bracket e = refl
sign_bytes plus e = refl
sign_bytes minus e = refl
sign_bytes star e = refl
sign_bytes equals e = refl

space_bytes : (n : ℕ) → list_all is_text (replicate n 32) ≡ true
space_bytes zero = refl
space_bytes (suc n) = space_bytes n

line_bytes : (ps : List Piece) → are_pieces ps ≡ true → list_all is_text (spelled ps) ≡ true
line_bytes [] e = refl
line_bytes (p ∷ ps) e =
    let a = and_parts (is_piece p ps) (are_pieces ps) e in
    let b = and_parts (is_sign p.sign) _ a.0 in
    all_append is_text (replicate p.spaces 32) (sign_text p.sign ++ spelled ps) (space_bytes p.spaces) (all_append is_text (sign_text p.sign) (spelled ps) (sign_bytes p.sign b.0) (line_bytes ps a.1))

text_bytes : (ps : List (List Piece)) (ls : List Line) → AreLines ps ls → list_all is_text (text_of ps) ≡ true
text_bytes [] [] h = refl
text_bytes [] (l ∷ ls) h = absurd h
text_bytes (p ∷ ps) [] h = absurd h
text_bytes (p ∷ ps) (l ∷ ls) h = all_append is_text (spelled p) (10 ∷ text_of ps) (line_bytes p h.0.pieces) (text_bytes ps ls h.1)

none_bad : (bs : List ℕ) (line : ℕ) → list_all is_text bs ≡ true → first_bad_line line bs ≡ None
unfolding first_bad_line
none_bad [] line e = refl
none_bad (b ∷ bs) line e = let a = and_parts (is_text b) (list_all is_text bs) e in rw a.0 (none_bad bs (cond (b == 10) (line + 1) line) a.1)

-- no byte of a printed client is bad
pub printed_bytes : (c : ClientOf) → IsSound c → first_bad_line 1 (printed c) ≡ None
unfolding printed
printed_bytes c s = none_bad (text_of (client_lines c)) 1 (text_bytes (client_lines c) (lines_said c) (client_are c s))

-- ---- the sizes of signs

-- at most so many bytes
abbrev sign_size : Sign → ℕ
sign_size (directive d) = 9
sign_size (keyword m) = 7
sign_size (name n) = 32
sign_size (number n) = 20
sign_size _ = 1

directive_size : (d : Directive) → nat_le (length (directive_word d)) 9 ≡ true
directive_size directives.Capacity = refl
directive_size directives.Mode = refl
directive_size directives.Array = refl
directive_size directives.Push = refl
directive_size directives.Pop = refl
directive_size directives.End = refl
directive_size directives.Before = refl
directive_size directives.Thread = refl

sign_fits : (s : Sign) → is_sign s ≡ true → length (sign_text s) ≤ sign_size s
sign_fits (directive d) e = leb-true (length (directive_word d)) 9 (directive_size d)
sign_fits (keyword m) e = leb-true (length (keyword_word m)) 7 (keyword_short m e)
sign_fits (name n) e = leb-true (length n) 32 (and_parts (is_name n) (nat_le (length n) 32) e).1
sign_fits (number n) e = let lt : n < 2 ^ 64 = leb-true (suc n) (2 ^ 64) e in length-decimal-le 20 n (omega arith) (omega (arith, lt)) lt
sign_fits colon e = omega arith
sign_fits comma e = omega arith
sign_fits bracket e = omega arith
sign_fits end_bracket e = omega arith
sign_fits plus e = omega arith
sign_fits minus e = omega arith
sign_fits star e = omega arith
sign_fits equals e = omega arith

-- at most so many bytes in a line
abbrev size : List Piece → ℕ
size [] = 0
size (p ∷ ps) = p.spaces + (sign_size p.sign + size ps)

size-append : (ps qs : List Piece) → size (ps ++ qs) ≡ size ps + size qs
size-append [] qs = omega arith
size-append (p ∷ ps) qs = let e = size-append ps qs in omega (arith, e)

line_fits : (ps : List Piece) → are_pieces ps ≡ true → length (spelled ps) ≤ size ps
line_fits [] e = omega arith
line_fits (p ∷ ps) e =
    let a = and_parts (is_piece p ps) (are_pieces ps) e in
    let b = and_parts (is_sign p.sign) _ a.0 in
    omega (arith, length-append (replicate p.spaces 32) (sign_text p.sign ++ spelled ps), length-append (sign_text p.sign) (spelled ps), length-replicate {A = ℕ} p.spaces 32, sign_fits p.sign b.0, line_fits ps a.1)

-- at most so many bytes in lines, each with its newline
abbrev sizes : List (List Piece) → ℕ
sizes [] = 0
sizes (l ∷ ls) = size l + (1 + sizes ls)

sizes-append : (ls ms : List (List Piece)) → sizes (ls ++ ms) ≡ sizes ls + sizes ms
sizes-append [] ms = omega arith
sizes-append (l ∷ ls) ms = let e = sizes-append ls ms in omega (arith, e)

text_fits : (ps : List (List Piece)) (ls : List Line) → AreLines ps ls → length (text_of ps) ≤ sizes ps
text_fits [] [] h = omega arith
text_fits [] (l ∷ ls) h = absurd h
text_fits (p ∷ ps) [] h = absurd h
text_fits (p ∷ ps) (l ∷ ls) h = omega (arith, length-append (spelled p) (10 ∷ text_of ps), line_fits p h.0.pieces, text_fits ps ls h.1)

-- ---- the sizes of lines

source_size : (s : Source) → size (source_pieces s) ≤ 22
source_size (sources.Register r) = omega arith
source_size (sources.Word w) = by (nat_lt w (2 ^ 63))
  where
    by : (b : Bool) → size (cond b (spaced (number w) ∷ []) (spaced minus ∷ tight (number (2 ^ 64 - w)) ∷ [])) ≤ 22
    by true = omega arith
    by false = omega arith

offset_size : (z : ℤ) → size (offset_pieces z) ≤ 23
offset_size (negsuc n) = omega arith
offset_size (pos n) = by (n == 0)
  where
    by : (b : Bool) → size (cond b [] (spaced plus ∷ spaced (number (n * 8)) ∷ [])) ≤ 23
    by true = omega arith
    by false = omega arith

index_size : (r : Option Register) → size (index_pieces r) ≤ 31
index_size None = omega arith
index_size (Some r) = omega arith

bound_size : (b : Option ℕ) → size (bound_pieces b) ≤ 29
bound_size None = omega arith
bound_size (Some n) = omega arith

cell_size : (arrays : List Array) (cell : Address ℕ) → size (cell_pieces arrays cell) ≤ 105
cell_size arrays cell =
    omega (arith, size-append (index_pieces cell.index) (offset_pieces cell.offset ++ tight end_bracket ∷ []), size-append (offset_pieces cell.offset) (tight end_bracket ∷ []), index_size cell.index, offset_size cell.offset)

locked_size : (o : LockedOperation) → size (locked_pieces o) ≤ 17
locked_size locked.Exchange = omega arith
locked_size locked.CompareExchange = omega arith
locked_size locked.ExchangeAdd = omega arith

instruction_size : (arrays : List Array) (i : Instruction ℕ ℕ) → size (instruction_pieces arrays i) ≤ 140
instruction_size arrays (instructions.Move to from) = omega (arith, source_size from)
instruction_size arrays (instructions.Load to from) = omega (arith, cell_size arrays from)
instruction_size arrays (instructions.Store to from) = omega (arith, size-append (cell_pieces arrays to) (tight comma ∷ source_pieces from), cell_size arrays to, source_size from)
instruction_size arrays (instructions.Compute operation to from) = omega (arith, source_size from)
instruction_size arrays (instructions.Compare comparison left right) = omega (arith, source_size right)
instruction_size arrays (instructions.Increment to) = omega arith
instruction_size arrays (instructions.Decrement to) = omega arith
instruction_size arrays (instructions.Jump when target bound) = omega (arith, bound_size bound)
instruction_size arrays (instructions.Assert condition) = omega arith
instruction_size arrays (instructions.Locked operation cell r) =
    omega (arith, size-append (locked_pieces operation) (cell_pieces arrays cell ++ tight comma ∷ spaced (keyword (meanings.Register r)) ∷ []), size-append (cell_pieces arrays cell) (tight comma ∷ spaced (keyword (meanings.Register r)) ∷ []), cell_size arrays cell, locked_size operation)
instruction_size arrays instructions.Fence = omega arith
instruction_size arrays instructions.Nop = omega arith
instruction_size arrays instructions.Pause = omega arith
instruction_size arrays instructions.Return = omega arith

label_size : (steps : List (Instruction ℕ ℕ)) (at : ℕ) → sizes (label_lines steps at) ≤ 34
label_size steps at = by (is_jumped_to steps at)
  where
    by : (b : Bool) → sizes (cond b ((tight (name (label_name at)) ∷ tight colon ∷ []) ∷ []) []) ≤ 34
    by true = omega arith
    by false = omega arith

body_size : (arrays : List Array) (steps : List (Instruction ℕ ℕ)) (at : ℕ) (is : List (Instruction ℕ ℕ)) → sizes (body_lines arrays steps at is) ≤ 34 + 175 * length is
body_size arrays steps at [] = omega (arith, label_size steps at)
body_size arrays steps at (i ∷ is) =
    omega (arith, sizes-append (label_lines steps at) (instruction_pieces arrays i ∷ body_lines arrays steps (at + 1) is), label_size steps at, instruction_size arrays i, body_size arrays steps (at + 1) is)

procedure_size : (arrays : List Array) (d : Directive) (steps : List (Instruction ℕ ℕ)) → sizes (procedure_lines arrays (directive d) steps) ≤ 54 + 175 * length steps
procedure_size arrays d steps = omega (arith, sizes-append (body_lines arrays steps 0 steps) ((tight (directive directives.End) ∷ []) ∷ []), body_size arrays steps 0 steps)

more_size : (vs : List ℕ) → size (more_values vs) ≤ 22 * length vs
more_size [] = omega arith
more_size (v ∷ vs) = let e = more_size vs in omega (arith, e)

value_size : (vs : List ℕ) → size (value_pieces vs) ≤ 23 + 22 * length vs
value_size [] = omega arith
value_size (v ∷ vs) = by (list_all (λ (w : ℕ). w == 0) (v ∷ vs))
  where
    by : (b : Bool) → size (cond b [] (spaced equals ∷ spaced (number v) ∷ more_values vs)) ≤ 23 + 22 * suc (length vs)
    by true = omega arith
    by false = let e = more_size vs in omega (arith, e)

arrays_size : (arrays : List Array) → sizes (map array_pieces arrays) ≤ 87 * length arrays + 22 * words_in arrays
arrays_size [] = omega arith
arrays_size (a ∷ more) = omega (arith, value_size a.words, arrays_size more)

call_size : (c : CallKind) → size (call_pieces c) ≤ 29
call_size (calls.Push v) = omega arith
call_size calls.Pop = omega arith

more_calls_size : (cs : List CallKind) → size (more_calls cs) ≤ 30 * length cs
more_calls_size [] = omega arith
more_calls_size (c ∷ cs) = omega (arith, size-append (call_pieces c) (more_calls cs), call_size c, more_calls_size cs)

calls_size : (cs : List CallKind) → size (calls_pieces cs) ≤ 30 * length cs
calls_size [] = omega arith
calls_size (c ∷ cs) = omega (arith, size-append (call_pieces c) (more_calls cs), call_size c, more_calls_size cs)

prologue_size : (cs : List CallKind) → sizes (prologue_lines cs) ≤ 10 + 30 * length cs
prologue_size [] = omega arith
prologue_size (c ∷ cs) = omega (arith, calls_size (c ∷ cs))

threads_size : (ts : List (List CallKind)) → sizes (map thread_pieces ts) ≤ 10 * length ts + 30 * calls_in ts
threads_size [] = omega arith
threads_size (t ∷ ts) = omega (arith, calls_size t, threads_size ts)

head_size : (c : ClientOf) (rest : List (List Piece)) → sizes ((tight (directive directives.Capacity) ∷ spaced (number c.capacity) ∷ []) ∷ (tight (directive directives.Mode) ∷ spaced (mode_sign c.mode) ∷ []) ∷ rest) ≤ 60 + sizes rest
head_size c rest = by c.mode
  where
    by : (m : Mode) → sizes ((tight (directive directives.Capacity) ∷ spaced (number c.capacity) ∷ []) ∷ (tight (directive directives.Mode) ∷ spaced (mode_sign m) ∷ []) ∷ rest) ≤ 60 + sizes rest
    by modes.Strict = omega arith
    by modes.Weak = omega arith

-- a printed client is no longer than a text may be
pub printed_fits : (c : ClientOf) → IsSound c → length (printed c) ≤ 65536
unfolding printed
printed_fits c s =
    let p3 : List (List Piece) = prologue_lines c.prologue ++ map thread_pieces c.threads in
    let p2 : List (List Piece) = procedure_lines c.arrays (directive directives.Pop) c.pop in
    let p1 : List (List Piece) = procedure_lines c.arrays (directive directives.Push) c.push in
    let fits : length (text_of (client_lines c)) ≤ sizes (client_lines c) = text_fits (client_lines c) (lines_said c) (client_are c s) in
    let head : sizes (client_lines c) ≤ 60 + sizes (map array_pieces c.arrays ++ (p1 ++ (p2 ++ p3))) = head_size c (map array_pieces c.arrays ++ (p1 ++ (p2 ++ p3))) in
    let e0 = sizes-append (map array_pieces c.arrays) (p1 ++ (p2 ++ p3)) in
    let e1 = sizes-append p1 (p2 ++ p3) in
    let e2 = sizes-append p2 p3 in
    let e3 = sizes-append (prologue_lines c.prologue) (map thread_pieces c.threads) in
    let a = arrays_size c.arrays in
    let b = procedure_size c.arrays directives.Push c.push in
    let d = procedure_size c.arrays directives.Pop c.pop in
    let f = prologue_size c.prologue in
    let g = threads_size c.threads in
    omega (arith, fits, head, e0, e1, e2, e3, a, b, d, f, g, s.few_arrays, s.few_words, s.few_instructions, s.few_calls, s.few_threads)
