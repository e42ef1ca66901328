-- What is printed in pieces, one after the other.
use Rattle.std.proofs.Common.{◌≡◌, ℕ, ◌<◌, length, get_or, List, [], ◌∷◌, ◌++◌, replicate, refl, sym, ap, ◌∙◌, append_assoc, append-nil, map, arith}
use Rattle.std.specs.Prelude.{codes}
use Rattle.std.specs.Fmt.{decimal}
use Rattle.std.proofs.lemmas.Fmt.{decimal_digit}
use Rattle.std.proofs.lemmas.List.{get_or_default}
use Rattle.tso_prog.specs.declared.client.Array.{Array}
use Rattle.tso_prog.specs.Clients.{ClientOf}
use Rattle.tso_line.specs.declared.instruction.Address.{Address}
use Rattle.tso_line.specs.declared.instruction.Register.{Register}
use Rattle.tso_line.specs.declared.instruction.Source.{Source}
use Rattle.tso_line.specs.declared.instruction.LockedOperation.{LockedOperation}
use Rattle.tso_line.specs.declared.instruction.Instruction.TheVariants.{Store, Locked}
use Rattle.tso_print.specs.Layout.{head_lines, array_pieces, body_lines, prologue_lines, thread_pieces, printed, array_name, source_pieces, locked_pieces, instruction_pieces, index_pieces, offset_pieces, cell_pieces}
use Rattle.tso_line.specs.Vocabulary.{register_word}
use Rattle.tso_print.specs.Pieces.{Piece, spelled, text_of}

pub spelled-append : (ps qs : List Piece) → spelled (ps ++ qs) ≡ spelled ps ++ spelled qs
spelled-append [] qs = refl
spelled-append (p ∷ ps) qs = rw (spelled-append ps qs, append_assoc, append_assoc) refl

pub text_of-append : (ls ms : List (List Piece)) → text_of (ls ++ ms) ≡ text_of ls ++ text_of ms
text_of-append [] ms = refl
text_of-append (l ∷ ls) ms = rw (text_of-append ls ms, append_assoc) refl

pub ruleset joins = (append_assoc, spelled-append, text_of-append)

-- the scale of an index
pub eight : decimal 8 ≡ 56 ∷ []
eight = decimal_digit 8 (omega arith)

-- ---- arrays

-- whatever stands for an array that is not there
pub named_at : (arrays : List Array) (n : ℕ) (d : Array) → n < length arrays → (get_or arrays n d).name ≡ array_name arrays n
named_at arrays n d lt = ap (λ (x : Array). x.name) (get_or_default arrays n d (record { name = []; words = [] }) lt)

-- ---- operands

pub cell_joins : (arrays : List Array) (cell : Address ℕ) (t0 t1 t2 t3 t4 t5 n : List ℕ) → t1 ≡ t0 ++ codes " qword ptr [" → n ≡ array_name arrays cell.array → t2 ≡ t1 ++ n
    → t3 ≡ t2 ++ spelled (index_pieces cell.index) → t4 ≡ t3 ++ spelled (offset_pieces cell.offset) → t5 ≡ t4 ++ codes "]" → t5 ≡ t0 ++ spelled (cell_pieces arrays cell)
cell_joins arrays cell t0 t1 t2 t3 t4 t5 n e1 en e2 e3 e4 e5 = rw (e5, e4, e3, e2, e1, en) (simp (append_assoc, spelled-append))

pub store_joins : (arrays : List Array) (to : Address ℕ) (from : Source) (t0 t1 t2 t3 t4 : List ℕ) → t1 ≡ t0 ++ codes "  mov" → t2 ≡ t1 ++ spelled (cell_pieces arrays to) → t3 ≡ t2 ++ codes "," → t4 ≡ t3 ++ spelled (source_pieces from)
    → t4 ≡ t0 ++ spelled (instruction_pieces arrays (Store to from))
store_joins arrays to from t0 t1 t2 t3 t4 e1 e2 e3 e4 = rw (e4, e3, e2, e1) (simp (append_assoc, spelled-append))

pub locked_joins : (arrays : List Array) (operation : LockedOperation) (cell : Address ℕ) (register : Register) (t0 t1 t2 t3 t4 : List ℕ) → t1 ≡ t0 ++ spelled (locked_pieces operation) → t2 ≡ t1 ++ spelled (cell_pieces arrays cell) → t3 ≡ t2 ++ codes ", "
    → t4 ≡ t3 ++ register_word register → t4 ≡ t0 ++ spelled (instruction_pieces arrays (Locked operation cell register))
locked_joins arrays operation cell register t0 t1 t2 t3 t4 e1 e2 e3 e4 = rw (e4, e3, e2, e1) (simp (append_assoc, spelled-append, append-nil))

-- ---- clients

pub client_joins : (c : ClientOf) (t0 t1 t2 t3 t4 t5 t6 : List ℕ) → t0 ≡ [] → t1 ≡ t0 ++ text_of (head_lines c.capacity c.mode) → t2 ≡ t1 ++ text_of (map array_pieces c.arrays)
    → t3 ≡ t2 ++ (codes ".push" ++ (10 ∷ (text_of (body_lines c.arrays c.push 0 c.push) ++ codes ".end\n")))
    → t4 ≡ t3 ++ (codes ".pop" ++ (10 ∷ (text_of (body_lines c.arrays c.pop 0 c.pop) ++ codes ".end\n"))) → t5 ≡ t4 ++ text_of (prologue_lines c.prologue) → t6 ≡ t5 ++ text_of (map thread_pieces c.threads)
    → t6 ≡ printed c
unfolding printed
client_joins c t0 t1 t2 t3 t4 t5 t6 e0 e1 e2 e3 e4 e5 e6 = rw (e6, e5, e4, e3, e2, e1, e0) (simp (append_assoc, text_of-append))

-- ---- procedures

pub procedure_joins : (t0 t1 t2 t3 t4 directive body : List ℕ) → t1 ≡ t0 ++ directive → t2 ≡ t1 ++ codes "\n" → t3 ≡ t2 ++ body → t4 ≡ t3 ++ codes ".end\n" → t4 ≡ t0 ++ (directive ++ (codes "\n" ++ (body ++ codes ".end\n")))
procedure_joins t0 t1 t2 t3 t4 directive body e1 e2 e3 e4 = rw (e4, e3, e2, e1) (simp append_assoc)
