-- The lines of a printed client say what they should.
use Rattle.std.proofs.Common.{◌≡◌, ℕ, suc, ◌+◌, ◌<◌, ◌≤◌, Bool, true, false, cond, List, [], ◌∷◌, ◌++◌, length, map, refl, arith}
use Rattle.std.specs.Prelude.{nat_le}
use Rattle.std.specs.List.{list_all}
use Rattle.std.proofs.lemmas.Bool.{and_parts, leb-true, le-leb}
use Rattle.tso_line.specs.declared.instruction.CallKind.{CallKind}
use Rattle.tso_line.specs.declared.instruction.LockedOperation.TheVariants as locked
use Rattle.tso_line.specs.declared.instruction.Instruction.{Instruction}
use Rattle.tso_line.specs.declared.instruction.Instruction.TheVariants as instructions
use Rattle.tso_line.specs.declared.lexeme.Directive.TheVariants as directives
use Rattle.tso_line.specs.Lines.{Line, push, pop, end, label, thread}
use Rattle.tso_line.specs.Proper.{is_in_range, is_word, is_call, are_calls}
use Rattle.tso_prog.specs.declared.client.Array.{Array}
use Rattle.tso_prog.specs.Clients.{ClientOf}
use Rattle.tso_prog.specs.Limits.{are_arrays_below, are_targets_within, are_in_range, are_words, has_array_below, has_target_within, is_short_name, is_prologue, is_thread}
use Rattle.tso_print.specs.Signs.{Sign, directive, name, colon}
use Rattle.tso_print.specs.Pieces.{Piece, tight}
use Rattle.tso_print.specs.Layout.{label_name, is_jumped_to, label_lines, instruction_pieces, body_lines, array_pieces, prologue_lines, thread_pieces, directive_line, procedure_lines, client_lines}
use Rattle.tso_print.proofs.Placing.{IsLine, AreLines, AreLines-append}
use Rattle.tso_print.proofs.Saying.{instruction_said, instruction_says}
use Rattle.tso_print.proofs.Others.{capacity_says, mode_says, push_says, pop_says, end_says, label_says, array_says, before_says, thread_says}
use Rattle.tso_print.proofs.Formed.{is_named, instruction_formed, capacity_formed, mode_formed, label_formed, array_formed, before_formed, thread_formed}
use Rattle.tso_print.proofs.Naming.{name_short}
use Rattle.tso_print.proofs.Reading.{array_said, words_in, body_said, label_said}
use Rattle.tso_print.proofs.Whole.{IsSound, prologue_said, procedure_said, lines_said}

-- ---- arrays

array_line : (a : Array) → is_short_name a.name ≡ true → are_words a.words ≡ true → length a.words ≤ 256 → IsLine (array_pieces a) (array_said a)
array_line a short words few =
    let w = and_parts (nat_le 1 (length a.words)) (list_all is_word a.words) words in
    record { some = omega arith; pieces = array_formed a short few w.1; says = array_says a (leb-true 1 (length a.words) w.0) few w.1 }

arrays_are : (arrays : List Array) → list_all (λ (a : Array). is_short_name a.name) arrays ≡ true → list_all (λ (a : Array). are_words a.words) arrays ≡ true → words_in arrays ≤ 256 → AreLines (map array_pieces arrays) (map array_said arrays)
arrays_are [] short words few = tt
arrays_are (a ∷ more) short words few =
    let s = and_parts (is_short_name a.name) (list_all (λ (b : Array). is_short_name b.name) more) short in
    let w = and_parts (are_words a.words) (list_all (λ (b : Array). are_words b.words) more) words in
    (array_line a s.0 w.0 (omega (arith, few)), arrays_are more s.1 w.1 (omega (arith, few)))

-- ---- procedures

named_well : (arrays : List Array) (len : ℕ) (i : Instruction ℕ ℕ) → list_all (λ (a : Array). is_short_name a.name) arrays ≡ true → has_array_below (length arrays) i ≡ true → has_target_within len i ≡ true → len ≤ 256 → is_named arrays i ≡ true
named_well arrays len (instructions.Move to from) s e f le = refl
named_well arrays len (instructions.Load to from) s e f le = name_short arrays from.array (leb-true (suc from.array) (length arrays) e) s
named_well arrays len (instructions.Store to from) s e f le = name_short arrays to.array (leb-true (suc to.array) (length arrays) e) s
named_well arrays len (instructions.Compute operation to from) s e f le = refl
named_well arrays len (instructions.Compare comparison left right) s e f le = refl
named_well arrays len (instructions.Increment to) s e f le = refl
named_well arrays len (instructions.Decrement to) s e f le = refl
named_well arrays len (instructions.Jump when target bound) s e f le = let near : target ≤ len = leb-true target len f in le-leb target 256 (omega (arith, near, le))
named_well arrays len (instructions.Assert condition) s e f le = refl
named_well arrays len (instructions.Locked operation cell r) s e f le = name_short arrays cell.array (leb-true (suc cell.array) (length arrays) e) s
named_well arrays len instructions.Fence s e f le = refl
named_well arrays len instructions.Nop s e f le = refl
named_well arrays len instructions.Pause s e f le = refl
named_well arrays len instructions.Return s e f le = refl

some_pieces : (arrays : List Array) (i : Instruction ℕ ℕ) → 0 < length (instruction_pieces arrays i)
some_pieces arrays (instructions.Move to from) = omega arith
some_pieces arrays (instructions.Load to from) = omega arith
some_pieces arrays (instructions.Store to from) = omega arith
some_pieces arrays (instructions.Compute operation to from) = omega arith
some_pieces arrays (instructions.Compare comparison left right) = omega arith
some_pieces arrays (instructions.Increment to) = omega arith
some_pieces arrays (instructions.Decrement to) = omega arith
some_pieces arrays (instructions.Jump when target bound) = omega arith
some_pieces arrays (instructions.Assert condition) = omega arith
some_pieces arrays (instructions.Locked locked.Exchange cell r) = omega arith
some_pieces arrays (instructions.Locked locked.CompareExchange cell r) = omega arith
some_pieces arrays (instructions.Locked locked.ExchangeAdd cell r) = omega arith
some_pieces arrays instructions.Fence = omega arith
some_pieces arrays instructions.Nop = omega arith
some_pieces arrays instructions.Pause = omega arith
some_pieces arrays instructions.Return = omega arith

instruction_line : (arrays : List Array) (i : Instruction ℕ ℕ) → is_in_range i ≡ true → is_named arrays i ≡ true → IsLine (instruction_pieces arrays i) (instruction_said arrays i)
instruction_line arrays i e n = record { some = some_pieces arrays i; pieces = instruction_formed arrays i e n; says = instruction_says arrays i e }

label_are : (b : Bool) (at : ℕ) → at ≤ 256 → AreLines (cond b ((tight (name (label_name at)) ∷ tight colon ∷ []) ∷ []) []) (cond b (label (label_name at) ∷ []) [])
label_are true at few = (record { some = omega arith; pieces = label_formed at few; says = label_says at }, tt)
label_are false at few = tt

body_are : (arrays : List Array) (steps is : List (Instruction ℕ ℕ)) (len at : ℕ) → list_all (λ (a : Array). is_short_name a.name) arrays ≡ true → are_arrays_below (length arrays) is ≡ true → are_targets_within len is ≡ true → are_in_range is ≡ true → len ≤ 256 → at + length is ≤ 256
    → AreLines (body_lines arrays steps at is) (body_said arrays steps at is)
body_are arrays steps [] len at short below within ranges le few = label_are (is_jumped_to steps at) at (omega (arith, few))
body_are arrays steps (i ∷ is) len at short below within ranges le few =
    let a = and_parts (has_array_below (length arrays) i) (are_arrays_below (length arrays) is) below in
    let b = and_parts (has_target_within len i) (are_targets_within len is) within in
    let c = and_parts (is_in_range i) (are_in_range is) ranges in
    AreLines-append (label_lines steps at) (label_said steps at) (instruction_pieces arrays i ∷ body_lines arrays steps (at + 1) is) (instruction_said arrays i ∷ body_said arrays steps (at + 1) is) (label_are (is_jumped_to steps at) at (omega (arith, few)))
    (instruction_line arrays i c.0 (named_well arrays len i short a.0 b.0 le), body_are arrays steps is len (at + 1) short a.1 b.1 c.1 le (omega (arith, few)))

end_line : IsLine (directive_line (directive directives.End)) end
end_line = record { some = omega arith; pieces = refl; says = end_says }

procedure_are : (arrays : List Array) (sign : Sign) (opening : Line) (steps : List (Instruction ℕ ℕ)) → IsLine (directive_line sign) opening → list_all (λ (a : Array). is_short_name a.name) arrays ≡ true → are_arrays_below (length arrays) steps ≡ true → are_targets_within (length steps) steps ≡ true → are_in_range steps ≡ true
    → length steps ≤ 256 → AreLines (procedure_lines arrays sign steps) (procedure_said arrays opening steps)
procedure_are arrays sign opening steps first short below within ranges few =
    (first, AreLines-append (body_lines arrays steps 0 steps) (body_said arrays steps 0 steps) (directive_line (directive directives.End) ∷ []) (end ∷ []) (body_are arrays steps steps (length steps) 0 short below within ranges few (omega (arith, few))) (end_line, tt))

-- ---- calls

prologue_are : (cs : List CallKind) → is_prologue cs ≡ true → AreLines (prologue_lines cs) (prologue_said cs)
prologue_are [] e = tt
prologue_are (c ∷ cs) e =
    let a = and_parts (nat_le (length (c ∷ cs)) 4) (list_all is_call (c ∷ cs)) e in
    (record { some = omega arith; pieces = before_formed c cs a.1; says = before_says c cs a.1 }, tt)

thread_line : (cs : List CallKind) → is_thread cs ≡ true → IsLine (thread_pieces cs) (thread cs)
thread_line [] e = absurd cc
thread_line (c ∷ cs) e =
    let a = and_parts (are_calls (c ∷ cs)) (nat_le (length (c ∷ cs)) 4) e in
    let b = and_parts (nat_le 1 (length (c ∷ cs))) (list_all is_call (c ∷ cs)) a.0 in
    record { some = omega arith; pieces = thread_formed c cs b.1; says = thread_says c cs b.1 }

threads_are : (ts : List (List CallKind)) → list_all is_thread ts ≡ true → AreLines (map thread_pieces ts) (map thread ts)
threads_are [] e = tt
threads_are (t ∷ ts) e = let a = and_parts (is_thread t) (list_all is_thread ts) e in (thread_line t a.0, threads_are ts a.1)

-- ---- the whole

pub client_are : (c : ClientOf) → IsSound c → AreLines (client_lines c) (lines_said c)
client_are c s =
    let calls = AreLines-append (prologue_lines c.prologue) (prologue_said c.prologue) (map thread_pieces c.threads) (map thread c.threads) (prologue_are c.prologue s.short_prologue) (threads_are c.threads s.short_threads) in
    let pops = procedure_are c.arrays (directive directives.Pop) pop c.pop (record { some = omega arith; pieces = refl; says = pop_says }) s.short_names s.arrays_of_pop s.targets_of_pop s.pop_in_range (omega (arith, s.few_instructions)) in
    let pushes = procedure_are c.arrays (directive directives.Push) push c.push (record { some = omega arith; pieces = refl; says = push_says }) s.short_names s.arrays_of_push s.targets_of_push s.push_in_range (omega (arith, s.few_instructions)) in
    let p3 : List (List Piece) = prologue_lines c.prologue ++ map thread_pieces c.threads in
    let l3 : List Line = prologue_said c.prologue ++ map thread c.threads in
    let p2 : List (List Piece) = procedure_lines c.arrays (directive directives.Pop) c.pop in
    let l2 : List Line = procedure_said c.arrays pop c.pop in
    let p1 : List (List Piece) = procedure_lines c.arrays (directive directives.Push) c.push in
    let l1 : List Line = procedure_said c.arrays push c.push in
    let behind = AreLines-append p1 l1 (p2 ++ p3) (l2 ++ l3) pushes (AreLines-append p2 l2 p3 l3 pops calls) in
    let arrays = AreLines-append (map array_pieces c.arrays) (map array_said c.arrays) (p1 ++ (p2 ++ p3)) (l1 ++ (l2 ++ l3)) (arrays_are c.arrays s.short_names s.arrays_of_words s.few_words) behind in (
      record { some = omega arith; pieces = capacity_formed c.capacity s.small_capacity; says = capacity_says c.capacity s.some_capacity s.small_capacity },
      (record { some = omega arith; pieces = mode_formed c.mode; says = mode_says c.mode }, arrays),
    )
