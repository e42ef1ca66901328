-- The lines of a client, read one after the other.
use Rattle.std.proofs.Common.{◌≡◌, ℕ, suc, ◌+◌, ◌<◌, ◌≤◌, Bool, true, false, cond, List, [], ◌∷◌, ◌++◌, length, map, Option, Some, None, Ok, refl, sym, ap, subst, ◌∙◌, append_assoc, arith}
use Rattle.std.specs.Prelude.{◌&&◌, ◌||◌, nat_lt, nat_le, is_none, unwrap_or}
use Rattle.std.specs.List.{list_all, list_any}
use Rattle.std.specs.Str.{bytes_eq}
use Rattle.std.proofs.lemmas.Bool.{and_parts, leb-true, le-leb}
use Rattle.std.proofs.lemmas.Bool.Decides.{nat_tests}
use Rattle.std.proofs.lemmas.List.{append-nil, length-append}
use Rattle.tso_line.specs.declared.instruction.Instruction.{Instruction}
use Rattle.tso_line.specs.declared.instruction.Instruction.TheVariants as instructions
use Rattle.tso_line.specs.declared.instruction.Address.{Address}
use Rattle.tso_line.specs.Instructions.{renamed, label_of, address_of}
use Rattle.tso_line.specs.Lines.{Name, Line, capacity, mode, array, end, label, instruction}
use Rattle.tso_prog.specs.declared.client.Array.{Array}
use Rattle.tso_prog.specs.declared.draft.Part.TheVariants as parts
use Rattle.tso_prog.specs.declared.fault.Code.{Code}
use Rattle.tso_prog.specs.Clients.{ClientOf}
use Rattle.tso_prog.specs.Contents.{TargetOf, StepOf, BodyOf, Content}
use Rattle.tso_prog.specs.Faults.{repeats, lacks_array, passes_limit, fault_at, lacks_at, long_label}
use Rattle.tso_prog.specs.After.{after, step, numbered}
use Rattle.tso_prog.specs.Limits.{are_distinct, has_array_below, has_target_within, is_short_name}
use Rattle.tso_prog.specs.Program.{◌>>=◌, next, Numbered, read_from}
use Rattle.tso_prog.specs.Start.{start}
use Rattle.tso_print.specs.Layout.{label_name, is_jumped_to}
use Rattle.tso_print.proofs.Placing.{numbered_from}
use Rattle.tso_print.proofs.Saying.{named, instruction_said}
use Rattle.tso_print.proofs.Formed.{label_short}
use Rattle.tso_print.proofs.Naming.{nowhere, distinct_before, array_found, label_at, Before, before_more, before_push, before_none}

-- ---- one line after the other

-- the lines are read from here without a fault, and what they make passes
pub record Reads (c : Content) (n : ℕ) (ls : List Line) (good : Content → Type 0) : Type 0 where
  pub content : Content
  pub reads : read_from c (numbered_from n ls) ≡ Ok content
  pub passes : good content

pub reads_none : (c : Content) (n : ℕ) (good : Content → Type 0) → good c → Reads c n [] good
unfolding read_from
reads_none c n good h = record { content = c; reads = refl; passes = h }

pub reads_line : (c : Content) (n : ℕ) (l : Line) (ls : List Line) (good : Content → Type 0) → fault_at c l ≡ None → Reads (after c n l) (n + 1) ls good → Reads c n (l ∷ ls) good
unfolding read_from
reads_line c n l ls good e r =
    let line : Numbered = record { number = n; line = l } in
    record { content = r.content; reads = ap (λ (o : Option Code). next c line o >>= λ d. read_from d (numbered_from (n + 1) ls)) e ∙ r.reads; passes = r.passes }

pub too_few : (a b : ℕ) → a < b → nat_le b a ≡ false
too_few a b lt = grind (arith, nat_tests)

pub not_over : (a b : ℕ) → b ≤ a → nat_lt a b ≡ false
not_over a b le = grind (arith, nat_tests)

-- ---- the head and the arrays

abbrev empty : BodyOf
empty = record { labels = []; steps = [] }

-- the head and these arrays are read
abbrev pub at_arrays : ClientOf → List Array → ℕ → Content
at_arrays c arrays words = record {
  part = parts.Arrays;
  capacity = c.capacity;
  mode = c.mode;
  arrays = arrays;
  words = words;
  push = empty;
  pop = empty;
  prologue = [];
  threads = [];
  calls = 0;
}

pub head_reads : (c : ClientOf) (n : ℕ) (ls : List Line) (good : Content → Type 0) → ((m : ℕ) → Reads (at_arrays c [] 0) m ls good) → Reads start n (capacity c.capacity ∷ mode c.mode ∷ ls) good
unfolding fault_at repeats lacks_array passes_limit
head_reads c n ls good r =
    reads_line start n (capacity c.capacity) (mode c.mode ∷ ls) good refl (reads_line (after start n (capacity c.capacity)) (n + 1) (mode c.mode) ls good refl (r (n + 1 + 1)))

array_clean : (c : ClientOf) (arrays : List Array) (words : ℕ) (a : Array) → list_any (λ (b : Array). bytes_eq b.name a.name) arrays ≡ false → length arrays < 16 → words + length a.words ≤ 256 → length a.name ≤ 32 → fault_at (at_arrays c arrays words) (array a.name a.words) ≡ None
unfolding fault_at repeats lacks_array passes_limit
array_clean c arrays words a new few fits short =
    let e6 = nowhere (λ (b : Array). bytes_eq b.name a.name) arrays new in
    let a9 = too_few (length arrays) 16 few in
    let b9 = not_over 256 (words + length a.words) fits in
    let c9 = not_over 32 (length a.name) short in
    rw (e6, a9, b9, c9) refl

abbrev pub array_said : Array → Line
array_said a = array a.name a.words

any_named : (arrays : List Array) (n : Name) → list_any (λ (y : Name). bytes_eq y n) (map (λ (a : Array). a.name) arrays) ≡ list_any (λ (b : Array). bytes_eq b.name n) arrays
any_named [] n = refl
any_named (a ∷ more) n = ap (λ (b : Bool). bytes_eq a.name n || b) (any_named more n)

names_append : (xs ys : List Array) → map (λ (a : Array). a.name) (xs ++ ys) ≡ map (λ (a : Array). a.name) xs ++ map (λ (a : Array). a.name) ys
names_append [] ys = refl
names_append (x ∷ xs) ys = ap (λ (ns : List Name). x.name ∷ ns) (names_append xs ys)

abbrev pub words_in : List Array → ℕ
words_in [] = 0
words_in (a ∷ more) = length a.words + words_in more

pub arrays_read : (c : ClientOf) (done rest all : List Array) (words total n : ℕ) (ls : List Line) (good : Content → Type 0) → done ++ rest ≡ all → words + words_in rest ≡ total → are_distinct (map (λ (a : Array). a.name) all) ≡ true → length all ≤ 16 → total ≤ 256
    → list_all (λ (a : Array). is_short_name a.name) rest ≡ true → ((m : ℕ) → Reads (at_arrays c all total) m ls good) → Reads (at_arrays c done words) n (map array_said rest ++ ls) good
arrays_read c done [] all words total n ls good e t distinct few fits short k =
    let same : done ≡ all = sym (append-nil done) ∙ e in
    let sum : words ≡ total = omega (arith, t) in
    subst (λ (a : List Array). Reads (at_arrays c a words) n ls good) (sym same) (subst (λ (w : ℕ). Reads (at_arrays c all w) n ls good) (sym sum) (k n))
arrays_read c done (a ∷ rest) all words total n ls good e t distinct few fits short k =
    let s = and_parts (is_short_name a.name) (list_all (λ (b : Array). is_short_name b.name) rest) short in
    let names : map (λ (b : Array). b.name) all ≡ map (λ (b : Array). b.name) done ++ a.name ∷ map (λ (b : Array). b.name) rest = sym (ap (map (λ (b : Array). b.name)) e) ∙ names_append done (a ∷ rest) in
    let d : are_distinct (map (λ (b : Array). b.name) done ++ a.name ∷ map (λ (b : Array). b.name) rest) ≡ true = sym (ap are_distinct names) ∙ distinct in
    let new : list_any (λ (b : Array). bytes_eq b.name a.name) done ≡ false = sym (any_named done a.name) ∙ distinct_before (map (λ (b : Array). b.name) done) a.name (map (λ (b : Array). b.name) rest) d in
    let len : length done + suc (length rest) ≡ length all = sym (length-append done (a ∷ rest)) ∙ ap length e in
    let short_name : length a.name ≤ 32 = leb-true (length a.name) 32 (and_parts _ (nat_le (length a.name) 32) s.0).1 in
    reads_line (at_arrays c done words) n (array_said a) (map array_said rest ++ ls) good (array_clean c done words a new (omega (arith, len, few)) (omega (arith, t, fits)) short_name)
    (arrays_read c (done ++ a ∷ []) rest all (words + length a.words) total (n + 1) ls good (append_assoc done (a ∷ []) rest ∙ e) (omega (arith, t)) distinct few fits s.1 k)

-- ---- procedures

-- in push, or else in pop, of which so much is read
abbrev pub at_body : Bool → Content → BodyOf → Content
at_body true c b = record c { part = parts.Push; push = b }
at_body false c b = record c { part = parts.Pop; pop = b }

-- how many instructions the other procedure has
abbrev pub others : Bool → Content → ℕ
others true c = length c.pop.steps
others false c = length c.push.steps

abbrev pub body : List TargetOf → List StepOf → BodyOf
body labels steps = record { labels = labels; steps = steps }

label_clean : (w : Bool) (c : Content) (b : BodyOf) (n : Name) → list_any (λ (l : TargetOf). bytes_eq l.name n) b.labels ≡ false → length n ≤ 32 → fault_at (at_body w c b) (label n) ≡ None
unfolding fault_at repeats lacks_array passes_limit
label_clean true c b n new short = let e9 = not_over 32 (length n) short in rw (new, e9) refl
label_clean false c b n new short = let e9 = not_over 32 (length n) short in rw (new, e9) refl

known_in : (w : Bool) (c : Content) (b : BodyOf) (i : Instruction Name Name) → lacks_at c (address_of i) ≡ false → lacks_at (at_body w c b) (address_of i) ≡ false
known_in true c b i e = by (address_of i) e
  where
    by : (o : Option (Address Name)) → lacks_at c o ≡ false → lacks_at (at_body true c b) o ≡ false
    by None e = refl
    by (Some a) e = e
known_in false c b i e = by (address_of i) e
  where
    by : (o : Option (Address Name)) → lacks_at c o ≡ false → lacks_at (at_body false c b) o ≡ false
    by None e = refl
    by (Some a) e = e

step_clean : (w : Bool) (c : Content) (b : BodyOf) (i : Instruction Name Name) → lacks_at c (address_of i) ≡ false → long_label (label_of i) ≡ false → length b.steps + others w c < 256 → fault_at (at_body w c b) (instruction i false) ≡ None
unfolding fault_at repeats lacks_array passes_limit
step_clean true c b i known short few =
    let e9 = too_few (length b.steps + length c.pop.steps) 256 few in
    rw (known_in true c b i known, e9, short) refl
step_clean false c b i known short few =
    let e9 = too_few (length c.push.steps + length b.steps) 256 (omega (arith, few)) in
    rw (known_in false c b i known, e9, short) refl

pub end_clean : (w : Bool) (c : Content) (b : BodyOf) → 0 < length b.steps → fault_at (at_body w c b) end ≡ None
unfolding fault_at repeats lacks_array passes_limit
end_clean true c b some = let e : nat_lt 0 (length b.steps) ≡ true = le-leb 1 (length b.steps) some in rw e refl
end_clean false c b some = let e : nat_lt 0 (length b.steps) ≡ true = le-leb 1 (length b.steps) some in rw e refl

-- ---- an instruction with its names

known : (c : Content) (i : Instruction ℕ ℕ) → are_distinct (map (λ (a : Array). a.name) c.arrays) ≡ true → has_array_below (length c.arrays) i ≡ true → lacks_at c (address_of (named c.arrays i)) ≡ false
known c (instructions.Move to from) d e = refl
known c (instructions.Load to from) d e = ap is_none (array_found c.arrays from.array (leb-true (suc from.array) (length c.arrays) e) d)
known c (instructions.Store to from) d e = ap is_none (array_found c.arrays to.array (leb-true (suc to.array) (length c.arrays) e) d)
known c (instructions.Compute operation to from) d e = refl
known c (instructions.Compare comparison left right) d e = refl
known c (instructions.Increment to) d e = refl
known c (instructions.Decrement to) d e = refl
known c (instructions.Jump when target bound) d e = refl
known c (instructions.Assert condition) d e = refl
known c (instructions.Locked operation cell r) d e = ap is_none (array_found c.arrays cell.array (leb-true (suc cell.array) (length c.arrays) e) d)
known c instructions.Fence d e = refl
known c instructions.Nop d e = refl
known c instructions.Pause d e = refl
known c instructions.Return d e = refl

-- the instruction with its label as a name
abbrev pub labelled_by : Instruction ℕ ℕ → Instruction ℕ Name
labelled_by i = renamed (λ (a : ℕ). a) label_name i

abbrev at_array : ℕ → Address ℕ → Address ℕ
at_array k cell = record cell { array = k }

numbered_is : (c : Content) (i : Instruction ℕ ℕ) → are_distinct (map (λ (a : Array). a.name) c.arrays) ≡ true → has_array_below (length c.arrays) i ≡ true → numbered c (named c.arrays i) ≡ labelled_by i
numbered_is c (instructions.Move to from) d e = refl
numbered_is c (instructions.Load to from) d e = ap (λ (o : Option ℕ). instructions.Load to (at_array (unwrap_or o 0) from)) (array_found c.arrays from.array (leb-true (suc from.array) (length c.arrays) e) d)
numbered_is c (instructions.Store to from) d e = ap (λ (o : Option ℕ). instructions.Store (at_array (unwrap_or o 0) to) from) (array_found c.arrays to.array (leb-true (suc to.array) (length c.arrays) e) d)
numbered_is c (instructions.Compute operation to from) d e = refl
numbered_is c (instructions.Compare comparison left right) d e = refl
numbered_is c (instructions.Increment to) d e = refl
numbered_is c (instructions.Decrement to) d e = refl
numbered_is c (instructions.Jump when target bound) d e = refl
numbered_is c (instructions.Assert condition) d e = refl
numbered_is c (instructions.Locked operation cell r) d e = ap (λ (o : Option ℕ). instructions.Locked operation (at_array (unwrap_or o 0) cell) r) (array_found c.arrays cell.array (leb-true (suc cell.array) (length c.arrays) e) d)
numbered_is c instructions.Fence d e = refl
numbered_is c instructions.Nop d e = refl
numbered_is c instructions.Pause d e = refl
numbered_is c instructions.Return d e = refl

-- a target within a procedure of at most 256 instructions
name_fits : (n : ℕ) → n ≤ 256 → length (label_name n) ≤ 32
name_fits n le = leb-true (length (label_name n)) 32 (and_parts _ (nat_le (length (label_name n)) 32) (label_short n le)).1

short_label : (arrays : List Array) (len : ℕ) (i : Instruction ℕ ℕ) → len ≤ 256 → has_target_within len i ≡ true → long_label (label_of (named arrays i)) ≡ false
short_label arrays len (instructions.Move to from) le e = refl
short_label arrays len (instructions.Load to from) le e = refl
short_label arrays len (instructions.Store to from) le e = refl
short_label arrays len (instructions.Compute operation to from) le e = refl
short_label arrays len (instructions.Compare comparison left right) le e = refl
short_label arrays len (instructions.Increment to) le e = refl
short_label arrays len (instructions.Decrement to) le e = refl
short_label arrays len (instructions.Jump when target bound) le e =
    let near : target ≤ len = leb-true target len e in
    not_over 32 (length (label_name target)) (name_fits target (omega (arith, near, le)))
short_label arrays len (instructions.Assert condition) le e = refl
short_label arrays len (instructions.Locked operation cell r) le e = refl
short_label arrays len instructions.Fence le e = refl
short_label arrays len instructions.Nop le e = refl
short_label arrays len instructions.Pause le e = refl
short_label arrays len instructions.Return le e = refl

-- ---- bodies

abbrev pub label_said : List (Instruction ℕ ℕ) → ℕ → List Line
label_said steps at = cond (is_jumped_to steps at) (label (label_name at) ∷ []) []

-- the lines of the last instructions, which begin at this place
abbrev pub body_said : List Array → List (Instruction ℕ ℕ) → ℕ → List (Instruction ℕ ℕ) → List Line
body_said arrays steps at [] = label_said steps at
body_said arrays steps at (i ∷ is) = label_said steps at ++ instruction_said arrays i ∷ body_said arrays steps (at + 1) is

abbrev pub label_made : List (Instruction ℕ ℕ) → ℕ → List TargetOf
label_made steps at = cond (is_jumped_to steps at) (label_at at ∷ []) []

-- the labels among them
abbrev pub labels_from : List (Instruction ℕ ℕ) → ℕ → List (Instruction ℕ ℕ) → List TargetOf
labels_from steps at [] = label_made steps at
labels_from steps at (i ∷ is) = label_made steps at ++ labels_from steps (at + 1) is

label_after : (w : Bool) (c : Content) (labels : List TargetOf) (ss : List StepOf) (n : ℕ) (m : Name) → after (at_body w c (body labels ss)) n (label m) ≡ at_body w c (body (labels ++ (record { name = m; at = length ss }) ∷ []) ss)
label_after true c labels ss n m = refl
label_after false c labels ss n m = refl

step_after : (w : Bool) (c : Content) (labels : List TargetOf) (ss : List StepOf) (n : ℕ) (i : Instruction Name Name) → after (at_body w c (body labels ss)) n (instruction i false) ≡ at_body w c (body labels (ss ++ step n (numbered c i) ∷ []))
step_after true c labels ss n i = refl
step_after false c labels ss n i = refl

label_reads : (b : Bool) (w : Bool) (c : Content) (labels : List TargetOf) (ss : List StepOf) (at n : ℕ) (ls : List Line) (good : Content → Type 0) → Before at labels → at ≤ 256 → length ss ≡ at
    → ((m : ℕ) → Reads (at_body w c (body (labels ++ cond b (label_at at ∷ []) []) ss)) m ls good) → Reads (at_body w c (body labels ss)) n (cond b (label (label_name at) ∷ []) [] ++ ls) good
label_reads true w c labels ss at n ls good older few len k =
    let here : after (at_body w c (body labels ss)) n (label (label_name at)) ≡ at_body w c (body (labels ++ label_at at ∷ []) ss) = label_after w c labels ss n (label_name at) ∙ ap (λ (j : ℕ). at_body w c (body (labels ++ (record { name = label_name at; at = j }) ∷ []) ss)) len in
    reads_line (at_body w c (body labels ss)) n (label (label_name at)) ls good (label_clean w c (body labels ss) (label_name at) (before_none at at labels (omega arith) few older) (name_fits at few))
    (subst (λ (d : Content). Reads d (n + 1) ls good) (sym here) (k (n + 1)))
label_reads false w c labels ss at n ls good older few len k =
    subst (λ (xs : List TargetOf). Reads (at_body w c (body xs ss)) n ls good) (append-nil labels) (k n)

label_before : (b : Bool) (at : ℕ) (labels : List TargetOf) → Before at labels → Before (at + 1) (labels ++ cond b (label_at at ∷ []) [])
label_before true at labels h = before_push at labels h
label_before false at labels h = subst (Before (at + 1)) (sym (append-nil labels)) (before_more at labels h)

-- what each instruction of a body has
abbrev pub is_placed : ℕ → ℕ → Instruction ℕ ℕ → Bool
is_placed arrays len i = has_array_below arrays i && has_target_within len i

one_step : (w : Bool) (c : Content) (i : Instruction ℕ ℕ) (len at : ℕ) (made : List TargetOf) (ss : List StepOf) (m : ℕ) (rest : List Line) (good : Content → Type 0) → are_distinct (map (λ (a : Array). a.name) c.arrays) ≡ true
    → is_placed (length c.arrays) len i ≡ true → len ≤ 256 → at + others w c < 256 → length ss ≡ at → ((s : StepOf) → s.instruction ≡ labelled_by i → Reads (at_body w c (body made (ss ++ s ∷ []))) (m + 1) rest good)
    → Reads (at_body w c (body made ss)) m (instruction_said c.arrays i ∷ rest) good
one_step w c i len at made ss m rest good distinct placed small few l k =
    let q = and_parts (has_array_below (length c.arrays) i) (has_target_within len i) placed in
    reads_line (at_body w c (body made ss)) m (instruction_said c.arrays i) rest good (step_clean w c (body made ss) (named c.arrays i) (known c i distinct q.0) (short_label c.arrays len i small q.1) (omega (arith, few, l)))
    (subst (λ (d : Content). Reads d (m + 1) rest good) (sym (step_after w c made ss m (named c.arrays i))) (k (step m (numbered c (named c.arrays i))) (numbered_is c i distinct q.0)))

pub body_reads : (w : Bool) (c : Content) (steps is : List (Instruction ℕ ℕ)) (len at : ℕ) (labels : List TargetOf) (ss : List StepOf) (n : ℕ) (ls : List Line) (good : Content → Type 0) → are_distinct (map (λ (a : Array). a.name) c.arrays) ≡ true
    → list_all (is_placed (length c.arrays) len) is ≡ true → len ≤ 256 → at + length is + others w c ≤ 256 → Before at labels → length ss ≡ at
    → ((m : ℕ) (ts : List StepOf) → map (λ (s : StepOf). s.instruction) ts ≡ map labelled_by is → Reads (at_body w c (body (labels ++ labels_from steps at is) (ss ++ ts))) m ls good)
    → Reads (at_body w c (body labels ss)) n (body_said c.arrays steps at is ++ ls) good
body_reads w c steps [] len at labels ss n ls good distinct placed small few older l k =
    label_reads (is_jumped_to steps at) w c labels ss at n ls good older (omega (arith, few)) l
    (λ m. subst (λ (ts : List StepOf). Reads (at_body w c (body (labels ++ label_made steps at) ts)) m ls good) (append-nil ss) (k m [] refl))
body_reads w c steps (i ∷ is) len at labels ss n ls good distinct placed small few older l k =
    let p = and_parts (is_placed (length c.arrays) len i) (list_all (is_placed (length c.arrays) len) is) placed in
    let made : List TargetOf = labels ++ label_made steps at in
    let line : Line = instruction_said c.arrays i in
    let rest : List Line = body_said c.arrays steps (at + 1) is ++ ls in
    let regroup : body_said c.arrays steps at (i ∷ is) ++ ls ≡ label_said steps at ++ (line ∷ rest) = append_assoc (label_said steps at) (line ∷ body_said c.arrays steps (at + 1) is) ls in
    subst (λ (all : List Line). Reads (at_body w c (body labels ss)) n all good) (sym regroup)
    (label_reads (is_jumped_to steps at) w c labels ss at n (line ∷ rest) good older (omega (arith, few)) l
    (λ m. one_step w c i len at made ss m rest good distinct p.0 small (omega (arith, few)) l
    (λ s e. body_reads w c steps is len (at + 1) made (ss ++ s ∷ []) (m + 1) ls good distinct p.1 small (omega (arith, few)) (label_before (is_jumped_to steps at) at labels older) (length-append ss (s ∷ []) ∙ (omega (arith, l)))
    (λ o ts f. subst (λ (xs : List TargetOf). Reads (at_body w c (body xs ((ss ++ s ∷ []) ++ ts))) o ls good) (sym (append_assoc labels (label_made steps at) (labels_from steps (at + 1) is)))
    (subst (λ (us : List StepOf). Reads (at_body w c (body (labels ++ labels_from steps at (i ∷ is)) us)) o ls good) (sym (append_assoc ss (s ∷ []) ts)) (k o (s ∷ ts) (λ j. e j ∷ f j)))))))
