-- The lines of a printed client are read, and make it.
use Rattle.std.proofs.Common.{◌≡◌, ℕ, suc, ◌+◌, ◌<◌, ◌≤◌, Bool, true, false, List, [], ◌∷◌, ◌++◌, length, map, None, Ok, refl, sym, ap, subst, ◌∙◌, append_assoc, arith}
use Rattle.std.specs.Prelude.{nat_lt, nat_le}
use Rattle.std.specs.List.{list_all}
use Rattle.std.proofs.lemmas.Bool.{and_parts, and_from, leb-true, le-leb}
use Rattle.std.proofs.lemmas.List.{append-nil, length-append, length-map}
use Rattle.tso_line.specs.declared.instruction.CallKind.{CallKind}
use Rattle.tso_line.specs.declared.instruction.Instruction.{Instruction}
use Rattle.tso_line.specs.declared.line.Kind.TheVariants as kinds
use Rattle.tso_line.specs.Lines.{Line, capacity, mode, push, pop, end, before, thread}
use Rattle.tso_line.specs.Proper.{is_call, are_calls}
use Rattle.tso_prog.specs.declared.client.Array.{Array}
use Rattle.tso_prog.specs.declared.draft.Part.{Part}
use Rattle.tso_prog.specs.declared.draft.Part.TheVariants as parts
use Rattle.tso_prog.specs.Clients.{ClientOf}
use Rattle.tso_prog.specs.Contents.{StepOf, BodyOf, Content}
use Rattle.tso_prog.specs.Faults.{may_stand, repeats, lacks_array, passes_limit, fault_at}
use Rattle.tso_prog.specs.After.{after}
use Rattle.tso_prog.specs.Finish.{labelled, client_or_fault}
use Rattle.tso_prog.specs.Limits.{are_arrays_below, are_targets_within, are_in_range, are_distinct, are_words, has_array_below, has_target_within, is_short_name, is_prologue, is_thread}
use Rattle.tso_prog.specs.Start.{start}
use Rattle.tso_print.proofs.Reading.{Reads, reads_none, reads_line, too_few, not_over, at_arrays, head_reads, array_said, words_in, arrays_read, at_body, others, body, end_clean, labelled_by, body_said, labels_from, is_placed, body_reads}
use Rattle.tso_print.proofs.Finishing.{all_found, all_labelled}

-- ---- what a client has

abbrev pub calls_in : List (List CallKind) → ℕ
calls_in [] = 0
calls_in (t ∷ ts) = length t + calls_in ts

-- what lets a program be written as a text and read again
pub record IsSound (c : ClientOf) : Type 0 where
  pub some_capacity : 1 ≤ c.capacity
  pub small_capacity : c.capacity ≤ 16
  pub few_arrays : length c.arrays ≤ 16
  pub few_words : words_in c.arrays ≤ 256
  pub short_names : list_all (λ (a : Array). is_short_name a.name) c.arrays ≡ true
  pub distinct_names : are_distinct (map (λ (a : Array). a.name) c.arrays) ≡ true
  pub arrays_of_words : list_all (λ (a : Array). are_words a.words) c.arrays ≡ true
  pub arrays_of_push : are_arrays_below (length c.arrays) c.push ≡ true
  pub arrays_of_pop : are_arrays_below (length c.arrays) c.pop ≡ true
  pub targets_of_push : are_targets_within (length c.push) c.push ≡ true
  pub targets_of_pop : are_targets_within (length c.pop) c.pop ≡ true
  pub push_in_range : are_in_range c.push ≡ true
  pub pop_in_range : are_in_range c.pop ≡ true
  pub some_push : 1 ≤ length c.push
  pub some_pop : 1 ≤ length c.pop
  pub few_instructions : length c.push + length c.pop ≤ 256
  pub short_prologue : is_prologue c.prologue ≡ true
  pub few_calls : length c.prologue + calls_in c.threads ≤ 12
  pub some_threads : 1 ≤ length c.threads
  pub few_threads : length c.threads ≤ 4
  pub short_threads : list_all is_thread c.threads ≡ true

-- ---- its lines

abbrev pub prologue_said : List CallKind → List Line
prologue_said [] = []
prologue_said (c ∷ cs) = before (c ∷ cs) ∷ []

abbrev pub procedure_said : List Array → Line → List (Instruction ℕ ℕ) → List Line
procedure_said arrays opening steps = opening ∷ (body_said arrays steps 0 steps ++ end ∷ [])

abbrev pub lines_said : ClientOf → List Line
lines_said c =
    capacity c.capacity ∷ mode c.mode ∷ (map array_said c.arrays ++ (procedure_said c.arrays push c.push ++ (procedure_said c.arrays pop c.pop ++ (prologue_said c.prologue ++ map thread c.threads))))

-- ---- calls

-- both procedures are read, and these calls
abbrev pub at_calls : Part → Content → List CallKind → List (List CallKind) → ℕ → Content
at_calls p d prologue threads calls = record d { part = p; prologue = prologue; threads = threads; calls = calls }

thread_clean : (p : Part) (d : Content) (prologue : List CallKind) (done : List (List CallKind)) (k : ℕ) (cs : List CallKind) → may_stand p kinds.Thread ≡ true → length done < 4 → length cs ≤ 4 → k + length cs ≤ 12
    → fault_at (at_calls p d prologue done k) (thread cs) ≡ None
unfolding fault_at repeats lacks_array passes_limit
thread_clean p d prologue done k cs place few short fits =
    let a = too_few (length done) 4 few in
    let b = not_over 4 (length cs) short in
    let e = not_over 12 (k + length cs) fits in
    rw (place, a, b, e) refl

thread_few : (cs : List CallKind) → is_thread cs ≡ true → length cs ≤ 4
thread_few cs e = leb-true (length cs) 4 (and_parts (are_calls cs) (nat_le (length cs) 4) e).1

threads_read : (p : Part) (d : Content) (prologue : List CallKind) (done rest all : List (List CallKind)) (k total n : ℕ) (good : Content → Type 0) → may_stand p kinds.Thread ≡ true → (rest ≡ [] → p ≡ parts.Threads) → done ++ rest ≡ all → k + calls_in rest ≡ total → length all ≤ 4 → total ≤ 12 → list_all is_thread rest ≡ true
    → good (at_calls parts.Threads d prologue all total) → Reads (at_calls p d prologue done k) n (map thread rest) good
threads_read p d prologue done [] all k total n good place is e t few fits short h =
    let same : all ≡ done = sym e ∙ append-nil done in
    let sum : total ≡ k = omega (arith, t) in
    let part : parts.Threads ≡ p = sym (is refl) in
    reads_none (at_calls p d prologue done k) n good (subst (λ (q : Part). good (at_calls q d prologue done k)) part (subst (λ (ts : List (List CallKind)). good (at_calls parts.Threads d prologue ts k)) same (subst (λ (m : ℕ). good (at_calls parts.Threads d prologue all m)) sum h)))
threads_read p d prologue done (cs ∷ rest) all k total n good place is e t few fits short h =
    let s = and_parts (is_thread cs) (list_all is_thread rest) short in
    let len : length done + suc (length rest) ≡ length all = sym (length-append done (cs ∷ rest)) ∙ ap length e in
    reads_line (at_calls p d prologue done k) n (thread cs) (map thread rest) good (thread_clean p d prologue done k cs place (omega (arith, len, few)) (thread_few cs s.0) (omega (arith, t, fits)))
    (threads_read parts.Threads d prologue (done ++ cs ∷ []) rest all (k + length cs) total (n + 1) good refl (λ _. refl) (append_assoc done (cs ∷ []) rest ∙ e) (omega (arith, t)) few fits s.1 h)

no_threads : (ts : List (List CallKind)) → 1 ≤ length ts → ts ≡ [] → ⊥
no_threads [] some e = absurd (omega (arith, some))
no_threads (t ∷ ts) some e = cc

before_clean : (d : Content) (cs : List CallKind) → length cs ≤ 4 → fault_at (at_calls parts.Prologue d [] [] 0) (before cs) ≡ None
unfolding fault_at repeats lacks_array passes_limit
before_clean d cs short =
    let a = not_over 4 (length cs) short in
    let b = not_over 12 (0 + length cs) (omega (arith, short)) in
    rw (a, b) refl

calls_read : (d : Content) (prologue : List CallKind) (threads : List (List CallKind)) (n : ℕ) (good : Content → Type 0) → is_prologue prologue ≡ true → length prologue + calls_in threads ≤ 12 → 1 ≤ length threads → length threads ≤ 4 → list_all is_thread threads ≡ true
    → good (at_calls parts.Threads d prologue threads (length prologue + calls_in threads)) → Reads (at_calls parts.Prologue d [] [] 0) n (prologue_said prologue ++ map thread threads) good
calls_read d [] threads n good short fits some few all h = threads_read parts.Prologue d [] [] threads threads 0 (0 + calls_in threads) n good refl (λ e. absurd (no_threads threads some e)) refl refl few fits all h
calls_read d (c ∷ cs) threads n good short fits some few all h =
    let most : length (c ∷ cs) ≤ 4 = leb-true (length (c ∷ cs)) 4 (and_parts (nat_le (length (c ∷ cs)) 4) (list_all is_call (c ∷ cs)) short).0 in
    let zero_more : 0 + length (c ∷ cs) ≡ length (c ∷ cs) = omega arith in
    reads_line (at_calls parts.Prologue d [] [] 0) n (before (c ∷ cs)) (map thread threads) good (before_clean d (c ∷ cs) most)
    (subst (λ (k : ℕ). Reads (at_calls parts.Threads d (c ∷ cs) [] k) (n + 1) (map thread threads) good) (sym zero_more)
    (threads_read parts.Threads d (c ∷ cs) [] threads threads (length (c ∷ cs)) (length (c ∷ cs) + calls_in threads) (n + 1) good refl (λ _. refl) refl refl few fits all h))

-- ---- procedures

all_placed : (count len : ℕ) (is : List (Instruction ℕ ℕ)) → are_arrays_below count is ≡ true → are_targets_within len is ≡ true → list_all (is_placed count len) is ≡ true
all_placed count len [] e f = refl
all_placed count len (i ∷ is) e f =
    let a = and_parts (has_array_below count i) (are_arrays_below count is) e in
    let b = and_parts (has_target_within len i) (are_targets_within len is) f in
    and_from (is_placed count len i) (list_all (is_placed count len) is) (and_from (has_array_below count i) (has_target_within len i) a.0 b.0) (all_placed count len is a.1 b.1)

same_length : (ts : List StepOf) (is : List (Instruction ℕ ℕ)) → map (λ (s : StepOf). s.instruction) ts ≡ map labelled_by is → length ts ≡ length is
same_length ts is e = sym (length-map ts (λ (s : StepOf). s.instruction)) ∙ ap length e ∙ length-map is labelled_by

-- a procedure whose instructions are these
abbrev read_body : List (Instruction ℕ ℕ) → List StepOf → BodyOf
read_body steps ts = body (labels_from steps 0 steps) ts

procedure_read : (w : Bool) (x : Content) (opening : Line) (steps : List (Instruction ℕ ℕ)) (n : ℕ) (ls : List Line) (good : Content → Type 0) → fault_at x opening ≡ None → after x n opening ≡ at_body w x (body [] [])
    → are_distinct (map (λ (a : Array). a.name) x.arrays) ≡ true → are_arrays_below (length x.arrays) steps ≡ true → are_targets_within (length steps) steps ≡ true → 1 ≤ length steps → length steps + others w x ≤ 256
    → ((m : ℕ) (ts : List StepOf) → map (λ (s : StepOf). s.instruction) ts ≡ map labelled_by steps → Reads (after (at_body w x (read_body steps ts)) m end) (m + 1) ls good)
    → Reads x n (procedure_said x.arrays opening steps ++ ls) good
procedure_read w x opening steps n ls good clean first distinct below within some few k =
    let regroup : procedure_said x.arrays opening steps ++ ls ≡ opening ∷ (body_said x.arrays steps 0 steps ++ (end ∷ ls)) = ap (λ (all : List Line). opening ∷ all) (append_assoc (body_said x.arrays steps 0 steps) (end ∷ []) ls) in
    let inside : Reads (at_body w x (body [] [])) (n + 1) (body_said x.arrays steps 0 steps ++ (end ∷ ls)) good =
    body_reads w x steps steps (length steps) 0 [] [] (n + 1) (end ∷ ls) good distinct (all_placed (length x.arrays) (length steps) steps below within) (omega (arith, few)) (omega (arith, few)) tt refl
    (λ m ts e. let len = same_length ts steps e in reads_line (at_body w x (read_body steps ts)) m end ls good (end_clean w x (read_body steps ts) (omega (arith, len, some))) (k m ts e)) in
    subst (λ (all : List Line). Reads x n all good) (sym regroup) (reads_line x n opening (body_said x.arrays steps 0 steps ++ (end ∷ ls)) good clean (subst (λ (d : Content). Reads d (n + 1) (body_said x.arrays steps 0 steps ++ (end ∷ ls)) good) (sym first) inside))

-- ---- the whole

-- the head, the arrays and push are read
abbrev at_pop : ClientOf → List StepOf → Content
at_pop c ts = record (at_arrays c c.arrays (words_in c.arrays)) { part = parts.Between; push = read_body c.push ts }

-- pop too
abbrev at_prologue : ClientOf → List StepOf → List StepOf → Content
at_prologue c ts us = record (at_pop c ts) { part = parts.Prologue; pop = read_body c.pop us }

push_clean : (c : ClientOf) → fault_at (at_arrays c c.arrays (words_in c.arrays)) push ≡ None
unfolding fault_at repeats lacks_array passes_limit
push_clean c = refl

pop_clean : (c : ClientOf) (ts : List StepOf) → fault_at (at_pop c ts) pop ≡ None
unfolding fault_at repeats lacks_array passes_limit
pop_clean c ts = refl

abbrev pub Finishes : ClientOf → Content → Type 0
Finishes c d = client_or_fault d ≡ Ok c

whole : (c : ClientOf) (ts us : List StepOf) (calls : ℕ) → 1 ≤ length c.threads → labelled (labels_from c.push 0 c.push) ts ≡ Ok c.push → labelled (labels_from c.pop 0 c.pop) us ≡ Ok c.pop → Finishes c (at_calls parts.Threads (at_prologue c ts us) c.prologue c.threads calls)
unfolding client_or_fault
whole c ts us calls some push_is pop_is = let t : nat_lt 0 (length c.threads) ≡ true = le-leb 1 (length c.threads) some in rw (t, push_is, pop_is) refl

pub client_reads : (c : ClientOf) → IsSound c → Reads start 1 (lines_said c) (Finishes c)
client_reads c s =
    let push_found = all_found c.push [] c.push refl (omega (arith, s.few_instructions)) s.targets_of_push in
    let pop_found = all_found c.pop [] c.pop refl (omega (arith, s.few_instructions)) s.targets_of_pop in
    let calls : List Line = prologue_said c.prologue ++ map thread c.threads in
    let behind : List Line = procedure_said c.arrays pop c.pop ++ calls in
    head_reads c 1 (map array_said c.arrays ++ (procedure_said c.arrays push c.push ++ behind)) (Finishes c)
    (λ m. arrays_read c [] c.arrays c.arrays 0 (words_in c.arrays) m (procedure_said c.arrays push c.push ++ behind) (Finishes c) refl (omega arith) s.distinct_names s.few_arrays s.few_words s.short_names
    (λ n. procedure_read true (at_arrays c c.arrays (words_in c.arrays)) push c.push n behind (Finishes c) (push_clean c) refl s.distinct_names s.arrays_of_push s.targets_of_push s.some_push (omega (arith, s.few_instructions))
    (λ k ts e. procedure_read false (at_pop c ts) pop c.pop (k + 1) calls (Finishes c) (pop_clean c ts) refl s.distinct_names s.arrays_of_pop s.targets_of_pop s.some_pop (omega (arith, s.few_instructions, same_length ts c.push e))
    (λ o us f. calls_read (at_prologue c ts us) c.prologue c.threads (o + 1) (Finishes c) s.short_prologue s.few_calls s.some_threads s.few_threads s.short_threads
    (whole c ts us (length c.prologue + calls_in c.threads) s.some_threads (all_labelled (labels_from c.push 0 c.push) c.push ts e push_found) (all_labelled (labels_from c.pop 0 c.pop) c.pop us f pop_found))))))
