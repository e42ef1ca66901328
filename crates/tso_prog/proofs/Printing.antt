-- A line without a fault keeps a program such that it can be written as a text again.
use Rattle.std.proofs.Common.{◌≡◌, ℕ, zero, suc, ◌+◌, ◌<◌, ◌≤◌, Bool, true, false, cond, not, List, [], ◌∷◌, ◌++◌, length, map, Option, Some, None, Ok, refl, sym, ap, subst, ◌∙◌, arith}
use Rattle.std.specs.Prelude.{◌&&◌, ◌||◌, ◌==◌, nat_lt, nat_le, is_some, is_none, unwrap_or, position}
use Rattle.std.specs.List.{list_all, list_any, prefix_len}
use Rattle.std.specs.Str.{bytes_eq}
use Rattle.std.proofs.lemmas.Bool.{and_parts, and_from, or_parts, leb-true, le-leb, not-true}
use Rattle.std.proofs.lemmas.List.{map-append}
use Rattle.std.proofs.lemmas.List.Folds.{list_any-append}
use Rattle.std.proofs.lemmas.List.Quantifiers.{position-Some}
use Rattle.std.proofs.lemmas.Slice.Eq.{bytes_eq-Decides}
use Rattle.tso_line.specs.declared.instruction.CallKind.{CallKind}
use Rattle.tso_line.specs.declared.instruction.Instruction.{Instruction}
use Rattle.tso_line.specs.declared.instruction.Instruction.TheVariants as instructions
use Rattle.tso_line.specs.declared.instruction.Mode.{Mode as QueueMode}
use Rattle.tso_line.specs.declared.line.Kind.{Kind}
use Rattle.tso_line.specs.declared.line.Kind.TheVariants as kinds
use Rattle.tso_line.specs.Instructions.{renamed, address_of}
use Rattle.tso_line.specs.Lines.{Name, Line, misshapen, wrong, capacity, mode, array, push, pop, end, label, instruction, before, thread}
use Rattle.tso_line.specs.Proper.{is_name, is_in_range, is_call, are_calls, is_proper}
use Rattle.tso_prog.specs.declared.client.Array.{Array}
use Rattle.tso_prog.specs.declared.draft.Part.{Part}
use Rattle.tso_prog.specs.declared.draft.Part.TheVariants as parts
use Rattle.tso_prog.specs.declared.fault.Code.{Code}
use Rattle.tso_prog.specs.declared.fault.Code.TheVariants.{E03, E06, E07, E09}
use Rattle.tso_prog.specs.Limits.{are_distinct, has_array_below, are_arrays_below, are_in_range, is_short_name, are_words, is_thread}
use Rattle.tso_prog.specs.Contents.{TargetOf, StepOf, BodyOf, Content, opened, open_in}
use Rattle.tso_prog.specs.Faults.{may_stand, has, fault_at, lacks_at, array_number, repeats, lacks_array, passes_limit}
use Rattle.tso_prog.specs.After.{after, after_end, with_label, with_step, with_opened, numbered, step, number_or_0}
use Rattle.tso_prog.specs.Finish.{labelled_step, labelled}
use Rattle.tso_prog.specs.Limited.{Begun, is_first, is_array, is_step, IsPrintable}
use Rattle.tso_prog.specs.Start.{start}
use Rattle.tso_line.proofs.Each.{passes_more}
use Rattle.tso_prog.proofs.First.{no_fault}
use Rattle.tso_prog.proofs.Clean.{stands}
use Rattle.tso_prog.proofs.Keeping.{list_all_weaker, one_more, at_most, opened_either}
use Rattle.tso_prog.proofs.Maps.{list_any_map}
use Rattle.tso_prog.proofs.Placing.{placed_step, labelled_all}

-- ---- names

none_at : {X : Type 0} (p : X → Bool) (x : X) (xs : List X) (b : Bool) → ((prefix_len (λ y. not (p y)) xs < length xs → ⊥) → list_any p xs ≡ false) → (cond (not b) (1 + prefix_len (λ y. not (p y)) xs) 0 < suc (length xs) → ⊥) → (b || list_any p xs) ≡ false
none_at p x xs true again h = absurd (h (omega arith))
none_at p x xs false again h = again (λ lt. h (omega (arith, lt)))

none_pass : {X : Type 0} (p : X → Bool) (xs : List X) → (prefix_len (λ y. not (p y)) xs < length xs → ⊥) → list_any p xs ≡ false
none_pass p [] h = refl
none_pass p (x ∷ xs) h = none_at p x xs (p x) (none_pass p xs) h

-- where no place is found, nothing passes
nowhere : {X : Type 0} (p : X → Bool) (xs : List X) → is_some (position p xs) ≡ false → list_any p xs ≡ false
nowhere p xs e = none_pass p xs (by (nat_lt (prefix_len (λ y. not (p y)) xs) (length xs)) refl e)
  where
    n : ℕ
    n = prefix_len (λ y. not (p y)) xs

    by : (b : Bool) → nat_lt n (length xs) ≡ b → is_some (cond b (Some n) None) ≡ false → n < length xs → ⊥
    by true e f lt = absurd cc
    by false e f lt = let le = at_most n (length xs) e in absurd (omega (arith, le, lt))

other_way : (x y : List ℕ) → bytes_eq x y ≡ false → bytes_eq y x ≡ false
other_way x y e = by (bytes_eq y x) refl
  where
    by : (b : Bool) → bytes_eq y x ≡ b → bytes_eq y x ≡ false
    by true f = let same : y ≡ x = (bytes_eq-Decides y x).0 f in let t : bytes_eq x y ≡ true = (bytes_eq-Decides x y).1 (sym same) in absurd cc
    by false f = f

more_distinct : (xs : List (List ℕ)) (n : List ℕ) → are_distinct xs ≡ true → list_any (λ y. bytes_eq y n) xs ≡ false → are_distinct (xs ++ n ∷ []) ≡ true
more_distinct [] n h e = refl
more_distinct (x ∷ xs) n h e =
    let a = and_parts (not (list_any (λ y. bytes_eq y x) xs)) (are_distinct xs) h in
    let b = or_parts (bytes_eq x n) (list_any (λ y. bytes_eq y n) xs) e in
    let none : list_any (λ y. bytes_eq y x) (xs ++ n ∷ []) ≡ false = list_any-append (λ y. bytes_eq y x) xs (n ∷ []) ∙ (λ i. not-true (list_any (λ y. bytes_eq y x) xs) a.0 i || (other_way x n b.0 i || false)) in
    and_from (not (list_any (λ y. bytes_eq y x) (xs ++ n ∷ []))) (are_distinct (xs ++ n ∷ [])) (ap not none) (more_distinct xs n a.1 b.1)

-- ---- instructions

range_numbered : (f : Name → ℕ) (i : Instruction Name Name) → is_in_range (renamed f (λ (l : Name). l) i) ≡ is_in_range i
range_numbered f (instructions.Move to from) = refl
range_numbered f (instructions.Load to from) = refl
range_numbered f (instructions.Store to from) = refl
range_numbered f (instructions.Compute operation to from) = refl
range_numbered f (instructions.Compare comparison left right) = refl
range_numbered f (instructions.Increment to) = refl
range_numbered f (instructions.Decrement to) = refl
range_numbered f (instructions.Jump when target bound) = refl
range_numbered f (instructions.Assert condition) = refl
range_numbered f (instructions.Locked operation cell register) = refl
range_numbered f instructions.Fence = refl
range_numbered f instructions.Nop = refl
range_numbered f instructions.Pause = refl
range_numbered f instructions.Return = refl

range_placed : (i : Instruction ℕ Name) (place : ℕ) → is_in_range (renamed (λ (a : ℕ). a) (λ _. place) i) ≡ is_in_range i
range_placed (instructions.Move to from) place = refl
range_placed (instructions.Load to from) place = refl
range_placed (instructions.Store to from) place = refl
range_placed (instructions.Compute operation to from) place = refl
range_placed (instructions.Compare comparison left right) place = refl
range_placed (instructions.Increment to) place = refl
range_placed (instructions.Decrement to) place = refl
range_placed (instructions.Jump when target bound) place = refl
range_placed (instructions.Assert condition) place = refl
range_placed (instructions.Locked operation cell register) place = refl
range_placed instructions.Fence place = refl
range_placed instructions.Nop place = refl
range_placed instructions.Pause place = refl
range_placed instructions.Return place = refl

array_placed : (n : ℕ) (i : Instruction ℕ Name) (place : ℕ) → has_array_below n (renamed (λ (a : ℕ). a) (λ _. place) i) ≡ has_array_below n i
array_placed n (instructions.Move to from) place = refl
array_placed n (instructions.Load to from) place = refl
array_placed n (instructions.Store to from) place = refl
array_placed n (instructions.Compute operation to from) place = refl
array_placed n (instructions.Compare comparison left right) place = refl
array_placed n (instructions.Increment to) place = refl
array_placed n (instructions.Decrement to) place = refl
array_placed n (instructions.Jump when target bound) place = refl
array_placed n (instructions.Assert condition) place = refl
array_placed n (instructions.Locked operation cell register) place = refl
array_placed n instructions.Fence place = refl
array_placed n instructions.Nop place = refl
array_placed n instructions.Pause place = refl
array_placed n instructions.Return place = refl

below_more : (k n : ℕ) → nat_lt k n ≡ true → nat_lt k (n + 1) ≡ true
below_more k n e = let a : suc k ≤ n = leb-true (suc k) n e in le-leb (suc k) (n + 1) (omega (arith, a))

array_more : (n : ℕ) (i : Instruction ℕ Name) → has_array_below n i ≡ true → has_array_below (n + 1) i ≡ true
array_more n (instructions.Move to from) e = refl
array_more n (instructions.Load to from) e = below_more from.array n e
array_more n (instructions.Store to from) e = below_more to.array n e
array_more n (instructions.Compute operation to from) e = refl
array_more n (instructions.Compare comparison left right) e = refl
array_more n (instructions.Increment to) e = refl
array_more n (instructions.Decrement to) e = refl
array_more n (instructions.Jump when target bound) e = refl
array_more n (instructions.Assert condition) e = refl
array_more n (instructions.Locked operation cell register) e = below_more cell.array n e
array_more n instructions.Fence e = refl
array_more n instructions.Nop e = refl
array_more n instructions.Pause e = refl
array_more n instructions.Return e = refl

step_more : (n : ℕ) (s : StepOf) → is_step n s ≡ true → is_step (n + 1) s ≡ true
step_more n s e = let a = and_parts (is_in_range s.instruction) (has_array_below n s.instruction) e in and_from (is_in_range s.instruction) (has_array_below (n + 1) s.instruction) a.0 (array_more n s.instruction a.1)

-- an array that is there has its number
found_below : (c : Content) (name : Name) → is_none (array_number c name) ≡ false → nat_lt (number_or_0 c name) (length c.arrays) ≡ true
found_below c name e = by (array_number c name) refl e
  where
    by : (o : Option ℕ) → array_number c name ≡ o → is_none o ≡ false → nat_lt (unwrap_or o 0) (length c.arrays) ≡ true
    by None is e = absurd cc
    by (Some k) is e = le-leb (suc k) (length c.arrays) (position-Some (λ (a : Array). bytes_eq a.name name) c.arrays k (record { name = []; words = [] }) is).0

array_known : (c : Content) (i : Instruction Name Name) → lacks_at c (address_of i) ≡ false → has_array_below (length c.arrays) (numbered c i) ≡ true
array_known c (instructions.Move to from) e = refl
array_known c (instructions.Load to from) e = found_below c from.array e
array_known c (instructions.Store to from) e = found_below c to.array e
array_known c (instructions.Compute operation to from) e = refl
array_known c (instructions.Compare comparison left right) e = refl
array_known c (instructions.Increment to) e = refl
array_known c (instructions.Decrement to) e = refl
array_known c (instructions.Jump when target bound) e = refl
array_known c (instructions.Assert condition) e = refl
array_known c (instructions.Locked operation cell register) e = found_below c cell.array e
array_known c instructions.Fence e = refl
array_known c instructions.Nop e = refl
array_known c instructions.Pause e = refl
array_known c instructions.Return e = refl

-- ---- parts

begun_pop : (p : Part) (a b : ℕ) → may_stand p kinds.Pop ≡ true → Begun p a b → Begun parts.Pop a b
begun_pop parts.Capacity a b e h = absurd cc
begun_pop parts.Mode a b e h = absurd cc
begun_pop parts.Arrays a b e h = absurd cc
begun_pop parts.Push a b e h = absurd cc
begun_pop parts.Between a b e h = h
begun_pop parts.Pop a b e h = absurd cc
begun_pop parts.Prologue a b e h = absurd cc
begun_pop parts.Threads a b e h = absurd cc

begun_before : (p : Part) (a b : ℕ) → may_stand p kinds.Before ≡ true → Begun p a b → Begun parts.Threads a b
begun_before parts.Capacity a b e h = absurd cc
begun_before parts.Mode a b e h = absurd cc
begun_before parts.Arrays a b e h = absurd cc
begun_before parts.Push a b e h = absurd cc
begun_before parts.Between a b e h = absurd cc
begun_before parts.Pop a b e h = absurd cc
begun_before parts.Prologue a b e h = h
begun_before parts.Threads a b e h = absurd cc

begun_thread : (p : Part) (a b : ℕ) → may_stand p kinds.Thread ≡ true → Begun p a b → Begun parts.Threads a b
begun_thread parts.Capacity a b e h = absurd cc
begun_thread parts.Mode a b e h = absurd cc
begun_thread parts.Arrays a b e h = absurd cc
begun_thread parts.Push a b e h = absurd cc
begun_thread parts.Between a b e h = absurd cc
begun_thread parts.Pop a b e h = absurd cc
begun_thread parts.Prologue a b e h = h
begun_thread parts.Threads a b e h = h

-- a procedure ends after an instruction
begun_end : (p : Part) (c : Content) → may_stand p kinds.End ≡ true → 0 < length (open_in p c.push c.pop).steps → Begun p (length c.push.steps) (length c.pop.steps) → Begun (after_end p) (length c.push.steps) (length c.pop.steps)
begun_end parts.Capacity c e lt h = absurd cc
begun_end parts.Mode c e lt h = absurd cc
begun_end parts.Arrays c e lt h = absurd cc
begun_end parts.Push c e lt h = omega (arith, lt)
begun_end parts.Between c e lt h = absurd cc
begun_end parts.Pop c e lt h = (h, omega (arith, lt))
begun_end parts.Prologue c e lt h = absurd cc
begun_end parts.Threads c e lt h = absurd cc

begun_more : (p : Part) (a b c d : ℕ) → a ≤ c → b ≤ d → Begun p a b → Begun p c d
begun_more parts.Capacity a b c d l m h = tt
begun_more parts.Mode a b c d l m h = tt
begun_more parts.Arrays a b c d l m h = tt
begun_more parts.Push a b c d l m h = tt
begun_more parts.Between a b c d l m h = omega (arith, l, h)
begun_more parts.Pop a b c d l m h = omega (arith, l, h)
begun_more parts.Prologue a b c d l m h = (omega (arith, l, h.0), omega (arith, m, h.1))
begun_more parts.Threads a b c d l m h = (omega (arith, l, h.0), omega (arith, m, h.1))

pub first_open : (p : Part) (b : Bool) → is_first p ≡ false → (is_first p || b) ≡ true → b ≡ true
first_open p b e h = by (is_first p) e h
  where
    by : (x : Bool) → x ≡ false → (x || b) ≡ true → b ≡ true
    by true e h = absurd cc
    by false e h = h

-- a line that is not that of the capacity stands behind it
not_first : (p : Part) (k : Kind) → may_stand p k ≡ true → (may_stand parts.Capacity k ≡ true → ⊥) → is_first p ≡ false
not_first parts.Capacity k e first_only = absurd (first_only e)
not_first parts.Mode k e first_only = refl
not_first parts.Arrays k e first_only = refl
not_first parts.Push k e first_only = refl
not_first parts.Between k e first_only = refl
not_first parts.Pop k e first_only = refl
not_first parts.Prologue k e first_only = refl
not_first parts.Threads k e first_only = refl

any_part : (p : Part) (b : Bool) → b ≡ true → (is_first p || b) ≡ true
any_part p b e = by (is_first p)
  where
    by : (x : Bool) → (x || b) ≡ true
    by true = refl
    by false = e

capacity_stays : (p q : Part) (b : Bool) → is_first p ≡ false → (is_first p || b) ≡ true → (is_first q || b) ≡ true
capacity_stays p q b e h = any_part q b (first_open p b e h)

-- ---- lines

-- a printable content stays so with other procedures, and where the lines go on to another part
with_procedures : (c : Content) (b d : BodyOf) → IsPrintable c → list_all (is_step (length c.arrays)) b.steps ≡ true → list_all (is_step (length c.arrays)) d.steps ≡ true → Begun c.part (length b.steps) (length d.steps) → IsPrintable (record c { push = b; pop = d })
with_procedures c b d h in_push in_pop begun = record {
  capacity = h.capacity;
  arrays = h.arrays;
  names = h.names;
  push = in_push;
  pop = in_pop;
  begun = begun;
  prologue = h.prologue;
  threads = h.threads;
}

goes_on : (c : Content) (p : Part) (k : ℕ) (m : QueueMode) → IsPrintable c → (is_first p || nat_le 1 k && nat_le k 16) ≡ true → Begun p (length c.push.steps) (length c.pop.steps) → IsPrintable (record c { part = p; capacity = k; mode = m })
goes_on c p k m h in_range begun = record {
  capacity = in_range;
  arrays = h.arrays;
  names = h.names;
  push = h.push;
  pop = h.pop;
  begun = begun;
  prologue = h.prologue;
  threads = h.threads;
}

open_label : (c : Content) (name : Name) → IsPrintable c → (p : Part) → IsPrintable (with_opened p c (λ b. with_label b name))
open_label c name h =
    let Q : Content → Type 0 = λ d. IsPrintable d in
    opened_either Q c (λ b. with_label b name)
    (with_procedures c (with_label c.push name) c.pop h h.push h.pop h.begun)
    (with_procedures c c.push (with_label c.pop name) h h.push h.pop h.begun)

open_step : (c : Content) (s : StepOf) → is_step (length c.arrays) s ≡ true → IsPrintable c → (p : Part) → IsPrintable (with_opened p c (λ b. with_step b s))
open_step c s e h =
    let Q : Content → Type 0 = λ d. IsPrintable d in
    let more = λ (ss : List StepOf) (all : list_all (is_step (length c.arrays)) ss ≡ true). passes_more (is_step (length c.arrays)) ss s all e in
    let begun = begun_more c.part (length c.push.steps) (length c.pop.steps) in
    opened_either Q c (λ b. with_step b s)
    (with_procedures c (with_step c.push s) c.pop h (more c.push.steps h.push) h.pop (begun (length (c.push.steps ++ s ∷ [])) (length c.pop.steps) (omega (arith, one_more c.push.steps s)) (omega arith) h.begun))
    (with_procedures c c.push (with_step c.pop s) h h.push (more c.pop.steps h.pop) (begun (length c.push.steps) (length (c.pop.steps ++ s ∷ [])) (omega arith) (omega (arith, one_more c.pop.steps s)) h.begun))

array_kept : (c : Content) (n : ℕ) (name words : List ℕ) → IsPrintable c → is_proper (array name words) ≡ true → has c (array name words) E06 ≡ false → has c (array name words) E09 ≡ false → IsPrintable (after c n (array name words))
unfolding repeats passes_limit
array_kept c n name words h proper twice limit =
    let a = or_parts (nat_le 16 (length c.arrays) || nat_lt 256 (c.words + length words)) (nat_lt 32 (length name)) limit in
    let short : nat_le (length name) 32 ≡ true = le-leb (length name) 32 (at_most 32 (length name) a.1) in
    let b = and_parts (is_name name) (are_words words) proper in
    let it : Array = record { name = name; words = words } in
    let more = one_more c.arrays it in
    let steps : (ss : List StepOf) → list_all (is_step (length c.arrays)) ss ≡ true → list_all (is_step (length (c.arrays ++ it ∷ []))) ss ≡ true = λ ss e. subst (λ (k : ℕ). list_all (is_step k) ss ≡ true) (sym more) (list_all_weaker (is_step (length c.arrays)) (is_step (length c.arrays + 1)) (step_more (length c.arrays)) ss e) in
    let fresh : list_any (λ y. bytes_eq y name) (map (λ (a : Array). a.name) c.arrays) ≡ false = list_any_map (λ y. bytes_eq y name) (λ (a : Array). a.name) c.arrays ∙ nowhere (λ (a : Array). bytes_eq a.name name) c.arrays twice in
    record {
      capacity = h.capacity;
      arrays = passes_more is_array c.arrays it h.arrays (and_from (is_short_name name) (are_words words) (and_from (is_name name) (nat_le (length name) 32) b.0 short) b.1);
      names = ap are_distinct (map-append (λ (a : Array). a.name) c.arrays (it ∷ [])) ∙ more_distinct (map (λ (a : Array). a.name) c.arrays) name h.names fresh;
      push = steps c.push.steps h.push;
      pop = steps c.pop.steps h.pop;
      begun = h.begun;
      prologue = h.prologue;
      threads = h.threads;
    }

few_calls : (c : Content) (k : ℕ) → (nat_lt 4 k || nat_lt 12 (c.calls + k)) ≡ false → nat_le k 4 ≡ true
few_calls c k e = le-leb k 4 (at_most 4 k (or_parts (nat_lt 4 k) (nat_lt 12 (c.calls + k)) e).0)

before_kept : (c : Content) (n : ℕ) (calls : List CallKind) → IsPrintable c → are_calls calls ≡ true → has c (before calls) E03 ≡ false → has c (before calls) E09 ≡ false → IsPrintable (after c n (before calls))
unfolding passes_limit
before_kept c n calls h proper place limit =
    let may = stands (may_stand c.part kinds.Before) place in
    record {
      capacity = first_open c.part _ (not_first c.part kinds.Before may (λ x. absurd cc)) h.capacity;
      arrays = h.arrays;
      names = h.names;
      push = h.push;
      pop = h.pop;
      begun = begun_before c.part _ _ may h.begun;
      prologue = and_from (nat_le (length calls) 4) (list_all is_call calls) (few_calls c (length calls) limit) (and_parts (nat_le 1 (length calls)) (list_all is_call calls) proper).1;
      threads = h.threads;
    }

thread_kept : (c : Content) (n : ℕ) (calls : List CallKind) → IsPrintable c → are_calls calls ≡ true → has c (thread calls) E03 ≡ false → has c (thread calls) E09 ≡ false → IsPrintable (after c n (thread calls))
unfolding passes_limit
thread_kept c n calls h proper place limit =
    let may = stands (may_stand c.part kinds.Thread) place in
    let a = or_parts (nat_le 4 (length c.threads)) (nat_lt 4 (length calls) || nat_lt 12 (c.calls + length calls)) limit in
    record {
      capacity = first_open c.part _ (not_first c.part kinds.Thread may (λ x. absurd cc)) h.capacity;
      arrays = h.arrays;
      names = h.names;
      push = h.push;
      pop = h.pop;
      begun = begun_thread c.part _ _ may h.begun;
      prologue = h.prologue;
      threads = passes_more is_thread c.threads calls h.threads (and_from (are_calls calls) (nat_le (length calls) 4) proper (few_calls c (length calls) a.1));
    }

end_kept : (c : Content) (n : ℕ) → IsPrintable c → has c end E03 ≡ false → IsPrintable (after c n end)
end_kept c n h place =
    let a = and_parts (may_stand c.part kinds.End) (nat_lt 0 (length (opened c).steps)) (stands _ place) in
    goes_on c (after_end c.part) c.capacity c.mode h (capacity_stays c.part (after_end c.part) _ (not_first c.part kinds.End a.0 (λ x. absurd cc)) h.capacity) (begun_end c.part c a.0 (leb-true 1 (length (opened c).steps) a.1) h.begun)

instruction_kept : (c : Content) (n : ℕ) (i : Instruction Name Name) (lacks : Bool) → IsPrintable c → is_in_range i ≡ true → has c (instruction i lacks) E07 ≡ false → IsPrintable (after c n (instruction i lacks))
unfolding lacks_array
instruction_kept c n i lacks h proper known =
    open_step c (step n (numbered c i)) (and_from (is_in_range (numbered c i)) (has_array_below (length c.arrays) (numbered c i)) (range_numbered (number_or_0 c) i ∙ proper) (array_known c i known)) h c.part

kept_by : (c : Content) (n : ℕ) (l : Line) → IsPrintable c → is_proper l ≡ true → ((code : Code) → has c l code ≡ false) → IsPrintable (after c n l)
kept_by c n misshapen h proper clean = h
kept_by c n (wrong kind slip) h proper clean = h
kept_by c n (capacity k) h proper clean = goes_on c parts.Mode k c.mode h proper tt
kept_by c n (mode m) h proper clean = goes_on c parts.Arrays c.capacity m h (first_open c.part _ (not_first c.part kinds.Mode (stands _ (clean E03)) (λ x. absurd cc)) h.capacity) tt
kept_by c n (array name words) h proper clean = array_kept c n name words h proper (clean E06) (clean E09)
kept_by c n push h proper clean = goes_on c parts.Push c.capacity c.mode h (first_open c.part _ (not_first c.part kinds.Push (stands _ (clean E03)) (λ x. absurd cc)) h.capacity) tt
kept_by c n pop h proper clean = goes_on c parts.Pop c.capacity c.mode h (first_open c.part _ (not_first c.part kinds.Pop (stands _ (clean E03)) (λ x. absurd cc)) h.capacity) (begun_pop c.part _ _ (stands _ (clean E03)) h.begun)
kept_by c n end h proper clean = end_kept c n h (clean E03)
kept_by c n (label name) h proper clean = open_label c name h c.part
kept_by c n (instruction i lacks) h proper clean = instruction_kept c n i lacks h proper (clean E07)
kept_by c n (before calls) h proper clean = before_kept c n calls h proper (clean E03) (clean E09)
kept_by c n (thread calls) h proper clean = thread_kept c n calls h proper (clean E03) (clean E09)

pub printable_after : (c : Content) (n : ℕ) (l : Line) → IsPrintable c → is_proper l ≡ true → fault_at c l ≡ None → IsPrintable (after c n l)
printable_after c n l h proper e = kept_by c n l h proper (no_fault c l e)

pub printable_start : IsPrintable start
printable_start = record { capacity = refl; arrays = refl; names = refl; push = refl; pop = refl; begun = tt; prologue = refl; threads = refl }

-- ---- at the end

each_range : (n : ℕ) (labels : List TargetOf) (s : StepOf) (t : Instruction ℕ ℕ) → is_step n s ≡ true → labelled_step labels s ≡ Ok t → is_in_range t ≡ true
each_range n labels s t h e =
    let p = placed_step labels s t e in
    ap is_in_range p.is ∙ range_placed s.instruction p.place ∙ (and_parts (is_in_range s.instruction) (has_array_below n s.instruction) h).0

each_array : (n : ℕ) (labels : List TargetOf) (s : StepOf) (t : Instruction ℕ ℕ) → is_step n s ≡ true → labelled_step labels s ≡ Ok t → has_array_below n t ≡ true
each_array n labels s t h e =
    let p = placed_step labels s t e in
    ap (has_array_below n) p.is ∙ array_placed n s.instruction p.place ∙ (and_parts (is_in_range s.instruction) (has_array_below n s.instruction) h).1

pub steps_in_range : (n : ℕ) (labels : List TargetOf) (ss : List StepOf) (ts : List (Instruction ℕ ℕ)) → list_all (is_step n) ss ≡ true → labelled labels ss ≡ Ok ts → are_in_range ts ≡ true
steps_in_range n labels ss ts h e = labelled_all (is_step n) is_in_range labels (each_range n labels) ss ts h e

pub steps_below : (n : ℕ) (labels : List TargetOf) (ss : List StepOf) (ts : List (Instruction ℕ ℕ)) → list_all (is_step n) ss ≡ true → labelled labels ss ≡ Ok ts → are_arrays_below n ts ≡ true
steps_below n labels ss ts h e = labelled_all (is_step n) (has_array_below n) labels (each_array n labels) ss ts h e

pub nonzero : (n : ℕ) → (n == 0) ≡ false → 1 ≤ n
nonzero zero e = absurd cc
nonzero (suc n) e = omega arith
