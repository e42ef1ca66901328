-- A line without a fault keeps a program within its limits.
use Rattle.std.proofs.Common.{◌≡◌, ℕ, suc, ◌+◌, ◌<◌, ◌≤◌, Bool, true, false, List, [], ◌∷◌, ◌++◌, length, None, refl, sym, subst, arith}
use Rattle.std.specs.Prelude.{◌||◌, ◌==◌, nat_lt, nat_le}
use Rattle.std.specs.List.{list_all}
use Rattle.std.proofs.lemmas.Bool.{and_parts, and_from, or_parts, leb-true, le-leb, eqb-true}
use Rattle.std.proofs.lemmas.Bool.Decides.{leb_tells}
use Rattle.std.proofs.lemmas.List.{length-append}
use Rattle.std.proofs.lemmas.List.Sums.{sum_by-append}
use Rattle.tso_line.specs.declared.instruction.CallKind.{CallKind}
use Rattle.tso_line.specs.declared.instruction.Instruction.{Instruction}
use Rattle.tso_line.specs.declared.instruction.Instruction.TheVariants as instructions
use Rattle.tso_line.specs.declared.line.Kind.{Kind}
use Rattle.tso_line.specs.declared.line.Kind.TheVariants as kinds
use Rattle.tso_line.specs.Instructions.{renamed}
use Rattle.tso_line.specs.Lines.{Name, Line, misshapen, wrong, capacity, mode, array, push, pop, end, label, instruction, before, thread}
use Rattle.tso_line.specs.Proper.{is_in_range, is_proper}
use Rattle.tso_prog.specs.declared.client.Array.{Array}
use Rattle.tso_prog.specs.declared.draft.Part.{Part}
use Rattle.tso_prog.specs.declared.draft.Part.TheVariants as parts
use Rattle.tso_prog.specs.declared.fault.Code.{Code}
use Rattle.tso_prog.specs.declared.fault.Code.TheVariants.{E03, E09}
use Rattle.tso_prog.specs.Limits.{has_small_bound}
use Rattle.tso_prog.specs.Contents.{TargetOf, StepOf, BodyOf, Content}
use Rattle.tso_prog.specs.Faults.{may_stand, has, fault_at, passes_limit}
use Rattle.tso_prog.specs.After.{after, with_label, with_step, with_opened, numbered, step, number_or_0}
use Rattle.tso_prog.specs.Finish.{is_threads}
use Rattle.tso_prog.specs.Limited.{IsProcedure, AreArrays, AreProcedures, AreCalls, IsLimited}
use Rattle.tso_prog.specs.Start.{start}
use Rattle.tso_line.proofs.Each.{passes_more}
use Rattle.tso_prog.proofs.Clean.{stands}
use Rattle.tso_prog.proofs.First.{no_fault}

-- ---- limits as numbers

below : (a b : ℕ) → nat_le a b ≡ false → b < a
below a b e = grind (arith, leb_tells a b)

pub at_most : (a b : ℕ) → nat_lt a b ≡ false → b ≤ a
at_most a b e = grind (arith, leb_tells (suc a) b)

-- ---- places

-- a line that is no thread has its place before the threads
early : (p : Part) (k : Kind) → may_stand p k ≡ true → (may_stand parts.Threads k ≡ true → ⊥) → is_threads p ≡ false
early parts.Threads k e late_only = absurd (late_only e)
early parts.Capacity k e late_only = refl
early parts.Mode k e late_only = refl
early parts.Arrays k e late_only = refl
early parts.Push k e late_only = refl
early parts.Between k e late_only = refl
early parts.Pop k e late_only = refl
early parts.Prologue k e late_only = refl

late : (b c : Bool) → (b || c) ≡ true → b ≡ false → c ≡ true
late true c e f = absurd cc
late false c e f = e

-- ---- procedures

pub list_all_weaker : {X : Type 0} (p q : X → Bool) → ((x : X) → p x ≡ true → q x ≡ true) → (xs : List X) → list_all p xs ≡ true → list_all q xs ≡ true
list_all_weaker p q h [] e = refl
list_all_weaker p q h (x ∷ xs) e = let (a, b) = and_parts (p x) (list_all p xs) e in and_from (q x) (list_all q xs) (h x a) (list_all_weaker p q h xs b)

pub one_more : {X : Type 0} (xs : List X) (x : X) → length (xs ++ x ∷ []) ≡ length xs + 1
one_more xs x = length-append xs (x ∷ [])

weaker : (n : ℕ) (l : TargetOf) → nat_le l.at n ≡ true → nat_le l.at (n + 1) ≡ true
weaker n l e = let a : l.at ≤ n = leb-true l.at n e in le-leb l.at (n + 1) (omega (arith, a))

label_kept : (b : BodyOf) (name : Name) → IsProcedure b → IsProcedure (with_label b name)
label_kept b name p = record {
  small_bounds = p.small_bounds;
  labels_within = passes_more (λ (l : TargetOf). nat_le l.at (length b.steps)) b.labels (record { name = name; at = length b.steps }) p.labels_within (le-leb (length b.steps) (length b.steps) (omega arith));
}

step_kept : (b : BodyOf) (s : StepOf) → has_small_bound s.instruction ≡ true → IsProcedure b → IsProcedure (with_step b s)
step_kept b s small p = record {
  small_bounds = passes_more (λ (s : StepOf). has_small_bound s.instruction) b.steps s p.small_bounds small;
  labels_within = subst (λ (n : ℕ). list_all (λ (l : TargetOf). nat_le l.at n) b.labels ≡ true) (sym (one_more b.steps s)) (list_all_weaker (λ (l : TargetOf). nat_le l.at (length b.steps)) (λ (l : TargetOf). nat_le l.at (length b.steps + 1)) (weaker (length b.steps)) b.labels p.labels_within);
}

-- what holds whichever of the two procedures is changed
pub opened_either : (Q : Content → Type 0) (c : Content) (f : BodyOf → BodyOf) → Q (record c { push = f c.push }) → Q (record c { pop = f c.pop }) → (p : Part) → Q (with_opened p c f)
opened_either Q c f in_push in_pop parts.Pop = in_pop
opened_either Q c f in_push in_pop parts.Capacity = in_push
opened_either Q c f in_push in_pop parts.Mode = in_push
opened_either Q c f in_push in_pop parts.Arrays = in_push
opened_either Q c f in_push in_pop parts.Push = in_push
opened_either Q c f in_push in_pop parts.Between = in_push
opened_either Q c f in_push in_pop parts.Prologue = in_push
opened_either Q c f in_push in_pop parts.Threads = in_push

-- a limited content stays so with other procedures
with_procedures : (c : Content) (b d : BodyOf) → IsLimited c → AreProcedures b d → IsLimited (record c { push = b; pop = d })
with_procedures c b d h procedures = record { arrays = h.arrays; procedures = procedures; calls = h.calls; prologue_is_late = h.prologue_is_late }

open_label : (c : Content) (name : Name) → IsLimited c → (p : Part) → IsLimited (with_opened p c (λ b. with_label b name))
open_label c name h =
    let few = h.procedures.few_instructions in
    let Q : Content → Type 0 = λ d. IsLimited d in
    opened_either Q c (λ b. with_label b name)
    (with_procedures c (with_label c.push name) c.pop h (record { few_instructions = few; push = label_kept c.push name h.procedures.push; pop = h.procedures.pop }))
    (with_procedures c c.push (with_label c.pop name) h (record { few_instructions = few; push = h.procedures.push; pop = label_kept c.pop name h.procedures.pop }))

-- ---- lines

small_numbered : (f : Name → ℕ) (i : Instruction Name Name) → has_small_bound i ≡ true → has_small_bound (renamed f (λ (l : Name). l) i) ≡ true
small_numbered f (instructions.Move to from) e = e
small_numbered f (instructions.Load to from) e = e
small_numbered f (instructions.Store to from) e = e
small_numbered f (instructions.Compute operation to from) e = e
small_numbered f (instructions.Compare comparison left right) e = e
small_numbered f (instructions.Increment to) e = e
small_numbered f (instructions.Decrement to) e = e
small_numbered f (instructions.Jump when target bound) e = e
small_numbered f (instructions.Assert condition) e = e
small_numbered f (instructions.Locked operation cell register) e = e
small_numbered f instructions.Fence e = e
small_numbered f instructions.Nop e = e
small_numbered f instructions.Pause e = e
small_numbered f instructions.Return e = e

-- nothing changes but the part, before the threads
moved : (c : Content) (p : Part) (k : Kind) → may_stand c.part k ≡ true → (may_stand parts.Threads k ≡ true → ⊥) → IsLimited c → (is_threads p || length c.prologue == 0) ≡ true
moved c p k e late_only h = any (is_threads p) (length c.prologue == 0) (late (is_threads c.part) (length c.prologue == 0) h.prologue_is_late (early c.part k e late_only))
  where
    any : (b d : Bool) → d ≡ true → (b || d) ≡ true
    any true d e = refl
    any false d e = e

both_calls : (count calls : ℕ) → (nat_lt 4 count || nat_lt 12 (calls + count)) ≡ false → calls + count ≤ 12
both_calls count calls e = at_most 12 (calls + count) (or_parts (nat_lt 4 count) (nat_lt 12 (calls + count)) e).1

array_kept : (c : Content) (n : ℕ) (name words : List ℕ) → IsLimited c → has c (array name words) E09 ≡ false → IsLimited (after c n (array name words))
unfolding passes_limit
array_kept c n name words h e =
    let a = or_parts (nat_le 16 (length c.arrays) || nat_lt 256 (c.words + length words)) (nat_lt 32 (length name)) e in
    let b = or_parts (nat_le 16 (length c.arrays)) (nat_lt 256 (c.words + length words)) a.0 in
    let few = below 16 (length c.arrays) b.0 in
    let it : Array = record { name = name; words = words } in
    let arrays : AreArrays (c.arrays ++ it ∷ []) (c.words + length words) = record {
      few_arrays = rw (one_more c.arrays it) (omega (arith, few));
      words_are = rw (sum_by-append (λ (a : Array). length a.words) c.arrays (it ∷ []), ← h.arrays.words_are) (omega arith);
      few_words = at_most 256 (c.words + length words) b.1;
    } in
    record { arrays = arrays; procedures = h.procedures; calls = h.calls; prologue_is_late = h.prologue_is_late }

instruction_kept : (c : Content) (n : ℕ) (i : Instruction Name Name) (lacks : Bool) → IsLimited c → has_small_bound i ≡ true → has c (instruction i lacks) E09 ≡ false → IsLimited (after c n (instruction i lacks))
unfolding passes_limit
instruction_kept c n i lacks h small e =
    let s : StepOf = step n (numbered c i) in
    let room = below 256 (length c.push.steps + length c.pop.steps) (or_parts (nat_le 256 (length c.push.steps + length c.pop.steps)) _ e).0 in
    let it : has_small_bound (numbered c i) ≡ true = small_numbered (number_or_0 c) i small in
    let Q : Content → Type 0 = λ d. IsLimited d in
    opened_either Q c (λ b. with_step b s)
    (with_procedures c (with_step c.push s) c.pop h (record { few_instructions = rw (one_more c.push.steps s) (omega (arith, room)); push = step_kept c.push s it h.procedures.push; pop = h.procedures.pop }))
    (with_procedures c c.push (with_step c.pop s) h (record { few_instructions = rw (one_more c.pop.steps s) (omega (arith, room)); push = h.procedures.push; pop = step_kept c.pop s it h.procedures.pop }))
    c.part

before_kept : (c : Content) (n : ℕ) (calls : List CallKind) → IsLimited c → has c (before calls) E03 ≡ false → has c (before calls) E09 ≡ false → IsLimited (after c n (before calls))
unfolding passes_limit
before_kept c n calls h place e =
    let none = late (is_threads c.part) (length c.prologue == 0) h.prologue_is_late (early c.part kinds.Before (stands (may_stand c.part kinds.Before) place) (λ x. absurd cc)) in
    let zero_long : length c.prologue ≡ 0 = eqb-true (length c.prologue) 0 none in
    let all_calls : AreCalls calls c.threads (c.calls + length calls) = record {
      few_threads = h.calls.few_threads;
      calls_are = omega (arith, h.calls.calls_are, zero_long);
      few_calls = both_calls (length calls) c.calls e;
    } in
    record { arrays = h.arrays; procedures = h.procedures; calls = all_calls; prologue_is_late = refl }

thread_kept : (c : Content) (n : ℕ) (calls : List CallKind) → IsLimited c → has c (thread calls) E09 ≡ false → IsLimited (after c n (thread calls))
unfolding passes_limit
thread_kept c n calls h e =
    let a = or_parts (nat_le 4 (length c.threads)) (nat_lt 4 (length calls) || nat_lt 12 (c.calls + length calls)) e in
    let few = below 4 (length c.threads) a.0 in
    let all_calls : AreCalls c.prologue (c.threads ++ calls ∷ []) (c.calls + length calls) = record {
      few_threads = rw (one_more c.threads calls) (omega (arith, few));
      calls_are = rw (sum_by-append (λ (calls : List CallKind). length calls) c.threads (calls ∷ []), h.calls.calls_are) (omega arith);
      few_calls = both_calls (length calls) c.calls a.1;
    } in
    record { arrays = h.arrays; procedures = h.procedures; calls = all_calls; prologue_is_late = refl }

-- an instruction in range has a small bound
small_of : (i : Instruction Name Name) → is_in_range i ≡ true → has_small_bound i ≡ true
small_of (instructions.Move to from) e = refl
small_of (instructions.Load to from) e = refl
small_of (instructions.Store to from) e = refl
small_of (instructions.Compute operation to from) e = refl
small_of (instructions.Compare comparison left right) e = refl
small_of (instructions.Increment to) e = refl
small_of (instructions.Decrement to) e = refl
small_of (instructions.Jump when target bound) e = e
small_of (instructions.Assert condition) e = refl
small_of (instructions.Locked operation cell register) e = refl
small_of instructions.Fence e = refl
small_of instructions.Nop e = refl
small_of instructions.Pause e = refl
small_of instructions.Return e = refl

kept_by : (c : Content) (n : ℕ) (l : Line) → IsLimited c → is_proper l ≡ true → ((code : Code) → has c l code ≡ false) → IsLimited (after c n l)
kept_by c n misshapen h proper clean = h
kept_by c n (wrong kind slip) h proper clean = h
kept_by c n (capacity k) h proper clean = record { arrays = h.arrays; procedures = h.procedures; calls = h.calls; prologue_is_late = moved c parts.Mode kinds.Capacity (stands _ (clean E03)) (λ x. absurd cc) h }
kept_by c n (mode m) h proper clean = record { arrays = h.arrays; procedures = h.procedures; calls = h.calls; prologue_is_late = moved c parts.Arrays kinds.Mode (stands _ (clean E03)) (λ x. absurd cc) h }
kept_by c n (array name words) h proper clean = array_kept c n name words h (clean E09)
kept_by c n push h proper clean = record { arrays = h.arrays; procedures = h.procedures; calls = h.calls; prologue_is_late = moved c parts.Push kinds.Push (stands _ (clean E03)) (λ x. absurd cc) h }
kept_by c n pop h proper clean = record { arrays = h.arrays; procedures = h.procedures; calls = h.calls; prologue_is_late = moved c parts.Pop kinds.Pop (stands _ (clean E03)) (λ x. absurd cc) h }
kept_by c n end h proper clean = record { arrays = h.arrays; procedures = h.procedures; calls = h.calls; prologue_is_late = moved c _ kinds.End (and_parts _ _ (stands _ (clean E03))).0 (λ x. absurd cc) h }
kept_by c n (label name) h proper clean = open_label c name h c.part
kept_by c n (instruction i lacks) h proper clean = instruction_kept c n i lacks h (small_of i proper) (clean E09)
kept_by c n (before calls) h proper clean = before_kept c n calls h (clean E03) (clean E09)
kept_by c n (thread calls) h proper clean = thread_kept c n calls h (clean E09)

pub limited_after : (c : Content) (n : ℕ) (l : Line) → IsLimited c → is_proper l ≡ true → fault_at c l ≡ None → IsLimited (after c n l)
limited_after c n l h proper e = kept_by c n l h proper (no_fault c l e)

pub limited_start : IsLimited start
limited_start = record {
  arrays = record { few_arrays = omega arith; words_are = refl; few_words = omega arith };
  procedures = record {
    few_instructions = omega arith;
    push = record { small_bounds = refl; labels_within = refl };
    pop = record { small_bounds = refl; labels_within = refl };
  };
  calls = record { few_threads = omega arith; calls_are = refl; few_calls = omega arith };
  prologue_is_late = refl;
}
