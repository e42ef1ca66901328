-- A printed client is read as itself.
use Rattle.std.proofs.Common.{◌≡◌, ℕ, ◌+◌, ◌≤◌, Bool, true, false, cond, List, [], ◌∷◌, ◌++◌, length, map, Some, Result, Ok, refl, sym, ap, subst, ◌∙◌, append_assoc, eq-eqb, arith}
use Rattle.std.specs.Prelude.{◌||◌, ◌==◌}
use Rattle.std.specs.List.{list_all, list_any, AllByRecursion}
use Rattle.std.proofs.lemmas.Bool.{and_parts, leb-true, eqb-true}
use Rattle.std.proofs.lemmas.Bool.Decides.{nat_tests}
use Rattle.std.proofs.lemmas.List.{append-nil}
use Rattle.std.proofs.lemmas.List.Folds.{list_any-append}
use Rattle.tso_line.specs.declared.instruction.Instruction.{Instruction}
use Rattle.tso_line.specs.declared.instruction.Instruction.TheVariants as instructions
use Rattle.tso_line.specs.Instructions.{label_of}
use Rattle.tso_line.specs.Lines.{Name}
use Rattle.tso_prog.specs.declared.fault.Fault.{Fault}
use Rattle.tso_prog.specs.Contents.{TargetOf, StepOf}
use Rattle.tso_prog.specs.Finish.{target_position, jump_to, labelled_step, labelled}
use Rattle.tso_prog.specs.Limits.{has_target_within}
use Rattle.tso_prog.specs.Program.{◌>>=◌}
use Rattle.tso_print.specs.Layout.{label_name, is_target, is_jumped_to}
use Rattle.tso_print.proofs.Naming.{label_at, Before, before_none, place_behind, place_here}
use Rattle.tso_print.proofs.Reading.{labelled_by, label_made, labels_from}

-- ---- labels

place_at : (steps : List (Instruction ℕ ℕ)) (t : ℕ) (more : List TargetOf) → is_jumped_to steps t ≡ true → target_position (label_made steps t ++ more) (label_name t) ≡ Some t
place_at steps t more e = rw e (place_here t more)

made_before : (b : Bool) (at : ℕ) → Before (at + 1) (cond b (label_at at ∷ []) [])
made_before true at = ((omega arith, refl), tt)
made_before false at = tt

later : (a t : ℕ) → a ≤ t → (t == a) ≡ false → a + 1 ≤ t
later a t le e = grind (arith, nat_tests)

found_at : (b : Bool) (steps : List (Instruction ℕ ℕ)) (i : Instruction ℕ ℕ) (is : List (Instruction ℕ ℕ)) (at t : ℕ) → (t == at) ≡ b → at ≤ t → t ≤ 256 → is_jumped_to steps t ≡ true
    → (at + 1 ≤ t → target_position (labels_from steps (at + 1) is) (label_name t) ≡ Some t) → target_position (labels_from steps at (i ∷ is)) (label_name t) ≡ Some t
found_at true steps i is at t f low few e again = subst (λ (a : ℕ). target_position (label_made steps a ++ labels_from steps (at + 1) is) (label_name t) ≡ Some t) (eqb-true t at f) (place_at steps t (labels_from steps (at + 1) is) e)
found_at false steps i is at t f low few e again =
    let next = later at t low f in
    place_behind (label_made steps at) (labels_from steps (at + 1) is) (label_name t) (before_none (at + 1) t (label_made steps at) next few (made_before (is_jumped_to steps at) at)) ∙ again next

found_from : (steps is : List (Instruction ℕ ℕ)) (at t : ℕ) → at ≤ t → t ≤ at + length is → t ≤ 256 → is_jumped_to steps t ≡ true → target_position (labels_from steps at is) (label_name t) ≡ Some t
found_from steps [] at t low high few e =
    let same : t ≡ at = omega (arith, low, high) in
    subst (λ (a : ℕ). target_position (label_made steps a) (label_name t) ≡ Some t) same (ap (λ (ls : List TargetOf). target_position ls (label_name t)) (sym (append-nil (label_made steps t))) ∙ place_at steps t [] e)
found_from steps (i ∷ is) at t low high few e = found_at (t == at) steps i is at t refl low few e (λ next. found_from steps is (at + 1) t next (omega (arith, high)) few e)

-- the place of each label that an instruction names is among these
abbrev pub Finds : List TargetOf → Instruction ℕ ℕ → Type 0
Finds labels i = (t : ℕ) → label_of i ≡ Some t → target_position labels (label_name t) ≡ Some t

target_near : (len : ℕ) (i : Instruction ℕ ℕ) (t : ℕ) → has_target_within len i ≡ true → label_of i ≡ Some t → t ≤ len
target_near len (instructions.Move to from) t e f = absurd cc
target_near len (instructions.Load to from) t e f = absurd cc
target_near len (instructions.Store to from) t e f = absurd cc
target_near len (instructions.Compute operation to from) t e f = absurd cc
target_near len (instructions.Compare comparison left right) t e f = absurd cc
target_near len (instructions.Increment to) t e f = absurd cc
target_near len (instructions.Decrement to) t e f = absurd cc
target_near len (instructions.Jump when target bound) t e f = let same : target ≡ t = cc in let le : target ≤ len = leb-true target len e in omega (arith, same, le)
target_near len (instructions.Assert condition) t e f = absurd cc
target_near len (instructions.Locked operation cell r) t e f = absurd cc
target_near len instructions.Fence t e f = absurd cc
target_near len instructions.Nop t e f = absurd cc
target_near len instructions.Pause t e f = absurd cc
target_near len instructions.Return t e f = absurd cc

jumped_to : (front is : List (Instruction ℕ ℕ)) (i : Instruction ℕ ℕ) (t : ℕ) → label_of i ≡ Some t → is_jumped_to (front ++ i ∷ is) t ≡ true
jumped_to front is i t e =
    let here : is_target t (label_of i) ≡ true = ap (is_target t) e ∙ eq-eqb t t refl in
    list_any-append (λ (j : Instruction ℕ ℕ). is_target t (label_of j)) front (i ∷ is) ∙ (rw here (any_true (list_any (λ (j : Instruction ℕ ℕ). is_target t (label_of j)) front)))
  where
    any_true : (b : Bool) → (b || true) ≡ true
    any_true true = refl
    any_true false = refl

pub all_found : (steps front is : List (Instruction ℕ ℕ)) → front ++ is ≡ steps → length steps ≤ 256 → list_all (has_target_within (length steps)) is ≡ true → AllByRecursion (λ (i : Instruction ℕ ℕ). Finds (labels_from steps 0 steps) i) is
all_found steps front [] e few within = tt
all_found steps front (i ∷ is) e few within =
    let a = and_parts (has_target_within (length steps) i) (list_all (has_target_within (length steps)) is) within in (
      λ t f. let near = target_near (length steps) i t a.0 f in
          found_from steps steps 0 t (omega arith) (omega (arith, near)) (omega (arith, near, few)) (subst (λ (all : List (Instruction ℕ ℕ)). is_jumped_to all t ≡ true) e (jumped_to front is i t f)),
      all_found steps (front ++ i ∷ []) is (append_assoc front (i ∷ []) is ∙ e) few a.1,
    )

step_is : (labels : List TargetOf) (i : Instruction ℕ ℕ) (n : ℕ) → Finds labels i → labelled_step labels (record { instruction = labelled_by i; line = n }) ≡ Ok i
step_is labels (instructions.Move to from) n h = refl
step_is labels (instructions.Load to from) n h = refl
step_is labels (instructions.Store to from) n h = refl
step_is labels (instructions.Compute operation to from) n h = refl
step_is labels (instructions.Compare comparison left right) n h = refl
step_is labels (instructions.Increment to) n h = refl
step_is labels (instructions.Decrement to) n h = refl
step_is labels (instructions.Jump when target bound) n h = ap (jump_to (record { instruction = labelled_by (instructions.Jump when target bound); line = n })) (h target refl)
step_is labels (instructions.Assert condition) n h = refl
step_is labels (instructions.Locked operation cell r) n h = refl
step_is labels instructions.Fence n h = refl
step_is labels instructions.Nop n h = refl
step_is labels instructions.Pause n h = refl
step_is labels instructions.Return n h = refl

first_step : StepOf → List (Instruction ℕ Name) → Instruction ℕ Name
first_step s [] = s.instruction
first_step s (i ∷ is) = i

rest_steps : List (Instruction ℕ Name) → List (Instruction ℕ Name)
rest_steps [] = []
rest_steps (i ∷ is) = is

pub all_labelled : (labels : List TargetOf) (is : List (Instruction ℕ ℕ)) (ts : List StepOf) → map (λ (s : StepOf). s.instruction) ts ≡ map labelled_by is → AllByRecursion (λ (i : Instruction ℕ ℕ). Finds labels i) is → labelled labels ts ≡ Ok is
unfolding labelled first_step rest_steps
all_labelled labels [] [] e h = refl
all_labelled labels [] (t ∷ ts) e h = absurd cc
all_labelled labels (i ∷ is) [] e h = absurd cc
all_labelled labels (i ∷ is) (t ∷ ts) e h =
    let one : labelled_step labels t ≡ Ok i = subst (λ (j : Instruction ℕ Name). labelled_step labels (record { instruction = j; line = t.line }) ≡ Ok i) (sym (ap (first_step t) e)) (step_is labels i t.line h.0) in
    let more : labelled labels ts ≡ Ok is = all_labelled labels is ts (ap rest_steps e) h.1 in
    ap (λ (r : Result (Instruction ℕ ℕ) Fault). r >>= λ s. labelled labels ts >>= λ ss. Ok (s ∷ ss)) one ∙ ap (λ (r : Result (List (Instruction ℕ ℕ)) Fault). r >>= λ ss. Ok (i ∷ ss)) more
