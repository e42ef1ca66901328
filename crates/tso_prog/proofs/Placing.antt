-- What stays of a procedure when its labels become positions.
use Rattle.std.proofs.Common.{◌≡◌, ℕ, suc, Bool, true, false, cond, List, [], ◌∷◌, length, map, Option, Some, None, Result, Ok, Err, refl, sym, ap, ◌∙◌}
use Rattle.std.specs.Prelude.{nat_le, find}
use Rattle.std.specs.List.{list_all}
use Rattle.std.specs.Option.{option_map}
use Rattle.std.specs.Str.{bytes_eq}
use Rattle.std.proofs.Math.Dec.{leb-zero}
use Rattle.std.proofs.lemmas.Bool.{and_parts, and_from}
use Rattle.std.proofs.lemmas.List.{length-map}
use Rattle.tso_line.specs.declared.instruction.Instruction.{Instruction}
use Rattle.tso_line.specs.declared.instruction.Instruction.TheVariants as instructions
use Rattle.tso_line.specs.Instructions.{renamed, label_of}
use Rattle.tso_line.specs.Lines.{Name}
use Rattle.tso_prog.specs.Limits.{has_small_bound, are_bounds_small, has_target_within, are_targets_within}
use Rattle.tso_prog.specs.declared.fault.Fault.{Fault}
use Rattle.tso_prog.specs.Contents.{TargetOf, StepOf}
use Rattle.tso_prog.specs.Program.{◌>>=◌}
use Rattle.tso_prog.specs.Finish.{target_position, jump_to, with_target, labelled_step, labelled}

-- one instruction and the others
pub record Both {A : Type 0} (r : Result A Fault) (q : Result (List A) Fault) (ts : List A) : Type 0 where
  pub first : A
  pub others : List A
  pub first_is : r ≡ Ok first
  pub others_are : q ≡ Ok others
  pub all_are : ts ≡ first ∷ others

both : {A : Type 0} (r : Result A Fault) (q : Result (List A) Fault) (ts : List A) → (r >>= λ t. q >>= λ us. Ok (t ∷ us)) ≡ Ok ts → Both r q ts
both (Ok t) (Ok us) ts e = record { first = t; others = us; first_is = refl; others_are = refl; all_are = let f : t ∷ us ≡ ts = cc in sym f }
both (Ok t) (Err f) ts e = absurd cc
both (Err f) q ts e = absurd cc

pub labelled_both : (labels : List TargetOf) (s : StepOf) (ss : List StepOf) (ts : List (Instruction ℕ ℕ)) → labelled labels (s ∷ ss) ≡ Ok ts → Both (labelled_step labels s) (labelled labels ss) ts
unfolding labelled
labelled_both labels s ss ts e = both (labelled_step labels s) (labelled labels ss) ts e

labelled_none : (labels : List TargetOf) (ts : List (Instruction ℕ ℕ)) → labelled labels [] ≡ Ok ts → [] ≡ ts
unfolding labelled
labelled_none labels ts e = cc

-- ---- lengths

pub labelled_length : (labels : List TargetOf) (ss : List StepOf) (ts : List (Instruction ℕ ℕ)) → labelled labels ss ≡ Ok ts → length ts ≡ length ss
labelled_length labels [] ts e = sym (ap (λ (x : List (Instruction ℕ ℕ)). length x) (labelled_none labels ts e))
labelled_length labels (s ∷ ss) ts e =
    let b = labelled_both labels s ss ts e in
    ap (λ (x : List (Instruction ℕ ℕ)). length x) b.all_are ∙ ap suc (labelled_length labels ss b.others b.others_are)

-- ---- a test of each instruction

-- where the test holds of each step, and so of each instruction that a step becomes
pub labelled_all : (p : StepOf → Bool) (q : Instruction ℕ ℕ → Bool) (labels : List TargetOf) → ((s : StepOf) (t : Instruction ℕ ℕ) → p s ≡ true → labelled_step labels s ≡ Ok t → q t ≡ true)
    → (ss : List StepOf) (ts : List (Instruction ℕ ℕ)) → list_all p ss ≡ true → labelled labels ss ≡ Ok ts → list_all q ts ≡ true
labelled_all p q labels each [] ts h e = sym (ap (list_all q) (labelled_none labels ts e))
labelled_all p q labels each (s ∷ ss) ts h e =
    let b = labelled_both labels s ss ts e in
    let (x, y) = and_parts (p s) (list_all p ss) h in
    ap (list_all q) b.all_are ∙ and_from (q b.first) (list_all q b.others) (each s b.first x b.first_is) (labelled_all p q labels each ss b.others y b.others_are)

-- a step becomes the same instruction with some place
pub record Placed (labels : List TargetOf) (s : StepOf) (t : Instruction ℕ ℕ) : Type 0 where
  pub place : ℕ
  pub is : t ≡ renamed (λ a. a) (λ _. place) s.instruction

placed_as : (labels : List TargetOf) (s : StepOf) (t : Instruction ℕ ℕ) (name : Option Name) → with_target labels s name ≡ Ok t → Placed labels s t
placed_as labels s t None e = record { place = 0; is = let f : renamed (λ a. a) (λ _. 0) s.instruction ≡ t = cc in sym f }
placed_as labels s t (Some name) e = jumps (target_position labels name) e
  where
    jumps : (o : Option ℕ) → jump_to s o ≡ Ok t → Placed labels s t
    jumps None e = absurd cc
    jumps (Some place) e = record { place = place; is = let f : renamed (λ a. a) (λ _. place) s.instruction ≡ t = cc in sym f }

pub placed_step : (labels : List TargetOf) (s : StepOf) (t : Instruction ℕ ℕ) → labelled_step labels s ≡ Ok t → Placed labels s t
placed_step labels s t e = placed_as labels s t (label_of s.instruction) e

small_kept : (i : Instruction ℕ Name) (place : ℕ) → has_small_bound (renamed (λ a. a) (λ _. place) i) ≡ has_small_bound i
small_kept (instructions.Move to from) place = refl
small_kept (instructions.Load to from) place = refl
small_kept (instructions.Store to from) place = refl
small_kept (instructions.Compute operation to from) place = refl
small_kept (instructions.Compare comparison left right) place = refl
small_kept (instructions.Increment to) place = refl
small_kept (instructions.Decrement to) place = refl
small_kept (instructions.Jump when target bound) place = refl
small_kept (instructions.Assert condition) place = refl
small_kept (instructions.Locked operation cell register) place = refl
small_kept instructions.Fence place = refl
small_kept instructions.Nop place = refl
small_kept instructions.Pause place = refl
small_kept instructions.Return place = refl

small_step : (labels : List TargetOf) (s : StepOf) (t : Instruction ℕ ℕ) → has_small_bound s.instruction ≡ true → labelled_step labels s ≡ Ok t → has_small_bound t ≡ true
small_step labels s t h e =
    let p = placed_as labels s t (label_of s.instruction) e in
    ap has_small_bound p.is ∙ small_kept s.instruction p.place ∙ h

pub small_bounds : (labels : List TargetOf) (ss : List StepOf) (ts : List (Instruction ℕ ℕ)) → list_all (λ s. has_small_bound s.instruction) ss ≡ true → labelled labels ss ≡ Ok ts → are_bounds_small ts ≡ true
small_bounds labels ss ts h e = labelled_all (λ s. has_small_bound s.instruction) has_small_bound labels (small_step labels) ss ts h e

-- ---- targets

position_within : (n : ℕ) (labels : List TargetOf) (name : Name) (place : ℕ) → list_all (λ l. nat_le l.at n) labels ≡ true → target_position labels name ≡ Some place → nat_le place n ≡ true
position_within n [] name place h e = absurd cc
position_within n (l ∷ ls) name place h e = at (bytes_eq l.name name) (and_parts (nat_le l.at n) (list_all (λ l. nat_le l.at n) ls) h).0 (position_within n ls name place (and_parts (nat_le l.at n) (list_all (λ l. nat_le l.at n) ls) h).1) e
  where
    at : (b : Bool) → nat_le l.at n ≡ true → (target_position ls name ≡ Some place → nat_le place n ≡ true) → option_map (λ (l : TargetOf). l.at) (cond b (Some l) (find (λ l. bytes_eq l.name name) ls)) ≡ Some place → nat_le place n ≡ true
    at true h again e = let f : l.at ≡ place = cc in ap (λ (k : ℕ). nat_le k n) (sym f) ∙ h
    at false h again e = again e

target_of_position : (n : ℕ) (i : Instruction ℕ Name) (place : ℕ) → nat_le place n ≡ true → has_target_within n (renamed (λ a. a) (λ _. place) i) ≡ true
target_of_position n (instructions.Move to from) place h = refl
target_of_position n (instructions.Load to from) place h = refl
target_of_position n (instructions.Store to from) place h = refl
target_of_position n (instructions.Compute operation to from) place h = refl
target_of_position n (instructions.Compare comparison left right) place h = refl
target_of_position n (instructions.Increment to) place h = refl
target_of_position n (instructions.Decrement to) place h = refl
target_of_position n (instructions.Jump when target bound) place h = h
target_of_position n (instructions.Assert condition) place h = refl
target_of_position n (instructions.Locked operation cell register) place h = refl
target_of_position n instructions.Fence place h = refl
target_of_position n instructions.Nop place h = refl
target_of_position n instructions.Pause place h = refl
target_of_position n instructions.Return place h = refl

with_target_is : (n : ℕ) (labels : List TargetOf) (s : StepOf) (t : Instruction ℕ ℕ) (name : Option Name) → list_all (λ l. nat_le l.at n) labels ≡ true → with_target labels s name ≡ Ok t → has_target_within n t ≡ true
with_target_is n labels s t None h e =
    let f : renamed (λ a. a) (λ _. 0) s.instruction ≡ t = cc in
    ap (has_target_within n) (sym f) ∙ target_of_position n s.instruction 0 (leb-zero n)
with_target_is n labels s t (Some name) h e = jumps (target_position labels name) refl e
  where
    jumps : (o : Option ℕ) → target_position labels name ≡ o → jump_to s o ≡ Ok t → has_target_within n t ≡ true
    jumps None at e = absurd cc
    jumps (Some place) at e =
        let f : renamed (λ a. a) (λ _. place) s.instruction ≡ t = cc in
        ap (has_target_within n) (sym f) ∙ target_of_position n s.instruction place (position_within n labels name place h at)

pub targets_within : (n : ℕ) (labels : List TargetOf) (ss : List StepOf) (ts : List (Instruction ℕ ℕ)) → list_all (λ l. nat_le l.at n) labels ≡ true → labelled labels ss ≡ Ok ts → are_targets_within n ts ≡ true
targets_within n labels ss ts h e = labelled_all (λ _. true) (has_target_within n) labels (λ s t _ is. with_target_is n labels s t (label_of s.instruction) h is) ss ts (all_true ss) e
  where
    all_true : (xs : List StepOf) → list_all (λ _. true) xs ≡ true
    all_true [] = refl
    all_true (x ∷ xs) = all_true xs

-- ---- lines

pub lines_length : {X : Type 0} (view : X → StepOf) (number : X → ℕ) (labels : List TargetOf) (xs : List X) (ts : List (Instruction ℕ ℕ)) → labelled labels (map view xs) ≡ Ok ts → length (map number xs) ≡ length ts
lines_length view number labels xs ts e = length-map xs number ∙ sym (labelled_length labels (map view xs) ts e ∙ length-map xs view)

pub targets_of : (labels : List TargetOf) (ss : List StepOf) (ts : List (Instruction ℕ ℕ)) → list_all (λ l. nat_le l.at (length ss)) labels ≡ true → labelled labels ss ≡ Ok ts → are_targets_within (length ts) ts ≡ true
targets_of labels ss ts h e = ap (λ (n : ℕ). are_targets_within n ts) (labelled_length labels ss ts e) ∙ targets_within (length ss) labels ss ts h e

pub line_map : {X : Type 0} (view : X → StepOf) (number : X → ℕ) → ((x : X) → (view x).line ≡ number x) → (xs : List X) → map number xs ≡ map (λ (s : StepOf). s.line) (map view xs)
line_map view number same [] = refl
line_map view number same (x ∷ xs) = λ i. sym (same x) i ∷ line_map view number same xs i
