-- A call is cut at the bound of a jump back, and nowhere else.
use Rattle.std.proofs.Common.{◌≡◌, ◌∙◌, ℕ, zero, suc, ◌+◌, ◌<◌, ◌≤◌, Bool, true, false, nat_le, nat_lt, ◌&&◌, List, [], ◌∷◌, length, take, Option, Some, None, slice_get, refl, sym, ap, subst, arith, if◌then◌else◌, ◌==◌}
use Rattle.std.specs.Prelude.{unwrap_or}
use Rattle.std.proofs.lemmas.Bool.{and_parts, leb-true, ltb-true, ltb-false}
use Rattle.tso_word.specs.declared.Condition.{Condition}
use Rattle.tso_word.specs.Word.{holds}
use Rattle.tso_line.specs.declared.instruction.Instruction.{Instruction}
use Rattle.tso_line.specs.declared.instruction.Instruction.TheVariants as the
use Rattle.tso_line.specs.declared.instruction.Register.TheVariants.{Rax}
use Rattle.tso_prog.specs.declared.client.Client.{Client}
use Rattle.tso_flow.proofs.Sound.{has_bounds}
use Rattle.tso_flow.specs.Faults.{is_back_without_bound, HasNoFault}
use Rattle.tso_flow.specs.declared.location.ProcedureKind.{ProcedureKind}
use Rattle.tso_flow.specs.declared.location.ProcedureKind.TheVariants as procedures
use Rattle.tso_machine.proofs.Counts.{bound_at}
use Rattle.tso_machine.specs.Activations.{Activation}
use Rattle.tso_machine.specs.Control.{instruction_at, IsAtBound}
use Rattle.tso_machine.specs.Frames.{register_of}
use Rattle.tso_machine.specs.Instructions.{action_at, at_place, back_jumps, counted_jump, done_answer, instruction_action, instructions_of, is_taken, jump, next_action}
use Rattle.tso_machine.specs.Laws.{CutsAreBounds}
use Rattle.tso_machine.specs.Places.{operand_place}
use Rattle.tso_machine.specs.Soundness.{are_within, bounds_in, runs_procedure}
use Rattle.tso_machine.specs.declared.frame.Frame.{Frame}
use Rattle.tso_model.specs.Programs.{Action, Answer, Silent, Ret, Fail, Cut, Refused, BadAnswer, FalseAssertion}

-- ---- counts

record Counted (counts : List ℕ) (n bound : ℕ) : Type 0 where
  count : ℕ
  there : slice_get counts n ≡ Some count
  below : count ≤ bound

counted : (counts bounds : List ℕ) (n bound : ℕ) → are_within counts bounds ≡ true → slice_get bounds n ≡ Some bound → Counted counts n bound
counted [] [] n bound e here = absurd cc
counted [] (b ∷ bs) n bound e here = absurd cc
counted (t ∷ ts) [] n bound e here = absurd cc
counted (t ∷ ts) (b ∷ bs) zero bound e here =
    let same : b ≡ bound = cc in
    let parts = and_parts (nat_le t b) (are_within ts bs) e in
    record { count = t; there = refl; below = omega (arith, leb-true t b parts.0, same) }
counted (t ∷ ts) (b ∷ bs) (suc n) bound e here =
    let h = counted ts bs n bound (and_parts (nat_le t b) (are_within ts bs) e).1 here in record { count = h.count; there = h.there; below = h.below }

-- ---- jumps back have bounds

record HasBound (bound : Option ℕ) : Type 0 where
  number : ℕ
  is : bound ≡ Some number

some_bound : (i : ℕ) (when : Option Condition) (target : ℕ) (bound : Option ℕ) → nat_le target i ≡ true → is_back_without_bound i (the.Jump when target bound) ≡ false → HasBound bound
some_bound i when target None back e = let h : true ≡ false = sym (ap (λ (b : Bool). b && true) back) ∙ e in absurd cc
some_bound i when target (Some b) back e = record { number = b; is = refl }

bounded : (c : Client) (name : ProcedureKind) (i : ℕ) (when : Option Condition) (target : ℕ) (bound : Option ℕ) → HasNoFault c → slice_get (instructions_of c name) i ≡ Some (the.Jump when target bound)
    → nat_le target i ≡ true → HasBound bound
bounded c procedures.Push i when target bound sound there back = some_bound i when target bound back (has_bounds c procedures.Push sound i (the.Jump when target bound) there).0
bounded c procedures.Pop i when target bound sound there back = some_bound i when target bound back (has_bounds c procedures.Pop sound i (the.Jump when target bound) there).0

-- ---- no other instruction is cut

silent_no_cut : {P : Type 0} (a : Activation) → Silent a ≡ Cut → P
silent_no_cut a e = absurd cc

module _ (c : Client) (a : Activation) (sound : HasNoFault c) (within : are_within a.frame.taken (bounds_in c a.procedure) ≡ true) where
  abbrev f : Frame
  f = a.frame

  abbrev number : ℕ
  number = back_jumps 0 (take a.frame.pc (instructions_of c a.procedure))

  counted_cut : (when : Option Condition) (target bound count : ℕ) (b : Bool) → nat_lt count bound ≡ b → instruction_at c a ≡ Some (the.Jump when target (Some bound)) → target ≤ a.frame.pc
      → is_taken when a.frame.flags ≡ true → slice_get a.frame.taken number ≡ Some count → count ≤ bound → (go : Activation) → (if b then Silent go else Cut) ≡ Cut → IsAtBound c a
  counted_cut when target bound count true e there back taken at below go cut = silent_no_cut go cut
  counted_cut when target bound count false e there back taken at below go cut =
      let le : bound ≤ count = ltb-false count bound e in
      let same : count ≡ bound = omega arith in
      record { condition = when; target = target; bound = bound; jump = there; back = back; taken = taken; count = at ∙ ap Some same }

  back_cut : (when : Option Condition) (target bound : ℕ) → instruction_at c a ≡ Some (the.Jump when target (Some bound)) → nat_le target a.frame.pc ≡ true → is_taken when a.frame.flags ≡ true
      → counted_jump a.procedure a.frame target bound number (slice_get a.frame.taken number) ≡ Cut → IsAtBound c a
  back_cut when target bound there back taken cut =
      let none : 0 + a.frame.pc ≡ a.frame.pc = omega arith in
      let back' : nat_le target (0 + a.frame.pc) ≡ true = rw none back in
      let here : slice_get (bounds_in c a.procedure) number ≡ Some bound = bound_at 0 a.frame.pc (instructions_of c a.procedure) (the.Jump when target (Some bound)) there back' in
      let h = counted a.frame.taken (bounds_in c a.procedure) number bound within here in
      let Q : Option ℕ → Type 0 = λ o. counted_jump a.procedure a.frame target bound number o ≡ Cut in
      counted_cut when target bound h.count (nat_lt h.count bound) refl there (leb-true target a.frame.pc back) taken h.there h.below _ (subst Q h.there cut)

  jumped : (when : Option Condition) (target : ℕ) (bound : Option ℕ) (b : Bool) → nat_le target a.frame.pc ≡ b → instruction_at c a ≡ Some (the.Jump when target bound) → is_taken when a.frame.flags ≡ true
      → (go : Activation) → (if b then counted_jump a.procedure a.frame target (unwrap_or bound 0) number (slice_get a.frame.taken number) else Silent go) ≡ Cut → IsAtBound c a
  jumped when target bound false back there taken go cut = silent_no_cut go cut
  jumped when target bound true back there taken go cut =
      let has = bounded c a.procedure a.frame.pc when target bound sound there back in
      let J : Option ℕ → Type 0 = λ o. instruction_at c a ≡ Some (the.Jump when target o) in
      let C : Option ℕ → Type 0 = λ o. counted_jump a.procedure a.frame target (unwrap_or o 0) number (slice_get a.frame.taken number) ≡ Cut in
      back_cut when target has.number (subst J has.is there) back taken (subst C has.is cut)

  jump_cut : (when : Option Condition) (target : ℕ) (bound : Option ℕ) (b : Bool) → is_taken when a.frame.flags ≡ b → instruction_at c a ≡ Some (the.Jump when target bound)
      → (go : Activation) → (if b then jump a.procedure a.frame number target bound else Silent go) ≡ Cut → IsAtBound c a
  jump_cut when target bound false taken there go cut = silent_no_cut go cut
  jump_cut when target bound true taken there go cut = jumped when target bound (nat_le target a.frame.pc) refl there taken _ cut

  no_access : (o : Option ℕ) (access : ℕ → Action Activation) → ((p : ℕ) → access p ≡ Cut → IsAtBound c a) → at_place o access ≡ Cut → IsAtBound c a
  no_access None access no_cut e = absurd cc
  no_access (Some p) access no_cut e = no_cut p e

  no_return : (x y : Bool) (k : Answer) (action : Action Activation) → action ≡ (if x then Ret Refused else (if y then Ret k else Fail BadAnswer)) → action ≡ Cut → IsAtBound c a
  no_return true y k action is e = absurd cc
  no_return false true k action is e = absurd cc
  no_return false false k action is e = absurd cc

  no_assertion : (b : Bool) (go : Activation) → (if b then Silent go else Fail FalseAssertion) ≡ Cut → IsAtBound c a
  no_assertion true go e = silent_no_cut go e
  no_assertion false go e = absurd cc

  cut_at : (step : Instruction ℕ ℕ) → instruction_at c a ≡ Some step → instruction_action c a.procedure a.frame step ≡ Cut → IsAtBound c a
  cut_at (the.Move to from) there e = silent_no_cut _ e
  cut_at (the.Load to from) there e = no_access (operand_place c.arrays a.frame from) _ (λ p e'. absurd cc) e
  cut_at (the.Store to from) there e = no_access (operand_place c.arrays a.frame to) _ (λ p e'. absurd cc) e
  cut_at (the.Compute operation to from) there e = silent_no_cut _ e
  cut_at (the.Compare comparison left right) there e = silent_no_cut _ e
  cut_at (the.Increment r) there e = silent_no_cut _ e
  cut_at (the.Decrement r) there e = silent_no_cut _ e
  cut_at (the.Jump when target bound) there e = jump_cut when target bound (is_taken when a.frame.flags) refl there _ e
  cut_at (the.Assert condition) there e = no_assertion (holds condition a.frame.flags) _ e
  cut_at (the.Locked operation cell r) there e = no_access (operand_place c.arrays a.frame cell) _ (λ p e'. absurd cc) e
  cut_at the.Fence there e = absurd cc
  cut_at the.Nop there e = silent_no_cut _ e
  cut_at the.Pause there e = silent_no_cut _ e
  cut_at the.Return there e = no_return (register_of a.frame Rax == 0) (register_of a.frame Rax == 1) (done_answer a.procedure a.frame) _ refl e

  found : (o : Option (Instruction ℕ ℕ)) → instruction_at c a ≡ o → a.frame.pc < length (instructions_of c a.procedure) → action_at c a.procedure a.frame o ≡ Cut → IsAtBound c a
  found None there inside e = absurd (none_inside (instructions_of c a.procedure) a.frame.pc inside there)
    where
      none_inside : (is : List (Instruction ℕ ℕ)) (i : ℕ) → i < length is → slice_get is i ≡ None → ⊥
      none_inside [] i lt e' = omega arith
      none_inside (x ∷ xs) zero lt e' = cc
      none_inside (x ∷ xs) (suc i) lt e' = none_inside xs i (omega arith) e'
  found (Some step) there inside e = cut_at step there e

pub cuts_are_bounds : (c : Client) → HasNoFault c → CutsAreBounds c
unfolding next_action
cuts_are_bounds c sound call a fine cut =
    let counts = are_within a.frame.taken (bounds_in c a.procedure) in
    let position = nat_lt a.frame.pc (length (instructions_of c a.procedure)) in
    let first = and_parts (runs_procedure call a.procedure) (position && counts) fine in
    let second = and_parts position counts first.1 in
    found c a sound second.1 (slice_get (instructions_of c a.procedure) a.frame.pc) refl (ltb-true a.frame.pc (length (instructions_of c a.procedure)) second.0) cut
