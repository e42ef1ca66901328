-- From a frame that can occur, each instruction goes on to such frames from where fewer instructions are left.
use Rattle.std.proofs.Common.{◌≡◌, ◌∙◌, ℕ, suc, ◌+◌, ◌-◌, ◌*◌, ◌<◌, ◌≤◌, Bool, true, false, nat_le, nat_lt, List, length, take, Option, Some, None, slice_get, slice_set, refl, sym, ap, arith, if◌then◌else◌, ◌==◌}
use Rattle.std.specs.Prelude.{unwrap_or}
use Rattle.std.specs.List.{sum}
use Rattle.std.proofs.lemmas.Bool.{cond_both, leb-true, leb-false, ltb-true}
use Rattle.tso_line.specs.declared.instruction.Address.{Address}
use Rattle.tso_line.specs.declared.instruction.Instruction.{Instruction}
use Rattle.tso_line.specs.declared.instruction.Instruction.TheVariants as the
use Rattle.tso_line.specs.declared.instruction.LockedOperation.{LockedOperation}
use Rattle.tso_line.specs.declared.instruction.LockedOperation.TheVariants.{Exchange, CompareExchange, ExchangeAdd}
use Rattle.tso_line.specs.declared.instruction.Register.{Register}
use Rattle.tso_line.specs.declared.instruction.Register.TheVariants.{Rax}
use Rattle.tso_word.specs.declared.Condition.{Condition}
use Rattle.tso_word.specs.Word.{holds}
use Rattle.tso_prog.specs.Limits.{are_targets_within, has_target_within}
use Rattle.tso_prog.specs.declared.client.Client.{Client}
use Rattle.tso_flow.specs.Calls.{bound_of}
use Rattle.tso_flow.specs.declared.location.ProcedureKind.{ProcedureKind}
use Rattle.tso_flow.specs.declared.location.ProcedureKind.TheVariants as procedures
use Rattle.tso_machine.proofs.Counts.{bound_at, passes_at, sum_counted, sum_within, within_counted}
use Rattle.tso_machine.proofs.PlaceBounds.{place_below}
use Rattle.tso_machine.specs.Activations.{Activation, activation}
use Rattle.tso_machine.specs.Frames.{register_of}
use Rattle.tso_machine.specs.Instructions.{at_place, back_jumps, counted_jump, done_answer, exchanged, instruction_action, instructions_of, is_taken, jump, returned, with_register}
use Rattle.tso_machine.specs.Places.{first_memory, index_of, operand_place}
use Rattle.tso_machine.specs.Soundness.{are_within, bounds_in, instructions_left, runs_procedure}
use Rattle.tso_machine.specs.declared.frame.Frame.{Frame}
use Rattle.tso_model.specs.Programs.{Action, Answer, CallKind, IsAnswerOf, Silent, Load, Store, Barrier, Locked, Ret, Fail, Cut, Refused, BadAnswer, OutOfRange, FalseAssertion}
use Rattle.tso_model.specs.Programs as model

-- ---- frames

-- g can occur where these are the bounds of so many instructions, and fewer instructions are left from it than from f
pub record Goes (len : ℕ) (bounds : List ℕ) (f g : Frame) : Type 0 where
  pub inside : g.pc ≤ len
  pub within : are_within g.taken bounds ≡ true
  pub lower : instructions_left len (sum bounds - sum g.taken) g.pc < instructions_left len (sum bounds - sum f.taken) f.pc

forward : (len : ℕ) (bounds : List ℕ) (f g : Frame) → g.taken ≡ f.taken → f.pc < g.pc → g.pc ≤ len → are_within f.taken bounds ≡ true → Goes len bounds f g
forward len bounds f g same later inside within = record {
  inside = inside;
  within = rw same within;
  lower = rw same (omega arith);
}

one_jump_less : (len b t p q : ℕ) → t + 1 ≤ b → q < len → instructions_left len (b - (t + 1)) p < instructions_left len (b - t) q
one_jump_less len b t p q le lt =
    let e : b - t ≡ suc (b - (t + 1)) = omega arith in
    let f : suc (b - (t + 1)) * len ≡ (b - (t + 1)) * len + len = omega arith in
    rw (e, f) (omega arith)

counted_back : (len : ℕ) (bounds : List ℕ) (f g : Frame) (n count bound : ℕ) → g.taken ≡ slice_set f.taken n (count + 1) → f.pc < len → g.pc ≤ len
    → are_within f.taken bounds ≡ true → slice_get f.taken n ≡ Some count → slice_get bounds n ≡ Some bound → count < bound → Goes len bounds f g
counted_back len bounds f g n count bound next lt inside within there here below =
    let still : are_within g.taken bounds ≡ true = rw next (within_counted f.taken bounds n count bound within there here below) in
    let one : sum g.taken ≡ sum f.taken + 1 = rw next (sum_counted f.taken n count there) in
    let most : sum g.taken ≤ sum bounds = sum_within g.taken bounds still in
    record {
      inside = inside;
      within = still;
      lower = rw one (one_jump_less len (sum bounds) (sum f.taken) g.pc f.pc (omega arith) lt);
    }

-- ---- actions

-- the same procedure goes on, in a frame that can occur, with fewer instructions left
pub record GoesOn (len : ℕ) (bounds : List ℕ) (name : ProcedureKind) (f : Frame) (a : Activation) : Type 0 where
  pub procedure : a.procedure ≡ name
  pub goes : Goes len bounds f a.frame

pub record Returns (len : ℕ) (name : ProcedureKind) (f : Frame) (answer : Answer) : Type 0 where
  pub answers : (call : CallKind) → runs_procedure call name ≡ true → IsAnswerOf call answer
  pub inside : f.pc < len

pub record Stores (len : ℕ) (bounds : List ℕ) (name : ProcedureKind) (f : Frame) (size place : ℕ) (a : Activation) : Type 0 where
  pub on : GoesOn len bounds name f a
  pub within : place < size

pub record Updates (len : ℕ) (bounds : List ℕ) (name : ProcedureKind) (f : Frame) (size place : ℕ) (k : ℕ → Activation) : Type 0 where
  pub on : (v : ℕ) → GoesOn len bounds name f (k v)
  pub within : place < size

-- whatever word is read, the action goes on so, and it stores inside the memory
abbrev pub IsFine : ℕ → List ℕ → ℕ → ProcedureKind → Frame → Action Activation → Type 0
IsFine len bounds size name f (Silent a) = GoesOn len bounds name f a
IsFine len bounds size name f (Load p k) = (v : ℕ) → GoesOn len bounds name f (k v)
IsFine len bounds size name f (Store p v a) = Stores len bounds name f size p a
IsFine len bounds size name f (Barrier a) = GoesOn len bounds name f a
IsFine len bounds size name f (Locked p n k) = Updates len bounds name f size p k
IsFine len bounds size name f (Ret answer) = Returns len name f answer
IsFine len bounds size name f (Fail kind) = f.pc < len
IsFine len bounds size name f Cut = Unit {0}

-- ---- parts of instructions

either_frame : (b : Bool) (x y f : Frame) → x.pc ≡ f.pc → y.pc ≡ f.pc → (if b then x else y).pc ≡ f.pc
either_frame true x y f e g = e
either_frame false x y f e g = g

either_taken : (b : Bool) (x y f : Frame) → x.taken ≡ f.taken → y.taken ≡ f.taken → (if b then x else y).taken ≡ f.taken
either_taken true x y f e g = e
either_taken false x y f e g = g

pub exchanged_pc : (operation : LockedOperation) (r : Register) (f : Frame) (old : ℕ) → (exchanged operation r f old).pc ≡ f.pc
exchanged_pc Exchange r f old = refl
exchanged_pc CompareExchange r f old = either_frame (register_of f Rax == old) f (with_register Rax old f) f refl refl
exchanged_pc ExchangeAdd r f old = refl

pub exchanged_taken : (operation : LockedOperation) (r : Register) (f : Frame) (old : ℕ) → (exchanged operation r f old).taken ≡ f.taken
exchanged_taken Exchange r f old = refl
exchanged_taken CompareExchange r f old = either_taken (register_of f Rax == old) f (with_register Rax old f) f refl refl
exchanged_taken ExchangeAdd r f old = refl

done_fits : (call : CallKind) (name : ProcedureKind) (f : Frame) → runs_procedure call name ≡ true → IsAnswerOf call (done_answer name f)
done_fits (model.Push v) procedures.Push f e = tt
done_fits (model.Push v) procedures.Pop f e = absurd cc
done_fits model.Pop procedures.Push f e = absurd cc
done_fits model.Pop procedures.Pop f e = tt

refused_fits : (call : CallKind) → IsAnswerOf call Refused
refused_fits (model.Push v) = tt
refused_fits model.Pop = tt

bound_is : (when : Option Condition) (target : ℕ) (bound : Option ℕ) → unwrap_or bound 0 ≡ bound_of (the.Jump when target bound)
bound_is when target None = refl
bound_is when target (Some b) = refl

pub targets_in : (c : Client) (name : ProcedureKind) → are_targets_within (length (instructions_of c name)) (instructions_of c name) ≡ true
targets_in c procedures.Push = c.push.targets_within
targets_in c procedures.Pop = c.pop.targets_within

-- ---- one instruction

module _ (c : Client) (name : ProcedureKind) (f : Frame) (i : Instruction ℕ ℕ) (there : slice_get (instructions_of c name) f.pc ≡ Some i)
    (lt : f.pc < length (instructions_of c name)) (within : are_within f.taken (bounds_in c name) ≡ true) where
  abbrev Fine : Action Activation → Type 0
  Fine action = IsFine (length (instructions_of c name)) (bounds_in c name) (length (first_memory c.arrays)) name f action

  abbrev On : Frame → Type 0
  On g = GoesOn (length (instructions_of c name)) (bounds_in c name) name f (activation name g)

  next : (g : Frame) → g.taken ≡ f.taken → g.pc ≡ f.pc + 1 → On g
  next g same pc = record { procedure = refl; goes = forward (length (instructions_of c name)) (bounds_in c name) f g same (omega (arith, pc)) (omega (arith, pc)) within }

  accessed : (o : Option ℕ) (access : ℕ → Action Activation) → ((p : ℕ) → o ≡ Some p → Fine (access p)) → Fine (at_place o access)
  accessed None access fine = lt
  accessed (Some p) access fine = fine p refl

  inside_memory : (a : Address ℕ) (p : ℕ) → operand_place c.arrays f a ≡ Some p → p < length (first_memory c.arrays)
  inside_memory a p e = place_below c.arrays a.array p (index_of f a) e

  pub returned_fine : Fine (returned name f)
  returned_fine =
      cond_both (register_of f Rax == 0) (Ret Refused) (if register_of f Rax == 1 then Ret (done_answer name f) else Fail BadAnswer) Fine
      (λ e. record { answers = λ call runs. refused_fits call; inside = lt })
      (λ e. cond_both (register_of f Rax == 1) (Ret (done_answer name f)) (Fail BadAnswer) Fine
      (λ e'. record { answers = λ call runs. done_fits call name f runs; inside = lt }) (λ e'. lt))

  asserted_fine : (b : Bool) (g : Frame) → On g → Fine (if b then Silent (activation name g) else Fail FalseAssertion)
  asserted_fine true g on = on
  asserted_fine false g on = lt

  counted_fine : (target bound : ℕ) (o : Option ℕ) → slice_get f.taken (back_jumps 0 (take f.pc (instructions_of c name))) ≡ o → target ≤ length (instructions_of c name)
      → slice_get (bounds_in c name) (back_jumps 0 (take f.pc (instructions_of c name))) ≡ Some bound
      → Fine (counted_jump name f target bound (back_jumps 0 (take f.pc (instructions_of c name))) o)
  counted_fine target bound None e inside here = tt
  counted_fine target bound (Some count) e inside here =
      let n = back_jumps 0 (take f.pc (instructions_of c name)) in
      let g : Frame = record f { pc = target; taken = slice_set f.taken n (count + 1) } in
      cond_both (nat_lt count bound) (Silent (activation name g)) Cut Fine
      (λ below. record { procedure = refl; goes = counted_back (length (instructions_of c name)) (bounds_in c name) f g n count bound refl lt inside within e here (ltb-true count bound below) })
      (λ above. tt)

  jump_fine : (when : Option Condition) (target : ℕ) (bound : Option ℕ) → i ≡ the.Jump when target bound
      → Fine (jump name f (back_jumps 0 (take f.pc (instructions_of c name))) target bound)
  jump_fine when target bound is =
      let n = back_jumps 0 (take f.pc (instructions_of c name)) in
      let g : Frame = record f { pc = target } in
      let there' : slice_get (instructions_of c name) f.pc ≡ Some (the.Jump when target bound) = there ∙ ap Some is in
      let passes : nat_le target (length (instructions_of c name)) ≡ true =
      passes_at (has_target_within (length (instructions_of c name))) (instructions_of c name) f.pc (the.Jump when target bound) (targets_in c name) there' in
      let inside : target ≤ length (instructions_of c name) = leb-true target (length (instructions_of c name)) passes in
      let none : 0 + f.pc ≡ f.pc = omega arith in
      let counted : nat_le target f.pc ≡ true → Fine (counted_jump name f target (unwrap_or bound 0) n (slice_get f.taken n)) = λ back.
      let back' : nat_le target (0 + f.pc) ≡ true = rw none back in
      let here : slice_get (bounds_in c name) n ≡ Some (unwrap_or bound 0) =
      bound_at 0 f.pc (instructions_of c name) (the.Jump when target bound) there' back' ∙ ap Some (sym (bound_is when target bound)) in
      counted_fine target (unwrap_or bound 0) (slice_get f.taken n) refl inside here in
      let ahead : nat_le target f.pc ≡ false → On g = λ no_back.
      record { procedure = refl; goes = forward (length (instructions_of c name)) (bounds_in c name) f g refl (leb-false target f.pc no_back) inside within } in
      cond_both (nat_le target f.pc) (counted_jump name f target (unwrap_or bound 0) n (slice_get f.taken n)) (Silent (activation name g)) Fine counted ahead

-- each instruction of a procedure is fine at a frame that can occur before it
pub instruction_fine : (c : Client) (name : ProcedureKind) (f : Frame) (i : Instruction ℕ ℕ) → slice_get (instructions_of c name) f.pc ≡ Some i
    → f.pc < length (instructions_of c name) → are_within f.taken (bounds_in c name) ≡ true
    → IsFine (length (instructions_of c name)) (bounds_in c name) (length (first_memory c.arrays)) name f (instruction_action c name f i)
instruction_fine c name f (the.Move to from) there lt within = next c name f (the.Move to from) there lt within _ refl refl
instruction_fine c name f (the.Load to from) there lt within =
    accessed c name f (the.Load to from) there lt within (operand_place c.arrays f from) _ (λ p e v. next c name f (the.Load to from) there lt within _ refl refl)
instruction_fine c name f (the.Store to from) there lt within =
    accessed c name f (the.Store to from) there lt within (operand_place c.arrays f to) _
    (λ p e. record { on = next c name f (the.Store to from) there lt within _ refl refl; within = inside_memory c name f (the.Store to from) there lt within to p e })
instruction_fine c name f (the.Compute operation to from) there lt within = next c name f (the.Compute operation to from) there lt within _ refl refl
instruction_fine c name f (the.Compare comparison left right) there lt within = next c name f (the.Compare comparison left right) there lt within _ refl refl
instruction_fine c name f (the.Increment r) there lt within = next c name f (the.Increment r) there lt within _ refl refl
instruction_fine c name f (the.Decrement r) there lt within = next c name f (the.Decrement r) there lt within _ refl refl
instruction_fine c name f (the.Jump when target bound) there lt within =
    let i : Instruction ℕ ℕ = the.Jump when target bound in
    cond_both (is_taken when f.flags) (jump name f (back_jumps 0 (take f.pc (instructions_of c name))) target bound) (Silent (activation name (record f { pc = f.pc + 1 })))
    (λ a. IsFine (length (instructions_of c name)) (bounds_in c name) (length (first_memory c.arrays)) name f a)
    (λ e. jump_fine c name f i there lt within when target bound refl) (λ e. next c name f i there lt within _ refl refl)
instruction_fine c name f (the.Assert condition) there lt within =
    asserted_fine c name f (the.Assert condition) there lt within (holds condition f.flags) _ (next c name f (the.Assert condition) there lt within _ refl refl)
instruction_fine c name f (the.Locked operation cell r) there lt within =
    let i : Instruction ℕ ℕ = the.Locked operation cell r in
    accessed c name f i there lt within (operand_place c.arrays f cell) _ (λ p e. record {
      on = λ old. next c name f i there lt within _ (exchanged_taken operation r f old) (ap (λ (n : ℕ). n + 1) (exchanged_pc operation r f old));
      within = inside_memory c name f i there lt within cell p e;
    })
instruction_fine c name f the.Fence there lt within = next c name f the.Fence there lt within _ refl refl
instruction_fine c name f the.Nop there lt within = next c name f the.Nop there lt within _ refl refl
instruction_fine c name f the.Pause there lt within = next c name f the.Pause there lt within _ refl refl
instruction_fine c name f the.Return there lt within = returned_fine c name f the.Return there lt within
