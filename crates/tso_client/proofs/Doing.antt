-- What an instruction does, by its table.
use Rattle.std.proofs.Common.{◌≡◌, ◌∙◌, ℕ, ◌+◌, ◌<◌, Bool, true, false, nat_le, nat_lt, length, take, Option, Some, None, slice_get, slice_set, refl, sym, ap, subst, arith, if◌then◌else◌, ◌==◌}
use Rattle.std.specs.Prelude.{unwrap_or}
use Rattle.std.proofs.lemmas.Bool.{cond_both, eq-eqb, ne_eqb}
use Rattle.std.proofs.lemmas.List.{get_or-set_same}
use Rattle.tso_word.specs.declared.Condition.{Condition}
use Rattle.tso_word.specs.Word.{holds}
use Rattle.tso_line.specs.declared.instruction.Address.{Address}
use Rattle.tso_line.specs.declared.instruction.Comparison.TheVariants.{Cmp, Test}
use Rattle.tso_line.specs.declared.instruction.Instruction.{Instruction}
use Rattle.tso_line.specs.declared.instruction.Instruction.TheVariants as the
use Rattle.tso_line.specs.declared.instruction.LockedOperation.{LockedOperation}
use Rattle.tso_line.specs.declared.instruction.LockedOperation.TheVariants.{Exchange, CompareExchange, ExchangeAdd}
use Rattle.tso_line.specs.declared.instruction.Register.{Register}
use Rattle.tso_line.specs.declared.instruction.Register.TheVariants.{Rax, Rbx, Rcx, Rdx, Rsi, Rdi, Rbp, R8, R9, R10, R11, R12, R13, R14, R15}
use Rattle.tso_prog.specs.declared.client.Client.{Client}
use Rattle.tso_flow.specs.Accesses.{register_number}
use Rattle.tso_flow.specs.declared.location.ProcedureKind.{ProcedureKind}
use Rattle.tso_machine.specs.Activations.{Activation, activation}
use Rattle.tso_machine.specs.Control.{instruction_at}
use Rattle.tso_machine.specs.Frames.{register_of, value_of}
use Rattle.tso_machine.specs.Instructions.{action_at, at_next, at_place, back_jumps, counted_jump, done_answer, exchanged, instruction_action, instructions_of, is_taken, jump, new_word, next_action, returned, with_register}
use Rattle.tso_machine.specs.Places.{operand_place}
use Rattle.tso_machine.specs.declared.frame.Frame.{Frame}
use Rattle.tso_model.specs.Programs.{Action, Silent, Ret, Fail, Cut, Refused, OutOfRange, BadAnswer, FalseAssertion}
use Rattle.tso_client.proofs.Conditions.{compares, tests}
use Rattle.tso_client.specs.Comparisons.{Compares, Tests}
use Rattle.tso_client.specs.Meanings.{is_barrier, is_locked, operand_of, CmpCompares, Computes, Does, FencesChangeNothing, FencesWait, HasRegisters, IsLockedInside, LoadsRead, Locks, LockedDo, LockedLock, OutsideIsFault, Reads, Stores, StoresWrite, TestTests}

-- ---- registers

below : (r : Register) → register_number r < 15
below Rax = omega arith
below Rbx = omega arith
below Rcx = omega arith
below Rdx = omega arith
below Rsi = omega arith
below Rdi = omega arith
below Rbp = omega arith
below R8 = omega arith
below R9 = omega arith
below R10 = omega arith
below R11 = omega arith
below R12 = omega arith
below R13 = omega arith
below R14 = omega arith
below R15 = omega arith

held : (f : Frame) (r : Register) (w : ℕ) → HasRegisters f → register_of (with_register r w f) r ≡ w
held f r w many =
    let b = below r in
    let lt : register_number r < length f.registers = omega (arith, b, many) in
    get_or-set_same f.registers (register_number r) w 0 lt

-- ---- the instruction at a position

does : (c : Client) (a : Activation) (step : Instruction ℕ ℕ) → instruction_at c a ≡ Some step → next_action c a ≡ instruction_action c a.procedure a.frame step
unfolding next_action
does c a step there = ap (action_at c a.procedure a.frame) there

-- a fact of the instruction's action is one of the next action
shown : (c : Client) (a : Activation) (step : Instruction ℕ ℕ) (P : Action Activation → Type 0) → instruction_at c a ≡ Some step → P (instruction_action c a.procedure a.frame step) → P (next_action c a)
shown c a step P there p = subst P (sym (does c a step there)) p

inside : (o : Option ℕ) (place : ℕ) (access : ℕ → Action Activation) (P : Action Activation → Type 0) → o ≡ Some place → P (access place) → P (at_place o access)
inside o place access P e p = let Q : Option ℕ → Type 0 = λ q. P (at_place q access) in subst Q (sym e) p

-- ---- fences

-- no other instruction is a fence or a locked one
at_no_barrier : (o : Option ℕ) (access : ℕ → Action Activation) → ((p : ℕ) → is_barrier (access p) ≡ false) → is_barrier (at_place o access) ≡ false
at_no_barrier None access none = refl
at_no_barrier (Some p) access none = none p

counted_none : (test : Action Activation → Bool) → ((b : Activation) → test (Silent b) ≡ false) → test Cut ≡ false → (name : ProcedureKind) (f : Frame) (target limit number : ℕ) (o : Option ℕ)
    → test (counted_jump name f target limit number o) ≡ false
counted_none test silent cut name f target limit number None = cut
counted_none test silent cut name f target limit number (Some count) =
    cond_both (nat_lt count limit) (Silent (activation name (record f { pc = target; taken = slice_set f.taken number (count + 1) }))) Cut (λ x. test x ≡ false) (λ e. silent _) (λ e. cut)

jump_none : (test : Action Activation → Bool) → ((b : Activation) → test (Silent b) ≡ false) → test Cut ≡ false → (c : Client) (name : ProcedureKind) (f : Frame) (when : Option Condition) (target : ℕ) (bound : Option ℕ)
    → test (instruction_action c name f (the.Jump when target bound)) ≡ false
jump_none test silent cut c name f when target bound =
    let number = back_jumps 0 (take f.pc (instructions_of c name)) in
    cond_both (is_taken when f.flags) (jump name f number target bound) (Silent (activation name (at_next f))) (λ x. test x ≡ false)
    (λ e. cond_both (nat_le target f.pc) (counted_jump name f target (unwrap_or bound 0) number (slice_get f.taken number)) (Silent (activation name (record f { pc = target }))) (λ x. test x ≡ false)
    (λ e'. counted_none test silent cut name f target (unwrap_or bound 0) number (slice_get f.taken number)) (λ e'. silent _))
    (λ e. silent _)

returned_none : (test : Action Activation → Bool) → ((x : _) → test (Ret x) ≡ false) → test (Fail BadAnswer) ≡ false → (name : ProcedureKind) (f : Frame) → test (returned name f) ≡ false
returned_none test ret fail name f =
    cond_both (register_of f Rax == 0) (Ret Refused) (if register_of f Rax == 1 then Ret (done_answer name f) else Fail BadAnswer) (λ x. test x ≡ false)
    (λ e. ret _) (λ e. cond_both (register_of f Rax == 1) (Ret (done_answer name f)) (Fail BadAnswer) (λ x. test x ≡ false) (λ e'. ret _) (λ e'. fail))

asserted_none : (test : Action Activation → Bool) → ((b : Activation) → test (Silent b) ≡ false) → test (Fail FalseAssertion) ≡ false → (b : Bool) (a : Activation) → test (if b then Silent a else Fail FalseAssertion) ≡ false
asserted_none test silent fail true a = silent a
asserted_none test silent fail false a = fail

barrier_is_fence : (c : Client) (name : ProcedureKind) (f : Frame) (step : Instruction ℕ ℕ) → is_barrier (instruction_action c name f step) ≡ true → step ≡ the.Fence
barrier_is_fence c name f (the.Move to from) e = absurd cc
barrier_is_fence c name f (the.Load to from) e = let h : false ≡ true = sym (at_no_barrier (operand_place c.arrays f from) _ (λ p. refl)) ∙ e in absurd cc
barrier_is_fence c name f (the.Store to from) e = let h : false ≡ true = sym (at_no_barrier (operand_place c.arrays f to) _ (λ p. refl)) ∙ e in absurd cc
barrier_is_fence c name f (the.Compute operation to from) e = absurd cc
barrier_is_fence c name f (the.Compare comparison left right) e = absurd cc
barrier_is_fence c name f (the.Increment r) e = absurd cc
barrier_is_fence c name f (the.Decrement r) e = absurd cc
barrier_is_fence c name f (the.Jump when target bound) e = let h : false ≡ true = sym (jump_none is_barrier (λ b. refl) refl c name f when target bound) ∙ e in absurd cc
barrier_is_fence c name f (the.Assert condition) e = let h : false ≡ true = sym (asserted_none is_barrier (λ b. refl) refl (holds condition f.flags) _) ∙ e in absurd cc
barrier_is_fence c name f (the.Locked operation cell r) e = let h : false ≡ true = sym (at_no_barrier (operand_place c.arrays f cell) _ (λ p. refl)) ∙ e in absurd cc
barrier_is_fence c name f the.Fence e = refl
barrier_is_fence c name f the.Nop e = absurd cc
barrier_is_fence c name f the.Pause e = absurd cc
barrier_is_fence c name f the.Return e = let h : false ≡ true = sym (returned_none is_barrier (λ x. refl) refl name f) ∙ e in absurd cc

at_barrier : (c : Client) (name : ProcedureKind) (f : Frame) (o : Option (Instruction ℕ ℕ)) → is_barrier (action_at c name f o) ≡ true → o ≡ Some the.Fence
at_barrier c name f None e = absurd cc
at_barrier c name f (Some step) e = ap Some (barrier_is_fence c name f step e)

pub fences_wait : (c : Client) → FencesWait c
unfolding next_action
fences_wait c a = ((λ e. at_barrier c a.procedure a.frame (slice_get (instructions_of c a.procedure) a.frame.pc) e), (λ there. shown c a the.Fence (λ x. is_barrier x ≡ true) there refl))

pub fences_change_nothing : (c : Client) → FencesChangeNothing c
fences_change_nothing c a there = does c a the.Fence there

-- ---- operands in memory

faults : (o : Option ℕ) (access : ℕ → Action Activation) → o ≡ None → at_place o access ≡ Fail OutOfRange
faults None access e = refl
faults (Some p) access e = absurd cc

outside : (c : Client) (name : ProcedureKind) (f : Frame) (step : Instruction ℕ ℕ) (cell : Address ℕ) → operand_of step ≡ Some cell → operand_place c.arrays f cell ≡ None
    → instruction_action c name f step ≡ Fail OutOfRange
outside c name f (the.Load to from) cell e none = let same : from ≡ cell = cc in faults (operand_place c.arrays f from) _ (ap (operand_place c.arrays f) same ∙ none)
outside c name f (the.Store to from) cell e none = let same : to ≡ cell = cc in faults (operand_place c.arrays f to) _ (ap (operand_place c.arrays f) same ∙ none)
outside c name f (the.Locked operation own r) cell e none = let same : own ≡ cell = cc in faults (operand_place c.arrays f own) _ (ap (operand_place c.arrays f) same ∙ none)
outside c name f (the.Move to from) cell e none = absurd cc
outside c name f (the.Compute operation to from) cell e none = absurd cc
outside c name f (the.Compare comparison left right) cell e none = absurd cc
outside c name f (the.Increment r) cell e none = absurd cc
outside c name f (the.Decrement r) cell e none = absurd cc
outside c name f (the.Jump when target bound) cell e none = absurd cc
outside c name f (the.Assert condition) cell e none = absurd cc
outside c name f the.Fence cell e none = absurd cc
outside c name f the.Nop cell e none = absurd cc
outside c name f the.Pause cell e none = absurd cc
outside c name f the.Return cell e none = absurd cc

pub outside_is_fault : (c : Client) → OutsideIsFault c
outside_is_fault c a step cell there operand none = does c a step there ∙ outside c a.procedure a.frame step cell operand none

pub loads_read : (c : Client) → LoadsRead c
loads_read c a to cell place there at many =
    let P : Action Activation → Type 0 = λ x. Reads place (λ word b. register_of b.frame to ≡ word) x in
    shown c a (the.Load to cell) P there (inside (operand_place c.arrays a.frame cell) place _ P at (refl, (λ word. held a.frame to word many)))

pub stores_write : (c : Client) → StoresWrite c
stores_write c a cell from place there at =
    let P : Action Activation → Type 0 = λ x. Stores place (value_of a.frame from) x in
    shown c a (the.Store cell from) P there (inside (operand_place c.arrays a.frame cell) place _ P at (refl, refl))

-- ---- comparisons

pub cmp_compares : (c : Client) → CmpCompares c
cmp_compares c a left right there small small' =
    let x = register_of a.frame left in
    let y = value_of a.frame right in
    shown c a (the.Compare Cmp left right) (λ z. Computes (λ b. Compares x y b.frame.flags) z) there (compares x y small small')

pub test_tests : (c : Client) → TestTests c
test_tests c a left right there =
    let x = register_of a.frame left in
    let y = value_of a.frame right in
    shown c a (the.Compare Test left right) (λ z. Computes (λ b. Tests x y b.frame.flags) z) there (tests x y)

-- ---- locked instructions

at_locked : (o : Option ℕ) (access : ℕ → Action Activation) → ((p : ℕ) → is_locked (access p) ≡ false) → is_locked (at_place o access) ≡ false
at_locked None access none = refl
at_locked (Some p) access none = none p

module _ (c : Client) (a : Activation) where
  lock_found : (operation : LockedOperation) (cell : Address ℕ) (r : Register) (o : Option ℕ) (access : ℕ → Action Activation) → instruction_at c a ≡ Some (the.Locked operation cell r)
      → operand_place c.arrays a.frame cell ≡ o → is_locked (at_place o access) ≡ true → IsLockedInside c a
  lock_found operation cell r None access there at e = absurd cc
  lock_found operation cell r (Some p) access there at e = record { operation = operation; cell = cell; register = r; place = p; there = there; inside = at }

  locked_is_locked : (step : Instruction ℕ ℕ) → instruction_at c a ≡ Some step → is_locked (instruction_action c a.procedure a.frame step) ≡ true → IsLockedInside c a
  locked_is_locked (the.Move to from) there e = absurd cc
  locked_is_locked (the.Load to from) there e = let h : false ≡ true = sym (at_locked (operand_place c.arrays a.frame from) _ (λ p. refl)) ∙ e in absurd cc
  locked_is_locked (the.Store to from) there e = let h : false ≡ true = sym (at_locked (operand_place c.arrays a.frame to) _ (λ p. refl)) ∙ e in absurd cc
  locked_is_locked (the.Compute operation to from) there e = absurd cc
  locked_is_locked (the.Compare comparison left right) there e = absurd cc
  locked_is_locked (the.Increment r) there e = absurd cc
  locked_is_locked (the.Decrement r) there e = absurd cc
  locked_is_locked (the.Jump when target bound) there e = let h : false ≡ true = sym (jump_none is_locked (λ b. refl) refl c a.procedure a.frame when target bound) ∙ e in absurd cc
  locked_is_locked (the.Assert condition) there e = let h : false ≡ true = sym (asserted_none is_locked (λ b. refl) refl (holds condition a.frame.flags) _) ∙ e in absurd cc
  locked_is_locked (the.Locked operation cell r) there e = lock_found operation cell r (operand_place c.arrays a.frame cell) _ there refl e
  locked_is_locked the.Fence there e = absurd cc
  locked_is_locked the.Nop there e = absurd cc
  locked_is_locked the.Pause there e = absurd cc
  locked_is_locked the.Return there e = let h : false ≡ true = sym (returned_none is_locked (λ x. refl) refl a.procedure a.frame) ∙ e in absurd cc

  locked_at : (o : Option (Instruction ℕ ℕ)) → instruction_at c a ≡ o → is_locked (action_at c a.procedure a.frame o) ≡ true → IsLockedInside c a
  locked_at None there e = absurd cc
  locked_at (Some step) there e = locked_is_locked step there e

pub locked_lock : (c : Client) → LockedLock c
unfolding next_action
locked_lock c a = (
  (λ e. locked_at c a (slice_get (instructions_of c a.procedure) a.frame.pc) refl e),
  (λ h.
      let P : Action Activation → Type 0 = λ x. is_locked x ≡ true in
      shown c a (the.Locked h.operation h.cell h.register) P h.there (inside (operand_place c.arrays a.frame h.cell) h.place _ P h.inside refl)),
)

new_equal : (r : Register) (f : Frame) (old : ℕ) (b : Bool) → b ≡ true → (if b then register_of f r else old) ≡ register_of f r
new_equal r f old true e = refl
new_equal r f old false e = absurd cc

new_other : (r : Register) (f : Frame) (old : ℕ) (b : Bool) → b ≡ false → (if b then register_of f r else old) ≡ old
new_other r f old true e = absurd cc
new_other r f old false e = refl

frame_equal : (f : Frame) (old : ℕ) (b : Bool) → b ≡ true → (if b then f else with_register Rax old f).registers ≡ f.registers
frame_equal f old true e = refl
frame_equal f old false e = absurd cc

frame_other : (f : Frame) (old : ℕ) (b : Bool) → HasRegisters f → b ≡ false → register_of (if b then f else with_register Rax old f) Rax ≡ old
frame_other f old true many e = absurd cc
frame_other f old false many e = held f Rax old many

locked_does : (operation : LockedOperation) (r : Register) (f : Frame) (old : ℕ) → HasRegisters f → Does operation r f old (new_word operation r f old) (at_next (exchanged operation r f old))
locked_does Exchange r f old many = record { memory = refl; register = held f r old many; flags = refl }
locked_does ExchangeAdd r f old many = record { memory = refl; register = held f r old many; flags = refl }
locked_does CompareExchange r f old many = record {
  equal_memory = λ e. new_equal r f old (register_of f Rax == old) (eq-eqb (register_of f Rax) old e);
  equal_registers = λ e. frame_equal f old (register_of f Rax == old) (eq-eqb (register_of f Rax) old e);
  other_memory = λ n. new_other r f old (register_of f Rax == old) (ne_eqb (register_of f Rax) old n);
  other_register = λ n. frame_other f old (register_of f Rax == old) many (ne_eqb (register_of f Rax) old n);
  flags = λ small small'. compares (register_of f Rax) old small small';
}

pub locked_do : (c : Client) → LockedDo c
locked_do c a operation cell r place there at many =
    let P : Action Activation → Type 0 = λ x. Locks place (λ old new b. Does operation r a.frame old new b.frame) x in
    shown c a (the.Locked operation cell r) P there (inside (operand_place c.arrays a.frame cell) place _ P at (refl, (λ old. locked_does operation r a.frame old many)))
