-- An instruction changes what it writes, and nothing else.
use Rattle.std.proofs.Common.{◌≡◌, ◌∙◌, ℕ, ◌+◌, Bool, true, false, nat_le, nat_lt, not, List, length, take, Option, Some, None, slice_get, slice_set, refl, sym, subst, if◌then◌else◌, ◌==◌}
use Rattle.std.specs.Prelude.{unwrap_or}
use Rattle.std.proofs.lemmas.Bool.{cond_both}
use Rattle.tso_word.specs.declared.Condition.{Condition}
use Rattle.tso_word.specs.declared.Flags.{Flags}
use Rattle.tso_line.specs.declared.instruction.Address.{Address}
use Rattle.tso_word.specs.Word.{holds, sum_flags, difference_flags, with_carry}
use Rattle.tso_line.specs.declared.instruction.Instruction.{Instruction}
use Rattle.tso_line.specs.declared.instruction.Instruction.TheVariants as the
use Rattle.tso_line.specs.declared.instruction.LockedOperation.{LockedOperation}
use Rattle.tso_line.specs.declared.instruction.LockedOperation.TheVariants.{Exchange, CompareExchange, ExchangeAdd}
use Rattle.tso_line.specs.declared.instruction.Register.{Register}
use Rattle.tso_line.specs.declared.instruction.Register.TheVariants.{Rax}
use Rattle.tso_prog.specs.declared.client.Client.{Client}
use Rattle.tso_flow.specs.Accesses.{is_carry_flag, is_same, register_number, writes}
use Rattle.tso_flow.specs.declared.location.Flag.{Flag}
use Rattle.tso_flow.specs.declared.location.Flag.TheVariants.{Zero, Carry, Sign, Overflow}
use Rattle.tso_flow.specs.declared.location.Location.{Location}
use Rattle.tso_flow.specs.declared.location.Location.TheVariants as location
use Rattle.tso_flow.specs.declared.location.ProcedureKind.{ProcedureKind}
use Rattle.tso_machine.proofs.Fine.{exchanged_taken}
use Rattle.tso_machine.specs.Activations.{Activation, activation}
use Rattle.tso_machine.specs.Control.{GoesOnWith}
use Rattle.tso_machine.specs.Frames.{register_of, value_of}
use Rattle.tso_machine.specs.Instructions.{action_at, at_next, at_place, back_jumps, counted_jump, done_answer, exchanged, instruction_action, instructions_of, is_taken, jump, next_action, returned, with_register}
use Rattle.tso_machine.specs.Places.{operand_place}
use Rattle.tso_machine.specs.declared.frame.Frame.{Frame}
use Rattle.tso_model.specs.Programs.{Action, Silent, Ret, Fail, Cut, Refused, BadAnswer, FalseAssertion}
use Rattle.tso_client.proofs.Held.{as_many, other_register}
use Rattle.tso_client.specs.Accesses.{flag_of, is_jump, HoldSame, LeavesRest, WritesAreAll}

absurd_flag : {P : Type 0} → true ≡ false → P
absurd_flag e = absurd cc

-- the parts of what stays
changed : (step : Instruction ℕ ℕ) (name : ProcedureKind) (f g : Frame) → ((r : Register) → writes step (location.Register r) ≡ false → register_of g r ≡ register_of f r)
    → ((x : Flag) → writes step (location.Flag x) ≡ false → flag_of g.flags x ≡ flag_of f.flags x) → length g.registers ≡ length f.registers → (is_jump step ≡ false → g.taken ≡ f.taken)
    → LeavesRest step (activation name f) (activation name g)
changed step name f g registers flags many counts = record { procedure = refl; rest = rest; registers = many; counts = counts }
  where
    rest : (x : Location) → writes step x ≡ false → HoldSame g f x
    rest (location.Register r) e = registers r e
    rest (location.Flag x) e = flags x e

as_is : (step : Instruction ℕ ℕ) (name : ProcedureKind) (f : Frame) (pc : ℕ) → LeavesRest step (activation name f) (activation name (record f { pc = pc }))
as_is step name f pc = changed step name f (record f { pc = pc }) (λ r e. refl) (λ x e. refl) refl (λ j. refl)

-- a frame with other counts, after a jump
counted : (when : Option Condition) (target : ℕ) (bound : Option ℕ) (name : ProcedureKind) (f : Frame) (pc : ℕ) (taken : List ℕ)
    → LeavesRest (the.Jump when target bound) (activation name f) (activation name (record f { pc = pc; taken = taken }))
counted when target bound name f pc taken = changed (the.Jump when target bound) name f (record f { pc = pc; taken = taken }) (λ r e. refl) (λ x e. refl) refl (λ j. absurd cc)

-- one register is written
one_register : (step : Instruction ℕ ℕ) (name : ProcedureKind) (f : Frame) (r : Register) (w pc : ℕ) → ((s : Register) → writes step (location.Register s) ≡ false → is_same r s ≡ false)
    → LeavesRest step (activation name f) (activation name (record f { pc = pc; registers = slice_set f.registers (register_number r) w }))
one_register step name f r w pc only =
    changed step name f (record f { pc = pc; registers = slice_set f.registers (register_number r) w }) (λ s e. other_register f r s w (only s e)) (λ x e. refl) (as_many f r w) (λ j. refl)

-- one register is written, and flags
register_and_flags : (step : Instruction ℕ ℕ) (name : ProcedureKind) (f : Frame) (r : Register) (w pc : ℕ) (flags : Flags) → ((s : Register) → writes step (location.Register s) ≡ false → is_same r s ≡ false)
    → ((x : Flag) → writes step (location.Flag x) ≡ false → flag_of flags x ≡ flag_of f.flags x)
    → LeavesRest step (activation name f) (activation name (record f { pc = pc; registers = slice_set f.registers (register_number r) w; flags = flags }))
register_and_flags step name f r w pc flags only kept =
    changed step name f (record f { pc = pc; registers = slice_set f.registers (register_number r) w; flags = flags }) (λ s e. other_register f r s w (only s e)) kept (as_many f r w) (λ j. refl)

only_flags : (step : Instruction ℕ ℕ) (name : ProcedureKind) (f : Frame) (pc : ℕ) (flags : Flags) → ((x : Flag) → writes step (location.Flag x) ≡ false → flag_of flags x ≡ flag_of f.flags x)
    → LeavesRest step (activation name f) (activation name (record f { pc = pc; flags = flags }))
only_flags step name f pc flags kept = changed step name f (record f { pc = pc; flags = flags }) (λ s e. refl) kept refl (λ j. refl)

carry_kept : (step : Instruction ℕ ℕ) (f : Frame) (flags : Flags) → ((x : Flag) → writes step (location.Flag x) ≡ not (is_carry_flag x)) → (x : Flag) → writes step (location.Flag x) ≡ false
    → flag_of (with_carry f.flags.cf flags) x ≡ flag_of f.flags x
carry_kept step f flags are Carry e = refl
carry_kept step f flags are Zero e = let h : true ≡ false = sym (are Zero) ∙ e in absurd_flag h
carry_kept step f flags are Sign e = let h : true ≡ false = sym (are Sign) ∙ e in absurd_flag h
carry_kept step f flags are Overflow e = let h : true ≡ false = sym (are Overflow) ∙ e in absurd_flag h

accessed : (step : Instruction ℕ ℕ) (a : Activation) (o : Option ℕ) (access : ℕ → Action Activation) → ((p : ℕ) → GoesOnWith (LeavesRest step a) (access p)) → GoesOnWith (LeavesRest step a) (at_place o access)
accessed step a None access leaves = tt
accessed step a (Some p) access leaves = leaves p

returned_rest : (step : Instruction ℕ ℕ) (a : Activation) (name : ProcedureKind) (f : Frame) → GoesOnWith (LeavesRest step a) (returned name f)
returned_rest step a name f =
    cond_both (register_of f Rax == 0) (Ret Refused) (if register_of f Rax == 1 then Ret (done_answer name f) else Fail BadAnswer) (λ x. GoesOnWith (LeavesRest step a) x)
    (λ e. tt)
    (λ e. cond_both (register_of f Rax == 1) (Ret (done_answer name f)) (Fail BadAnswer) (λ x. GoesOnWith (LeavesRest step a) x) (λ e'. tt) (λ e'. tt))

counted_rest : (when : Option Condition) (target : ℕ) (bound : Option ℕ) (name : ProcedureKind) (f : Frame) (limit number : ℕ) (o : Option ℕ)
    → GoesOnWith (LeavesRest (the.Jump when target bound) (activation name f)) (counted_jump name f target limit number o)
counted_rest when target bound name f limit number None = tt
counted_rest when target bound name f limit number (Some count) =
    cond_both (nat_lt count limit) (Silent (activation name (record f { pc = target; taken = slice_set f.taken number (count + 1) }))) Cut
    (λ x. GoesOnWith (LeavesRest (the.Jump when target bound) (activation name f)) x) (λ e. counted when target bound name f target (slice_set f.taken number (count + 1))) (λ e. tt)

jump_rest : (c : Client) (name : ProcedureKind) (f : Frame) (when : Option Condition) (target : ℕ) (bound : Option ℕ)
    → GoesOnWith (LeavesRest (the.Jump when target bound) (activation name f)) (instruction_action c name f (the.Jump when target bound))
jump_rest c name f when target bound =
    let step : Instruction ℕ ℕ = the.Jump when target bound in
    let number = back_jumps 0 (take f.pc (instructions_of c name)) in
    cond_both (is_taken when f.flags) (jump name f number target bound) (Silent (activation name (record f { pc = f.pc + 1 }))) (λ x. GoesOnWith (LeavesRest step (activation name f)) x)
    (λ e. cond_both (nat_le target f.pc) (counted_jump name f target (unwrap_or bound 0) number (slice_get f.taken number)) (Silent (activation name (record f { pc = target })))
    (λ x. GoesOnWith (LeavesRest step (activation name f)) x) (λ back. counted_rest when target bound name f (unwrap_or bound 0) number (slice_get f.taken number)) (λ ahead. as_is step name f target))
    (λ e. as_is step name f (f.pc + 1))

asserted_rest : (condition : Condition) (name : ProcedureKind) (f : Frame) (b : Bool) → GoesOnWith (LeavesRest (the.Assert condition) (activation name f)) (if b then Silent (activation name (at_next f)) else Fail FalseAssertion)
asserted_rest condition name f true = as_is (the.Assert condition) name f (f.pc + 1)
asserted_rest condition name f false = tt

either_rest : (b : Bool) (f : Frame) (w : ℕ) (r : Register) → is_same Rax r ≡ false → register_of (if b then f else with_register Rax w f) r ≡ register_of f r
either_rest true f w r e = refl
either_rest false f w r e = other_register f Rax r w e

either_many : (b : Bool) (f : Frame) (w : ℕ) → length (if b then f else with_register Rax w f).registers ≡ length f.registers
either_many true f w = refl
either_many false f w = as_many f Rax w

locked_rest : (name : ProcedureKind) (f : Frame) (operation : LockedOperation) (cell : Address ℕ) (r : Register) (old : ℕ)
    → LeavesRest (the.Locked operation cell r) (activation name f) (activation name (at_next (exchanged operation r f old)))
unfolding writes
locked_rest name f Exchange cell r old = one_register (the.Locked Exchange cell r) name f r old (f.pc + 1) (λ s e. e)
locked_rest name f ExchangeAdd cell r old = register_and_flags (the.Locked ExchangeAdd cell r) name f r old (f.pc + 1) (sum_flags old (register_of f r)) (λ s e. e) (λ x e. absurd_flag e)
locked_rest name f CompareExchange cell r old =
    changed (the.Locked CompareExchange cell r) name f (at_next (exchanged CompareExchange r f old)) (λ s e. either_rest (register_of f Rax == old) f old s e) (λ x e. absurd_flag e)
    (either_many (register_of f Rax == old) f old) (λ j. exchanged_taken CompareExchange r f old)

instruction_rest : (c : Client) (name : ProcedureKind) (f : Frame) (step : Instruction ℕ ℕ) → GoesOnWith (LeavesRest step (activation name f)) (instruction_action c name f step)
unfolding writes
instruction_rest c name f (the.Move to from) = one_register (the.Move to from) name f to (value_of f from) (f.pc + 1) (λ s e. e)
instruction_rest c name f (the.Load to from) =
    accessed (the.Load to from) (activation name f) (operand_place c.arrays f from) _ (λ p w. one_register (the.Load to from) name f to w (f.pc + 1) (λ s e. e))
instruction_rest c name f (the.Store to from) = accessed (the.Store to from) (activation name f) (operand_place c.arrays f to) _ (λ p. as_is (the.Store to from) name f (f.pc + 1))
instruction_rest c name f (the.Compute operation to from) = register_and_flags (the.Compute operation to from) name f to _ (f.pc + 1) _ (λ s e. e) (λ x e. absurd_flag e)
instruction_rest c name f (the.Compare comparison left right) = only_flags (the.Compare comparison left right) name f (f.pc + 1) _ (λ x e. absurd_flag e)
instruction_rest c name f (the.Increment r) = register_and_flags (the.Increment r) name f r _ (f.pc + 1) _ (λ s e. e) (carry_kept (the.Increment r) f (sum_flags (register_of f r) 1) (λ x. refl))
instruction_rest c name f (the.Decrement r) = register_and_flags (the.Decrement r) name f r _ (f.pc + 1) _ (λ s e. e) (carry_kept (the.Decrement r) f (difference_flags (register_of f r) 1) (λ x. refl))
instruction_rest c name f (the.Jump when target bound) = jump_rest c name f when target bound
instruction_rest c name f (the.Assert condition) = asserted_rest condition name f (holds condition f.flags)
instruction_rest c name f (the.Locked operation cell r) = accessed (the.Locked operation cell r) (activation name f) (operand_place c.arrays f cell) _ (λ p old. locked_rest name f operation cell r old)
instruction_rest c name f the.Fence = as_is the.Fence name f (f.pc + 1)
instruction_rest c name f the.Nop = as_is the.Nop name f (f.pc + 1)
instruction_rest c name f the.Pause = as_is the.Pause name f (f.pc + 1)
instruction_rest c name f the.Return = returned_rest the.Return (activation name f) name f

at_rest : (c : Client) (name : ProcedureKind) (f : Frame) (step : Instruction ℕ ℕ) (o : Option (Instruction ℕ ℕ)) → o ≡ Some step → GoesOnWith (LeavesRest step (activation name f)) (action_at c name f o)
at_rest c name f step None e = tt
at_rest c name f step (Some own) e =
    let same : own ≡ step = cc in
    let Q : Instruction ℕ ℕ → Type 0 = λ s. GoesOnWith (LeavesRest s (activation name f)) (instruction_action c name f own) in
    subst Q same (instruction_rest c name f own)

pub writes_are_all : (c : Client) → WritesAreAll c
unfolding next_action
writes_are_all c a step there = at_rest c a.procedure a.frame step (slice_get (instructions_of c a.procedure) a.frame.pc) there
