-- What instructions make of words of 64 bits has 64 bits.
use Rattle.std.proofs.Common.{◌≡◌, ◌∙◌, ℕ, ◌+◌, ◌-◌, ◌^◌, Bool, true, false, ◌&&◌, ◌||◌, nat_le, nat_lt, ◌==◌, if◌then◌else◌, length-set, take, Option, None, Some, slice_get, refl, arith}
use Rattle.std.specs.Prelude.{slice_set, unwrap_or}
use Rattle.std.specs.Int.RustNames.{bit_and}
use Rattle.std.proofs.lemmas.Bool.{and_parts, ltb-true}
use Rattle.std.proofs.lemmas.Nat.{and_le_l, or_lt, xor_lt}
use Rattle.tso_code.specs.Numbers.{IsWord}
use Rattle.tso_flow.specs.Accesses.{register_number}
use Rattle.tso_flow.specs.declared.location.ProcedureKind.{ProcedureKind}
use Rattle.tso_flow.specs.declared.location.ProcedureKind.TheVariants as procedures
use Rattle.tso_line.specs.Proper.{is_in_range, is_narrow, is_narrow_source, is_near, is_word, is_word_source}
use Rattle.tso_line.specs.declared.instruction.Instruction.{Instruction}
use Rattle.tso_line.specs.declared.instruction.Instruction.TheVariants as the
use Rattle.tso_line.specs.declared.instruction.LockedOperation.{LockedOperation}
use Rattle.tso_line.specs.declared.instruction.LockedOperation.TheVariants.{Exchange, CompareExchange, ExchangeAdd}
use Rattle.tso_line.specs.declared.instruction.Operation.{Operation}
use Rattle.tso_line.specs.declared.instruction.Operation.TheVariants.{Add, Sub, Logic}
use Rattle.tso_line.specs.declared.instruction.Register.{Register}
use Rattle.tso_line.specs.declared.instruction.Register.TheVariants.{Rax, Rdx}
use Rattle.tso_line.specs.declared.instruction.Source.{Source}
use Rattle.tso_line.specs.declared.instruction.Source.TheVariants as sources
use Rattle.tso_machine.specs.Activations.{Activation, activation}
use Rattle.tso_machine.specs.Frames.{register_of, value_of}
use Rattle.tso_machine.specs.Instructions.{action_at, at_next, at_place, back_jumps, counted_jump, done_answer, exchanged, instruction_action, instructions_of, is_taken, jump, new_word, next_action, operation_result, returned, with_register}
use Rattle.tso_machine.specs.Places.{operand_place}
use Rattle.tso_machine.specs.declared.frame.Frame.{Frame}
use Rattle.tso_model.specs.Programs.{Action, BadAnswer, Barrier, Cut, Fail, FalseAssertion, Load, Locked, Refused, Ret, Silent, Store}
use Rattle.tso_prog.specs.declared.client.Client.{Client}
use Rattle.tso_judge.proofs.Lists.{Each, each_passes, each_set, word_at}
use Rattle.tso_judge.specs.Words.{AnswerHasWord, AreRegisters}
use Rattle.tso_word.specs.Word.{bitwise, difference, holds, sum}
use Rattle.tso_word.specs.declared.BitOperation.{BitOperation}
use Rattle.tso_word.specs.declared.BitOperation.TheVariants.{And, Or, Xor}

-- a running call with words in its registers
abbrev pub HasRegisters : Activation → Type 0
HasRegisters a = AreRegisters a.frame.registers

-- what an action hands on are words, where it reads a word
abbrev pub ActionHasWords : Action Activation → Type 0
ActionHasWords (Silent a) = HasRegisters a
ActionHasWords (Load p k) = (w : ℕ) → IsWord w → HasRegisters (k w)
ActionHasWords (Store p v a) = IsWord v × HasRegisters a
ActionHasWords (Barrier a) = HasRegisters a
ActionHasWords (Locked p new k) = (w : ℕ) → IsWord w → IsWord (new w) × HasRegisters (k w)
ActionHasWords (Ret a) = AnswerHasWord a
ActionHasWords (Fail n) = Unit {0}
ActionHasWords Cut = Unit {0}

-- ---- numbers

sum_word : (a b : ℕ) → IsWord (sum a b)
sum_word a b = omega arith

difference_word : (a b : ℕ) → IsWord (difference a b)
difference_word a b = omega arith

and_word : (a b : ℕ) → IsWord a → IsWord (bit_and a b)
and_word a b h = omega (arith, and_le_l a b, h)

bitwise_word : (operation : BitOperation) (a b : ℕ) → IsWord a → IsWord b → IsWord (bitwise operation a b)
bitwise_word And a b h g = and_word a b h
bitwise_word Or a b h g = or_lt 64 a b h g
bitwise_word Xor a b h g = xor_lt 64 a b h g

operation_word : (operation : Operation) (a b : ℕ) → IsWord a → IsWord b → IsWord (operation_result operation a b)
operation_word Add a b h g = sum_word a b
operation_word Sub a b h g = difference_word a b
operation_word (Logic operation) a b h g = bitwise_word operation a b h g

is_word_so : (w : ℕ) → is_word w ≡ true → IsWord w
is_word_so w h = ltb-true w (2 ^ 64) h

narrow_word : (w : ℕ) → is_narrow w ≡ true → IsWord w
narrow_word w h = go (nat_lt w (2 ^ 31)) refl h
  where
    go : (b : Bool) → nat_lt w (2 ^ 31) ≡ b → (b || nat_le (2 ^ 64 - 2 ^ 31) w && nat_lt w (2 ^ 64)) ≡ true → IsWord w
    go true e h = let lt = ltb-true w (2 ^ 31) e in omega (arith, lt)
    go false e h = is_word_so w (and_parts (nat_le (2 ^ 64 - 2 ^ 31) w) (nat_lt w (2 ^ 64)) h).1

-- ---- registers and immediates

register_word : (f : Frame) (r : Register) → AreRegisters f.registers → IsWord (register_of f r)
register_word f r h = word_at f.registers (register_number r) h.words

wide_word : (f : Frame) (from : Source) → is_word_source from ≡ true → AreRegisters f.registers → IsWord (value_of f from)
wide_word f (sources.Register r) ok h = register_word f r h
wide_word f (sources.Word w) ok h = is_word_so w ok

narrow_value : (f : Frame) (from : Source) → is_narrow_source from ≡ true → AreRegisters f.registers → IsWord (value_of f from)
narrow_value f (sources.Register r) ok h = register_word f r h
narrow_value f (sources.Word w) ok h = narrow_word w ok

put_word : (f : Frame) (r : Register) (w : ℕ) → AreRegisters f.registers → IsWord w → AreRegisters (with_register r w f).registers
put_word f r w h g = record { count = length-set f.registers (register_number r) w ∙ h.count; words = each_set IsWord f.registers (register_number r) w h.words g }

-- ---- locked instructions

new_is_word : (operation : LockedOperation) (r : Register) (f : Frame) (old : ℕ) → AreRegisters f.registers → IsWord old → IsWord (new_word operation r f old)
new_is_word Exchange r f old h g = register_word f r h
new_is_word CompareExchange r f old h g = go (register_of f Rax == old)
  where
    go : (b : Bool) → IsWord (if b then register_of f r else old)
    go true = register_word f r h
    go false = g
new_is_word ExchangeAdd r f old h g = sum_word old (register_of f r)

exchanged_words : (operation : LockedOperation) (r : Register) (f : Frame) (old : ℕ) → AreRegisters f.registers → IsWord old → AreRegisters (exchanged operation r f old).registers
exchanged_words Exchange r f old h g = put_word f r old h g
exchanged_words CompareExchange r f old h g = go (register_of f Rax == old)
  where
    go : (b : Bool) → AreRegisters (if b then f else with_register Rax old f).registers
    go true = h
    go false = put_word f Rax old h g
exchanged_words ExchangeAdd r f old h g = put_word f r old h g

-- ---- instructions

at_place_words : (o : Option ℕ) (access : ℕ → Action Activation) → ((p : ℕ) → ActionHasWords (access p)) → ActionHasWords (at_place o access)
at_place_words None access h = tt
at_place_words (Some p) access h = h p

counted_words : (name : ProcedureKind) (f : Frame) (target bound number : ℕ) (o : Option ℕ) → AreRegisters f.registers → ActionHasWords (counted_jump name f target bound number o)
counted_words name f target bound number None h = tt
counted_words name f target bound number (Some count) h = go (nat_lt count bound)
  where
    go : (b : Bool) → ActionHasWords (if b then Silent (activation name (record f { pc = target; taken = slice_set f.taken number (count + 1) })) else Cut)
    go true = h
    go false = tt

jump_words : (name : ProcedureKind) (f : Frame) (number target : ℕ) (bound : Option ℕ) → AreRegisters f.registers → ActionHasWords (jump name f number target bound)
jump_words name f number target bound h = go (nat_le target f.pc)
  where
    go : (b : Bool) → ActionHasWords (if b then counted_jump name f target (unwrap_or bound 0) number (slice_get f.taken number) else Silent (activation name (record f { pc = target })))
    go true = counted_words name f target (unwrap_or bound 0) number (slice_get f.taken number) h
    go false = h

answer_word : (name : ProcedureKind) (f : Frame) → AreRegisters f.registers → AnswerHasWord (done_answer name f)
answer_word procedures.Push f h = tt
answer_word procedures.Pop f h = register_word f Rdx h

returned_words : (name : ProcedureKind) (f : Frame) → AreRegisters f.registers → ActionHasWords (returned name f)
returned_words name f h = go (register_of f Rax == 0) (register_of f Rax == 1)
  where
    go : (a b : Bool) → ActionHasWords (if a then Ret Refused else (if b then Ret (done_answer name f) else Fail BadAnswer))
    go true b = tt
    go false true = answer_word name f h
    go false false = tt

instruction_words : (c : Client) (name : ProcedureKind) (f : Frame) (i : Instruction ℕ ℕ) → is_in_range i ≡ true → AreRegisters f.registers → ActionHasWords (instruction_action c name f i)
instruction_words c name f (the.Move to from) ok h = put_word f to (value_of f from) h (wide_word f from ok h)
instruction_words c name f (the.Load to from) ok h = at_place_words (operand_place c.arrays f from) _ (λ p w g. put_word f to w h g)
instruction_words c name f (the.Store to from) ok h =
    let narrow = (and_parts (is_near to.offset) (is_narrow_source from) ok).1 in
    at_place_words (operand_place c.arrays f to) _ (λ p. (narrow_value f from narrow h, h))
instruction_words c name f (the.Compute operation to from) ok h =
    put_word f to (operation_result operation (register_of f to) (value_of f from)) h (operation_word operation (register_of f to) (value_of f from) (register_word f to h) (narrow_value f from ok h))
instruction_words c name f (the.Compare comparison left right) ok h = h
instruction_words c name f (the.Increment r) ok h = put_word f r (sum (register_of f r) 1) h (sum_word (register_of f r) 1)
instruction_words c name f (the.Decrement r) ok h = put_word f r (difference (register_of f r) 1) h (difference_word (register_of f r) 1)
instruction_words c name f (the.Jump when target bound) ok h = go (is_taken when f.flags)
  where
    go : (b : Bool) → ActionHasWords (if b then jump name f (back_jumps 0 (take f.pc (instructions_of c name))) target bound else Silent (activation name (at_next f)))
    go true = jump_words name f (back_jumps 0 (take f.pc (instructions_of c name))) target bound h
    go false = h
instruction_words c name f (the.Assert condition) ok h = go (holds condition f.flags)
  where
    go : (b : Bool) → ActionHasWords (if b then Silent (activation name (at_next f)) else Fail FalseAssertion)
    go true = h
    go false = tt
instruction_words c name f (the.Locked operation cell r) ok h =
    at_place_words (operand_place c.arrays f cell) _ (λ p w g. (new_is_word operation r f w h g, exchanged_words operation r f w h g))
instruction_words c name f the.Fence ok h = h
instruction_words c name f the.Nop ok h = h
instruction_words c name f the.Pause ok h = h
instruction_words c name f the.Return ok h = returned_words name f h

-- each instruction of a client has its immediates in range
in_range : (c : Client) (name : ProcedureKind) → Each (λ (i : Instruction ℕ ℕ). is_in_range i ≡ true) (instructions_of c name)
in_range c procedures.Push = each_passes is_in_range c.push.instructions c.push.in_range
in_range c procedures.Pop = each_passes is_in_range c.pop.instructions c.pop.in_range

pub next_words : (c : Client) (a : Activation) → HasRegisters a → ActionHasWords (next_action c a)
unfolding next_action
next_words c a h = go (slice_get (instructions_of c a.procedure) a.frame.pc) refl
  where
    go : (o : Option (Instruction ℕ ℕ)) → slice_get (instructions_of c a.procedure) a.frame.pc ≡ o → ActionHasWords (action_at c a.procedure a.frame o)
    go None e = tt
    go (Some i) e = instruction_words c a.procedure a.frame i (in_range c a.procedure a.frame.pc i e) h
