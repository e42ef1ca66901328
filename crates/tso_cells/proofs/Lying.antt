-- What instructions put into registers lies in the intervals that they make.
use Rattle.std.proofs.Common.{◌≡◌, ℕ, zero, suc, ◌+◌, ◌-◌, ◌^◌, ◌%◌, ◌≤◌, Bool, true, false, ◌&&◌, ◌||◌, nat_le, nat_lt, ◌==◌, if◌then◌else◌, List, [], ◌∷◌, take, Option, None, Some, slice_get, refl, sym, subst, arith}
use Rattle.std.specs.Prelude.{slice_index, slice_index_or, slice_set, unwrap_or}
use Rattle.std.specs.Int.RustNames.{bit_and}
use Rattle.std.specs.List.{list_all}
use Rattle.std.proofs.lemmas.Bool.{and_from, and_parts, false≢true, le-leb, leb-true, lt-ltb, ltb-true}
use Rattle.std.proofs.lemmas.Nat.{and_le_l, and_le_r, and_mod}
use Rattle.std.proofs.lemmas.Option.{none-some, same_Some}
use Rattle.tso_flow.specs.Accesses.{register_number}
use Rattle.tso_flow.specs.declared.location.ProcedureKind.{ProcedureKind}
use Rattle.tso_flow.specs.declared.location.ProcedureKind.TheVariants as procedures
use Rattle.tso_cells.specs.Intervals.{all_words, alone, below_both, has, lie_in, raised}
use Rattle.tso_cells.specs.IntervalLaws.{RegistersLie}
use Rattle.tso_cells.specs.Moved.{computed, interval_of, moved, put, source_interval}
use Rattle.tso_cells.specs.Moved as after
use Rattle.tso_cells.specs.declared.interval.Interval.{Interval}
use Rattle.tso_line.specs.Proper.{is_in_range, is_narrow_source, is_word_source}
use Rattle.tso_line.specs.declared.instruction.Instruction.{Instruction}
use Rattle.tso_line.specs.declared.instruction.Instruction.TheVariants as the
use Rattle.tso_line.specs.declared.instruction.LockedOperation.{LockedOperation}
use Rattle.tso_line.specs.declared.instruction.LockedOperation.TheVariants.{Exchange, CompareExchange, ExchangeAdd}
use Rattle.tso_line.specs.declared.instruction.Operation.{Operation}
use Rattle.tso_line.specs.declared.instruction.Operation.TheVariants.{Add, Sub, Logic}
use Rattle.tso_line.specs.declared.instruction.Register.{Register}
use Rattle.tso_line.specs.declared.instruction.Register.TheVariants.{Rax}
use Rattle.tso_line.specs.declared.instruction.Source.{Source}
use Rattle.tso_line.specs.declared.instruction.Source.TheVariants as sources
use Rattle.tso_machine.specs.Activations.{Activation, activation}
use Rattle.tso_machine.specs.Control.{GoesOnWith}
use Rattle.tso_machine.specs.Frames.{register_of, value_of}
use Rattle.tso_machine.specs.Instructions.{action_at, at_next, at_place, back_jumps, counted_jump, done_answer, exchanged, instruction_action, instructions_of, is_taken, jump, next_action, operation_result, returned, with_register}
use Rattle.tso_machine.specs.Places.{operand_place}
use Rattle.tso_machine.specs.declared.frame.Frame.{Frame}
use Rattle.tso_model.specs.Programs.{Action, BadAnswer, Cut, Fail, FalseAssertion, Refused, Ret, Silent}
use Rattle.tso_prog.specs.declared.client.Client.{Client}
use Rattle.tso_word.specs.Word.{bitwise, difference, holds, sum}
use Rattle.tso_word.specs.declared.BitOperation.TheVariants.{And, Or, Xor}

-- ---- lists of intervals and words

-- between its ends
has_by : (i : Interval) (w : ℕ) → i.lo ≤ w % 2 ^ 64 → w % 2 ^ 64 ≤ i.hi → has i w ≡ true
has_by i w low high = and_from (nat_le i.lo (w % 2 ^ 64)) (nat_le (w % 2 ^ 64) i.hi) (le-leb i.lo (w % 2 ^ 64) low) (le-leb (w % 2 ^ 64) i.hi high)

low_of : (i : Interval) (w : ℕ) → has i w ≡ true → i.lo ≤ w % 2 ^ 64
low_of i w h = leb-true i.lo (w % 2 ^ 64) (and_parts (nat_le i.lo (w % 2 ^ 64)) (nat_le (w % 2 ^ 64) i.hi) h).0

high_of : (i : Interval) (w : ℕ) → has i w ≡ true → w % 2 ^ 64 ≤ i.hi
high_of i w h = leb-true (w % 2 ^ 64) i.hi (and_parts (nat_le i.lo (w % 2 ^ 64)) (nat_le (w % 2 ^ 64) i.hi) h).1

pub any_word : (w : ℕ) → has all_words w ≡ true
any_word w = has_by all_words w (omega arith) (omega arith)

lie_set : (xs : List Interval) (ws : List ℕ) (n : ℕ) (i : Interval) (w : ℕ) → lie_in xs ws ≡ true → has i w ≡ true → lie_in (slice_set xs n i) (slice_set ws n w) ≡ true
lie_set [] [] n i w h p = refl
lie_set [] (y ∷ ys) n i w h p = absurd (false≢true h)
lie_set (x ∷ xs) [] n i w h p = absurd (false≢true h)
lie_set (x ∷ xs) (y ∷ ys) zero i w h p = and_from (has i w) (lie_in xs ys) p (and_parts (has x y) (lie_in xs ys) h).1
lie_set (x ∷ xs) (y ∷ ys) (suc n) i w h p =
    let both = and_parts (has x y) (lie_in xs ys) h in
    and_from (has x y) (lie_in (slice_set xs n i) (slice_set ys n w)) both.0 (lie_set xs ys n i w both.1 p)

-- where a place may have any word, its word may stay as it was
lie_wider : (xs : List Interval) (ws : List ℕ) (n : ℕ) → lie_in xs ws ≡ true → lie_in (slice_set xs n all_words) ws ≡ true
lie_wider [] [] n h = refl
lie_wider [] (y ∷ ys) n h = absurd (false≢true h)
lie_wider (x ∷ xs) [] n h = absurd (false≢true h)
lie_wider (x ∷ xs) (y ∷ ys) zero h = and_from (has all_words y) (lie_in xs ys) (any_word y) (and_parts (has x y) (lie_in xs ys) h).1
lie_wider (x ∷ xs) (y ∷ ys) (suc n) h =
    let both = and_parts (has x y) (lie_in xs ys) h in
    and_from (has x y) (lie_in (slice_set xs n all_words) ys) both.0 (lie_wider xs ys n both.1)

pub index_in : (xs : List Interval) (ws : List ℕ) (n : ℕ) → lie_in xs ws ≡ true → has (slice_index_or xs n all_words) (slice_index ws n) ≡ true
index_in [] [] n h = refl
index_in [] (y ∷ ys) n h = absurd (false≢true h)
index_in (x ∷ xs) [] n h = absurd (false≢true h)
index_in (x ∷ xs) (y ∷ ys) zero h = (and_parts (has x y) (lie_in xs ys) h).0
index_in (x ∷ xs) (y ∷ ys) (suc n) h = index_in xs ys n (and_parts (has x y) (lie_in xs ys) h).1

-- ---- registers

lie_put : (xs : List Interval) (f : Frame) (r : Register) (i : Interval) (w : ℕ) → lie_in xs f.registers ≡ true → has i w ≡ true → lie_in (put xs r i) (with_register r w f).registers ≡ true
lie_put xs f r i w h p = lie_set xs f.registers (register_number r) i w h p

pub register_in : (xs : List Interval) (f : Frame) (r : Register) → lie_in xs f.registers ≡ true → has (interval_of xs r) (register_of f r) ≡ true
register_in xs f r h = index_in xs f.registers (register_number r) h

value_in : (xs : List Interval) (f : Frame) (from : Source) → is_word_source from ≡ true → lie_in xs f.registers ≡ true → has (source_interval xs from) (value_of f from) ≡ true
value_in xs f (sources.Register r) ok h = register_in xs f r h
value_in xs f (sources.Word w) ok h = let small = ltb-true w (2 ^ 64) ok in has_by (alone w) w (omega (arith, small)) (omega (arith, small))

-- ---- arithmetic

raised_in : (i : Interval) (n a : ℕ) → has i a ≡ true → has (raised i n) (sum a n) ≡ true
raised_in i n a h = go (nat_lt (i.lo + n) (2 ^ 64) && nat_lt (i.hi + n) (2 ^ 64)) refl
  where
    go : (b : Bool) → (nat_lt (i.lo + n) (2 ^ 64) && nat_lt (i.hi + n) (2 ^ 64)) ≡ b → has (if b then record { lo = i.lo + n; hi = i.hi + n } else all_words) (sum a n) ≡ true
    go true e =
        let lt = ltb-true (i.hi + n) (2 ^ 64) (and_parts (nat_lt (i.lo + n) (2 ^ 64)) (nat_lt (i.hi + n) (2 ^ 64)) e).1 in
        let low = low_of i a h in
        let high = high_of i a h in
        has_by (record { lo = i.lo + n; hi = i.hi + n }) (sum a n) (omega (arith, lt, low, high)) (omega (arith, lt, low, high))
    go false e = any_word (sum a n)

below_in : (i j : Interval) (a b : ℕ) → has i a ≡ true → has j b ≡ true → has (below_both i j) (bit_and a b) ≡ true
below_in i j a b h g = go (nat_le i.hi j.hi)
  where
    least : bit_and a b % 2 ^ 64 ≤ a % 2 ^ 64
    least = let e = and_mod a b 64 in let le = and_le_l (a % 2 ^ 64) (b % 2 ^ 64) in subst (λ n. n ≤ a % 2 ^ 64) (sym e) le

    other : bit_and a b % 2 ^ 64 ≤ b % 2 ^ 64
    other = let e = and_mod a b 64 in let le = and_le_r (a % 2 ^ 64) (b % 2 ^ 64) in subst (λ n. n ≤ b % 2 ^ 64) (sym e) le

    go : (c : Bool) → has (record { lo = 0; hi = if c then i.hi else j.hi }) (bit_and a b) ≡ true
    go true = let p = least in let q = high_of i a h in has_by (record { lo = 0; hi = i.hi }) (bit_and a b) (omega arith) (omega (arith, p, q))
    go false = let p = other in let q = high_of j b g in has_by (record { lo = 0; hi = j.hi }) (bit_and a b) (omega arith) (omega (arith, p, q))

computed_in : (operation : Operation) (i j : Interval) (f : Frame) (a : ℕ) (s : Source) → has i a ≡ true → has j (value_of f s) ≡ true
    → has (computed operation i s j) (operation_result operation a (value_of f s)) ≡ true
computed_in Add i j f a (sources.Register r) h g = any_word (sum a (register_of f r))
computed_in Add i j f a (sources.Word w) h g = go (nat_lt w (2 ^ 63))
  where
    go : (b : Bool) → has (if b then raised i w else all_words) (sum a w) ≡ true
    go true = raised_in i w a h
    go false = any_word (sum a w)
computed_in Sub i j f a s h g = any_word (difference a (value_of f s))
computed_in (Logic And) i j f a s h g = below_in i j a (value_of f s) h g
computed_in (Logic Or) i j f a s h g = any_word (bitwise Or a (value_of f s))
computed_in (Logic Xor) i j f a s h g = any_word (bitwise Xor a (value_of f s))

-- a narrow immediate is one of 64 bits
narrow_is_word : (from : Source) → is_narrow_source from ≡ true → is_word_source from ≡ true
narrow_is_word (sources.Register r) ok = refl
narrow_is_word (sources.Word w) ok = go (nat_lt w (2 ^ 31)) refl ok
  where
    go : (b : Bool) → nat_lt w (2 ^ 31) ≡ b → (b || nat_le (2 ^ 64 - 2 ^ 31) w && nat_lt w (2 ^ 64)) ≡ true → nat_lt w (2 ^ 64) ≡ true
    go true e h = let lt = ltb-true w (2 ^ 31) e in lt-ltb w (2 ^ 64) (omega (arith, lt))
    go false e h = (and_parts (nat_le (2 ^ 64 - 2 ^ 31) w) (nat_lt w (2 ^ 64)) h).1

-- ---- locked instructions

exchanged_in : (operation : LockedOperation) (r : Register) (xs : List Interval) (f : Frame) (old : ℕ) → lie_in xs f.registers ≡ true
    → lie_in (put xs (after.exchanged operation r) all_words) (exchanged operation r f old).registers ≡ true
exchanged_in Exchange r xs f old h = lie_put xs f r all_words old h (any_word old)
exchanged_in CompareExchange r xs f old h = go (register_of f Rax == old)
  where
    go : (b : Bool) → lie_in (put xs Rax all_words) (if b then f else with_register Rax old f).registers ≡ true
    go true = lie_wider xs f.registers (register_number Rax) h
    go false = lie_put xs f Rax all_words old h (any_word old)
exchanged_in ExchangeAdd r xs f old h = lie_put xs f r all_words old h (any_word old)

-- ---- instructions

at_place_hands : (xs : List Interval) (o : Option ℕ) (access : ℕ → Action Activation) → ((p : ℕ) → GoesOnWith (RegistersLie xs) (access p)) → GoesOnWith (RegistersLie xs) (at_place o access)
at_place_hands xs None access h = tt
at_place_hands xs (Some p) access h = h p

counted_hands : (xs : List Interval) (name : ProcedureKind) (f : Frame) (target bound number : ℕ) (o : Option ℕ) → lie_in xs f.registers ≡ true → GoesOnWith (RegistersLie xs) (counted_jump name f target bound number o)
counted_hands xs name f target bound number None h = tt
counted_hands xs name f target bound number (Some count) h = go (nat_lt count bound)
  where
    go : (b : Bool) → GoesOnWith (RegistersLie xs) (if b then Silent (activation name (record f { pc = target; taken = slice_set f.taken number (count + 1) })) else Cut)
    go true = h
    go false = tt

jump_hands : (xs : List Interval) (name : ProcedureKind) (f : Frame) (number target : ℕ) (bound : Option ℕ) → lie_in xs f.registers ≡ true → GoesOnWith (RegistersLie xs) (jump name f number target bound)
jump_hands xs name f number target bound h = go (nat_le target f.pc)
  where
    go : (b : Bool) → GoesOnWith (RegistersLie xs) (if b then counted_jump name f target (unwrap_or bound 0) number (slice_get f.taken number) else Silent (activation name (record f { pc = target })))
    go true = counted_hands xs name f target (unwrap_or bound 0) number (slice_get f.taken number) h
    go false = h

returned_hands : (xs : List Interval) (name : ProcedureKind) (f : Frame) → GoesOnWith (RegistersLie xs) (returned name f)
returned_hands xs name f = go (register_of f Rax == 0) (register_of f Rax == 1)
  where
    go : (a b : Bool) → GoesOnWith (RegistersLie xs) (if a then Ret Refused else (if b then Ret (done_answer name f) else Fail BadAnswer))
    go true b = tt
    go false true = tt
    go false false = tt

instruction_hands : (c : Client) (name : ProcedureKind) (f : Frame) (i : Instruction ℕ ℕ) (xs : List Interval) → is_in_range i ≡ true → lie_in xs f.registers ≡ true
    → GoesOnWith (RegistersLie (moved xs i)) (instruction_action c name f i)
instruction_hands c name f (the.Move to from) xs ok h = lie_put xs f to (source_interval xs from) (value_of f from) h (value_in xs f from ok h)
instruction_hands c name f (the.Load to from) xs ok h = at_place_hands (put xs to all_words) (operand_place c.arrays f from) _ (λ p w. lie_put xs f to all_words w h (any_word w))
instruction_hands c name f (the.Store to from) xs ok h = at_place_hands xs (operand_place c.arrays f to) _ (λ p. h)
instruction_hands c name f (the.Compute operation to from) xs ok h =
    lie_put xs f to (computed operation (interval_of xs to) from (source_interval xs from)) (operation_result operation (register_of f to) (value_of f from)) h
    (computed_in operation (interval_of xs to) (source_interval xs from) f (register_of f to) from (register_in xs f to h) (value_in xs f from (narrow_is_word from ok) h))
instruction_hands c name f (the.Compare comparison left right) xs ok h = h
instruction_hands c name f (the.Increment r) xs ok h =
    lie_put xs f r (raised (interval_of xs r) 1) (sum (register_of f r) 1) h (raised_in (interval_of xs r) 1 (register_of f r) (register_in xs f r h))
instruction_hands c name f (the.Decrement r) xs ok h = lie_put xs f r all_words (difference (register_of f r) 1) h (any_word (difference (register_of f r) 1))
instruction_hands c name f (the.Jump when target bound) xs ok h = go (is_taken when f.flags)
  where
    go : (b : Bool) → GoesOnWith (RegistersLie xs) (if b then jump name f (back_jumps 0 (take f.pc (instructions_of c name))) target bound else Silent (activation name (at_next f)))
    go true = jump_hands xs name f (back_jumps 0 (take f.pc (instructions_of c name))) target bound h
    go false = h
instruction_hands c name f (the.Assert condition) xs ok h = go (holds condition f.flags)
  where
    go : (b : Bool) → GoesOnWith (RegistersLie xs) (if b then Silent (activation name (at_next f)) else Fail FalseAssertion)
    go true = h
    go false = tt
instruction_hands c name f (the.Locked operation cell r) xs ok h =
    at_place_hands (put xs (after.exchanged operation r) all_words) (operand_place c.arrays f cell) _ (λ p w. exchanged_in operation r xs f w h)
instruction_hands c name f the.Fence xs ok h = h
instruction_hands c name f the.Nop xs ok h = h
instruction_hands c name f the.Pause xs ok h = h
instruction_hands c name f the.Return xs ok h = returned_hands xs name f

-- each instruction of a client has its immediates in range
passes : {X : Type 0} (p : X → Bool) (xs : List X) → list_all p xs ≡ true → (n : ℕ) (x : X) → slice_get xs n ≡ Some x → p x ≡ true
passes p [] h n x e = absurd (none-some x e)
passes p (y ∷ ys) h zero x e = subst (λ z. p z ≡ true) (same_Some y x e) (and_parts (p y) (list_all p ys) h).0
passes p (y ∷ ys) h (suc n) x e = passes p ys (and_parts (p y) (list_all p ys) h).1 n x e

pub in_range : (c : Client) (name : ProcedureKind) (n : ℕ) (i : Instruction ℕ ℕ) → slice_get (instructions_of c name) n ≡ Some i → is_in_range i ≡ true
in_range c procedures.Push = passes is_in_range c.push.instructions c.push.in_range
in_range c procedures.Pop = passes is_in_range c.pop.instructions c.pop.in_range

pub next_hands : (c : Client) (a : Activation) (i : Instruction ℕ ℕ) (xs : List Interval) → slice_get (instructions_of c a.procedure) a.frame.pc ≡ Some i → lie_in xs a.frame.registers ≡ true
    → GoesOnWith (RegistersLie (moved xs i)) (next_action c a)
unfolding next_action
next_hands c a i xs e h =
    subst (λ (o : Option (Instruction ℕ ℕ)). GoesOnWith (RegistersLie (moved xs i)) (action_at c a.procedure a.frame o)) (sym e) (instruction_hands c a.procedure a.frame i xs (in_range c a.procedure a.frame.pc i e) h)
