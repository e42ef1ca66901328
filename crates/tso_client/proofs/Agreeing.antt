-- What an instruction does depends on what it reads alone.
use Rattle.std.proofs.Common.{◌≡◌, ◌∙◌, ℕ, ◌+◌, Bool, true, false, nat_le, nat_lt, not, ◌||◌, List, length, take, Option, Some, None, slice_get, slice_set, refl, sym, ap, subst, if◌then◌else◌, ◌==◌}
use Rattle.std.specs.Prelude.{unwrap_or}
use Rattle.std.proofs.lemmas.Bool.{or_left, or_right}
use Rattle.tso_word.specs.declared.Condition.{Condition}
use Rattle.tso_word.specs.declared.Condition.TheVariants.{E, Ne, B, Ae, Be, A, L, Ge, Le, G}
use Rattle.tso_word.specs.declared.Flags.{Flags}
use Rattle.tso_word.specs.Word.{holds, sum, sum_flags, difference, difference_flags, with_carry}
use Rattle.tso_line.specs.declared.instruction.Address.{Address}
use Rattle.tso_line.specs.declared.instruction.Instruction.{Instruction}
use Rattle.tso_line.specs.declared.instruction.Instruction.TheVariants as the
use Rattle.tso_line.specs.declared.instruction.LockedOperation.{LockedOperation}
use Rattle.tso_line.specs.declared.instruction.LockedOperation.TheVariants.{Exchange, CompareExchange, ExchangeAdd}
use Rattle.tso_line.specs.declared.instruction.Register.{Register}
use Rattle.tso_line.specs.declared.instruction.Register.TheVariants.{Rax, Rdx}
use Rattle.tso_line.specs.declared.instruction.Source.{Source}
use Rattle.tso_line.specs.declared.instruction.Source.TheVariants as source
use Rattle.tso_prog.specs.declared.client.Array.{Array}
use Rattle.tso_prog.specs.declared.client.Client.{Client}
use Rattle.tso_flow.specs.Accesses.{condition_reads, is_carry_flag, is_index, is_same, is_source, reads, writes}
use Rattle.tso_flow.specs.declared.location.Flag.{Flag}
use Rattle.tso_flow.specs.declared.location.Flag.TheVariants.{Zero, Carry, Sign, Overflow}
use Rattle.tso_flow.specs.declared.location.Location.{Location}
use Rattle.tso_flow.specs.declared.location.Location.TheVariants as location
use Rattle.tso_flow.specs.declared.location.ProcedureKind.{ProcedureKind}
use Rattle.tso_flow.specs.declared.location.ProcedureKind.TheVariants as procedures
use Rattle.tso_machine.proofs.Fine.{exchanged_pc, exchanged_taken}
use Rattle.tso_machine.specs.Activations.{Activation, activation}
use Rattle.tso_machine.specs.Frames.{register_of, value_of}
use Rattle.tso_machine.specs.Instructions.{action_at, at_next, at_place, back_jumps, counted_jump, exchanged, instruction_action, instructions_of, is_taken, jump, next_action, returned, with_register}
use Rattle.tso_machine.specs.Places.{index_register, operand_place}
use Rattle.tso_machine.specs.declared.frame.Frame.{Frame}
use Rattle.tso_model.specs.Programs.{Action, Silent, Value}
use Rattle.tso_client.proofs.Held.{same_refl, written_register}
use Rattle.tso_client.specs.Accesses.{flag_of, AgreeAfter, AreAlike, HoldSame, ReadsAreAll}

no_write : {P : Type 0} → false ≡ true → P
no_write e = absurd cc

-- ---- one choice in two calls

module _ (R : Activation → Activation → Type 0) where
  both_if : (b d : Bool) (x y u v : Action Activation) → b ≡ d → (b ≡ true → AreAlike R x u) → (b ≡ false → AreAlike R y v) → AreAlike R (if b then x else y) (if d then u else v)
  both_if true true x y u v e f g = f refl
  both_if false false x y u v e f g = g refl
  both_if true false x y u v e f g = absurd cc
  both_if false true x y u v e f g = absurd cc

  both_at : (o q : Option ℕ) (access own : ℕ → Action Activation) → o ≡ q → ((p : ℕ) → AreAlike R (access p) (own p)) → AreAlike R (at_place o access) (at_place q own)
  both_at None None access own e f = refl
  both_at (Some p) None access own e f = absurd cc
  both_at None (Some p) access own e f = absurd cc
  both_at (Some p) (Some q) access own e f =
      let same : p ≡ q = cc in
      let P : ℕ → Type 0 = λ n. AreAlike R (access p) (own n) in subst P same (f p)

-- ---- what is read

module _ (f g : Frame) where
  registers_read : (Register → Bool) → Type 0
  registers_read test = (r : Register) → test r ≡ true → register_of f r ≡ register_of g r

  source_same : (from : Source) → ((r : Register) → is_source from r ≡ true → register_of f r ≡ register_of g r) → value_of f from ≡ value_of g from
  source_same (source.Register r) same = same r (same_refl r)
  source_same (source.Word w) same = refl

  index_same : (index : Option Register) (cell : Address ℕ) → cell.index ≡ index → ((r : Register) → is_index cell r ≡ true → register_of f r ≡ register_of g r) → index_register f index ≡ index_register g index
  index_same None cell e same = refl
  index_same (Some r) cell e same = same r (rw e (same_refl r))

  place_same : (arrays : List Array) (cell : Address ℕ) → ((r : Register) → is_index cell r ≡ true → register_of f r ≡ register_of g r) → operand_place arrays f cell ≡ operand_place arrays g cell
  place_same arrays cell same = rw (index_same cell.index cell refl same) refl

  holds_same : (condition : Condition) → ((x : Flag) → condition_reads condition x ≡ true → flag_of f.flags x ≡ flag_of g.flags x) → holds condition f.flags ≡ holds condition g.flags
  holds_same E same = same Zero refl
  holds_same Ne same = ap not (same Zero refl)
  holds_same B same = same Carry refl
  holds_same Ae same = ap not (same Carry refl)
  holds_same Be same = rw (same Carry refl, same Zero refl) refl
  holds_same A same = rw (same Carry refl, same Zero refl) refl
  holds_same L same = rw (same Sign refl, same Overflow refl) refl
  holds_same Ge same = rw (same Sign refl, same Overflow refl) refl
  holds_same Le same = rw (same Zero refl, same Sign refl, same Overflow refl) refl
  holds_same G same = rw (same Zero refl, same Sign refl, same Overflow refl) refl

-- ---- what is written

module _ (step : Instruction ℕ ℕ) (name : ProcedureKind) (f g : Frame) (many : length f.registers ≡ length g.registers) where
  -- both go on to one position, alike in what is written
  both : (u v : Frame) → u.pc ≡ v.pc → u.taken ≡ v.taken → ((r : Register) → writes step (location.Register r) ≡ true → register_of u r ≡ register_of v r)
      → ((x : Flag) → writes step (location.Flag x) ≡ true → flag_of u.flags x ≡ flag_of v.flags x) → AgreeAfter step (activation name u) (activation name v)
  both u v position counts registers flags = record { procedure = refl; position = position; counts = counts; written = written }
    where
      written : (x : Location) → writes step x ≡ true → HoldSame u v x
      written (location.Register r) e = registers r e
      written (location.Flag x) e = flags x e

  -- the same word in one register
  same_word : (to : Register) (w v : ℕ) → w ≡ v → ((r : Register) → writes step (location.Register r) ≡ true → is_same to r ≡ true)
      → (r : Register) → writes step (location.Register r) ≡ true → register_of (with_register to w f) r ≡ register_of (with_register to v g) r
  same_word to w v e only r written = written_register f g to r w v (only r written) many e

-- flags but the carry
but_carry : (step : Instruction ℕ ℕ) (c d : Bool) (p q : Flags) → p ≡ q → ((x : Flag) → writes step (location.Flag x) ≡ not (is_carry_flag x)) → (x : Flag) → writes step (location.Flag x) ≡ true
    → flag_of (with_carry c p) x ≡ flag_of (with_carry d q) x
but_carry step c d p q e are Carry h = let k : false ≡ true = sym (are Carry) ∙ h in no_write k
but_carry step c d p q e are Zero h = ap (λ (z : Flags). z.zf) e
but_carry step c d p q e are Sign h = ap (λ (z : Flags). z.sf) e
but_carry step c d p q e are Overflow h = ap (λ (z : Flags). z.of) e

all_flags : (p q : Flags) → p ≡ q → (x : Flag) → flag_of p x ≡ flag_of q x
all_flags p q e x = ap (λ (z : Flags). flag_of z x) e

either_rax : (b d : Bool) (f g : Frame) (w : ℕ) (r : Register) → b ≡ d → is_same Rax r ≡ true → length f.registers ≡ length g.registers → register_of f r ≡ register_of g r
    → register_of (if b then f else with_register Rax w f) r ≡ register_of (if d then g else with_register Rax w g) r
either_rax true true f g w r e rax many same = same
either_rax false false f g w r e rax many same = written_register f g Rax r w w rax many refl
either_rax true false f g w r e rax many same = absurd cc
either_rax false true f g w r e rax many same = absurd cc

-- ---- one instruction in two frames at one position

module _ (c : Client) (name : ProcedureKind) (pc : ℕ) (taken rs qs : List ℕ) (p q : Flags) (many : length rs ≡ length qs) where
  abbrev left : Frame
  left = record { pc = pc; registers = rs; flags = p; taken = taken }

  abbrev right : Frame
  right = record { pc = pc; registers = qs; flags = q; taken = taken }

  abbrev Alike : Instruction ℕ ℕ → Action Activation → Action Activation → Type 0
  Alike step a b = AreAlike (AgreeAfter step) a b

  abbrev Read : Instruction ℕ ℕ → Type 0
  Read step = (x : Location) → reads name step x ≡ true → HoldSame left right x

  -- nothing is written, and both go on to this position
  moved : (step : Instruction ℕ ℕ) (at : ℕ) (counts : List ℕ) → ((x : Location) → writes step x ≡ false)
      → AgreeAfter step (activation name (record left { pc = at; taken = counts })) (activation name (record right { pc = at; taken = counts }))
  moved step at counts none =
      both step name left right many (record left { pc = at; taken = counts }) (record right { pc = at; taken = counts }) refl refl
      (λ r e. let h : false ≡ true = sym (none (location.Register r)) ∙ e in no_write h) (λ x e. let h : false ≡ true = sym (none (location.Flag x)) ∙ e in no_write h)

  no_writes_jump : (when : Option Condition) (target : ℕ) (bound : Option ℕ) (x : Location) → writes (the.Jump when target bound) x ≡ false
  unfolding writes
  no_writes_jump when target bound (location.Register r) = refl
  no_writes_jump when target bound (location.Flag x) = refl

  taken_same : (when : Option Condition) (target : ℕ) (bound : Option ℕ) → Read (the.Jump when target bound) → is_taken when p ≡ is_taken when q
  unfolding reads
  taken_same None target bound same = refl
  taken_same (Some condition) target bound same = holds_same left right condition (λ x e. same (location.Flag x) e)

  counted_alike : (when : Option Condition) (target : ℕ) (bound : Option ℕ) (limit number : ℕ) (o : Option ℕ)
      → Alike (the.Jump when target bound) (counted_jump name left target limit number o) (counted_jump name right target limit number o)
  counted_alike when target bound limit number None = tt
  counted_alike when target bound limit number (Some count) =
      both_if (AgreeAfter (the.Jump when target bound)) (nat_lt count limit) (nat_lt count limit) _ _ _ _ refl
      (λ e. moved (the.Jump when target bound) target (slice_set taken number (count + 1)) (no_writes_jump when target bound)) (λ e. tt)

  jump_alike : (when : Option Condition) (target : ℕ) (bound : Option ℕ) → Read (the.Jump when target bound)
      → Alike (the.Jump when target bound) (instruction_action c name left (the.Jump when target bound)) (instruction_action c name right (the.Jump when target bound))
  jump_alike when target bound same =
      let step : Instruction ℕ ℕ = the.Jump when target bound in
      let number = back_jumps 0 (take pc (instructions_of c name)) in
      both_if (AgreeAfter step) (is_taken when p) (is_taken when q) (jump name left number target bound) (Silent (activation name (at_next left))) (jump name right number target bound) (Silent (activation name (at_next right))) (taken_same when target bound same)
      (λ e. both_if (AgreeAfter step) (nat_le target pc) (nat_le target pc) _ _ _ _ refl (λ back. counted_alike when target bound (unwrap_or bound 0) number (slice_get taken number))
      (λ ahead. moved step target taken (no_writes_jump when target bound)))
      (λ e. moved step (pc + 1) taken (no_writes_jump when target bound))

  return_alike : (kind : ProcedureKind) → ((r : Register) → reads kind the.Return (location.Register r) ≡ true → register_of left r ≡ register_of right r) → Alike the.Return (returned kind left) (returned kind right)
  unfolding reads
  return_alike procedures.Push same =
      let rax : register_of left Rax ≡ register_of right Rax = same Rax (same_refl Rax) in
      both_if (AgreeAfter the.Return) (register_of left Rax == 0) (register_of right Rax == 0) _ _ _ _ (ap (λ (n : ℕ). n == 0) rax) (λ e. refl)
      (λ e. both_if (AgreeAfter the.Return) (register_of left Rax == 1) (register_of right Rax == 1) _ _ _ _ (ap (λ (n : ℕ). n == 1) rax) (λ e'. refl) (λ e'. refl))
  return_alike procedures.Pop same =
      let rax : register_of left Rax ≡ register_of right Rax = same Rax (or_left (is_same Rax Rax) (is_same Rdx Rax) (same_refl Rax)) in
      let rdx : register_of left Rdx ≡ register_of right Rdx = same Rdx (or_right (is_same Rax Rdx) (is_same Rdx Rdx) (same_refl Rdx)) in
      both_if (AgreeAfter the.Return) (register_of left Rax == 0) (register_of right Rax == 0) _ _ _ _ (ap (λ (n : ℕ). n == 0) rax) (λ e. refl)
      (λ e. both_if (AgreeAfter the.Return) (register_of left Rax == 1) (register_of right Rax == 1) _ _ _ _ (ap (λ (n : ℕ). n == 1) rax) (λ e'. ap Value rdx) (λ e'. refl))

  locked_alike : (operation : LockedOperation) (cell : Address ℕ) (r : Register) → Read (the.Locked operation cell r)
      → Alike (the.Locked operation cell r) (instruction_action c name left (the.Locked operation cell r)) (instruction_action c name right (the.Locked operation cell r))
  unfolding reads writes
  locked_alike Exchange cell r same =
      let own : register_of left r ≡ register_of right r = same (location.Register r) (or_left (is_index cell r || is_same r r) false (or_right (is_index cell r) (is_same r r) (same_refl r))) in
      both_at (AgreeAfter (the.Locked Exchange cell r)) _ _ _ _ (place_same left right c.arrays cell (λ s e. same (location.Register s) (or_left (is_index cell s || is_same r s) false (or_left (is_index cell s) (is_same r s) e))))
      (λ at. (refl, (λ old. own), (λ old. both (the.Locked Exchange cell r) name left right many _ _ refl refl (same_word (the.Locked Exchange cell r) name left right many r old old refl (λ s e. e)) (λ x e. no_write e))))
  locked_alike ExchangeAdd cell r same =
      let own : register_of left r ≡ register_of right r = same (location.Register r) (or_left (is_index cell r || is_same r r) false (or_right (is_index cell r) (is_same r r) (same_refl r))) in
      both_at (AgreeAfter (the.Locked ExchangeAdd cell r)) _ _ _ _ (place_same left right c.arrays cell (λ s e. same (location.Register s) (or_left (is_index cell s || is_same r s) false (or_left (is_index cell s) (is_same r s) e))))
      (λ at. (
        refl,
        (λ old. ap (sum old) own),
        (λ old. both (the.Locked ExchangeAdd cell r) name left right many _ _ refl refl (same_word (the.Locked ExchangeAdd cell r) name left right many r old old refl (λ s e. e)) (λ x e. all_flags _ _ (ap (sum_flags old) own) x)),
      ))
  locked_alike CompareExchange cell r same =
      let own : register_of left r ≡ register_of right r = same (location.Register r) (or_left (is_index cell r || is_same r r) (is_same Rax r) (or_right (is_index cell r) (is_same r r) (same_refl r))) in
      let rax : (s : Register) → is_same Rax s ≡ true → register_of left s ≡ register_of right s = λ s e. same (location.Register s) (or_right (is_index cell s || is_same r s) (is_same Rax s) e) in
      let expected : register_of left Rax ≡ register_of right Rax = rax Rax (same_refl Rax) in
      both_at (AgreeAfter (the.Locked CompareExchange cell r)) _ _ _ _ (place_same left right c.arrays cell (λ s e. same (location.Register s) (or_left (is_index cell s || is_same r s) (is_same Rax s) (or_left (is_index cell s) (is_same r s) e))))
      (λ at. (
        refl,
        (λ old. rw (expected, own) refl),
        (λ old. both (the.Locked CompareExchange cell r) name left right many (at_next (exchanged CompareExchange r left old)) (at_next (exchanged CompareExchange r right old))
            (ap (λ (n : ℕ). n + 1) (exchanged_pc CompareExchange r left old ∙ sym (exchanged_pc CompareExchange r right old)))
            (exchanged_taken CompareExchange r left old ∙ sym (exchanged_taken CompareExchange r right old))
            (λ s e. either_rax (register_of left Rax == old) (register_of right Rax == old) left right old s (ap (λ (n : ℕ). n == old) expected) e many (rax s e))
            (λ x e. all_flags _ _ (ap (λ (n : ℕ). difference_flags n old) expected) x)),
      ))

  instruction_alike : (step : Instruction ℕ ℕ) → Read step → Alike step (instruction_action c name left step) (instruction_action c name right step)
  unfolding reads writes
  instruction_alike (the.Move to from) same =
      let value = source_same left right from (λ r e. same (location.Register r) e) in
      both (the.Move to from) name left right many _ _ refl refl (same_word (the.Move to from) name left right many to _ _ value (λ s e. e)) (λ x e. no_write e)
  instruction_alike (the.Load to from) same =
      both_at (AgreeAfter (the.Load to from)) _ _ _ _ (place_same left right c.arrays from (λ s e. same (location.Register s) e))
      (λ at. (refl, (λ word. both (the.Load to from) name left right many _ _ refl refl (same_word (the.Load to from) name left right many to word word refl (λ s e. e)) (λ x e. no_write e))))
  instruction_alike (the.Store to from) same =
      both_at (AgreeAfter (the.Store to from)) _ _ _ _ (place_same left right c.arrays to (λ s e. same (location.Register s) (or_left (is_index to s) (is_source from s) e)))
      (λ at. (refl, source_same left right from (λ s e. same (location.Register s) (or_right (is_index to s) (is_source from s) e)), both (the.Store to from) name left right many _ _ refl refl (λ r e. no_write e) (λ x e. no_write e)))
  instruction_alike (the.Compute operation to from) same =
      let own : register_of left to ≡ register_of right to = same (location.Register to) (or_left (is_same to to) (is_source from to) (same_refl to)) in
      let value = source_same left right from (λ s e. same (location.Register s) (or_right (is_same to s) (is_source from s) e)) in
      both (the.Compute operation to from) name left right many _ _ refl refl (same_word (the.Compute operation to from) name left right many to _ _ (rw (own, value) refl) (λ s e. e)) (λ x e. all_flags _ _ (rw (own, value) refl) x)
  instruction_alike (the.Compare comparison l r) same =
      let own : register_of left l ≡ register_of right l = same (location.Register l) (or_left (is_same l l) (is_source r l) (same_refl l)) in
      let value = source_same left right r (λ s e. same (location.Register s) (or_right (is_same l s) (is_source r s) e)) in
      both (the.Compare comparison l r) name left right many _ _ refl refl (λ s e. no_write e) (λ x e. all_flags _ _ (rw (own, value) refl) x)
  instruction_alike (the.Increment r) same =
      let own : register_of left r ≡ register_of right r = same (location.Register r) (same_refl r) in
      both (the.Increment r) name left right many _ _ refl refl (same_word (the.Increment r) name left right many r _ _ (ap (λ (n : ℕ). sum n 1) own) (λ s e. e))
      (but_carry (the.Increment r) p.cf q.cf _ _ (ap (λ (n : ℕ). sum_flags n 1) own) (λ x. refl))
  instruction_alike (the.Decrement r) same =
      let own : register_of left r ≡ register_of right r = same (location.Register r) (same_refl r) in
      both (the.Decrement r) name left right many _ _ refl refl (same_word (the.Decrement r) name left right many r _ _ (ap (λ (n : ℕ). difference n 1) own) (λ s e. e))
      (but_carry (the.Decrement r) p.cf q.cf _ _ (ap (λ (n : ℕ). difference_flags n 1) own) (λ x. refl))
  instruction_alike (the.Jump when target bound) same = jump_alike when target bound same
  instruction_alike (the.Assert condition) same =
      both_if (AgreeAfter (the.Assert condition)) (holds condition p) (holds condition q) _ _ _ _ (holds_same left right condition (λ x e. same (location.Flag x) e))
      (λ e. both (the.Assert condition) name left right many _ _ refl refl (λ r e'. no_write e') (λ x e'. no_write e')) (λ e. refl)
  instruction_alike (the.Locked operation cell r) same = locked_alike operation cell r same
  instruction_alike the.Fence same = both the.Fence name left right many _ _ refl refl (λ r e. no_write e) (λ x e. no_write e)
  instruction_alike the.Nop same = both the.Nop name left right many _ _ refl refl (λ r e. no_write e) (λ x e. no_write e)
  instruction_alike the.Pause same = both the.Pause name left right many _ _ refl refl (λ r e. no_write e) (λ x e. no_write e)
  instruction_alike the.Return same = return_alike name (λ r e. same (location.Register r) e)

  at_alike : (step : Instruction ℕ ℕ) (o : Option (Instruction ℕ ℕ)) → o ≡ Some step → Read step → Alike step (action_at c name left o) (action_at c name right o)
  at_alike step None e same = absurd cc
  at_alike step (Some own) e same =
      let is : step ≡ own = cc in
      let Q : Instruction ℕ ℕ → Type 0 = λ s. Alike step (instruction_action c name left s) (instruction_action c name right s) in
      subst Q is (instruction_alike step same)

pub reads_are_all : (c : Client) → ReadsAreAll c
unfolding next_action
reads_are_all c a b step there before =
    let f : Frame = a.frame in
    let g : Frame = b.frame in
    let same : (x : Location) → reads a.procedure step x ≡ true → HoldSame f (record g { pc = f.pc; taken = f.taken }) x = λ x e. held x (before.read x e) in
    let here : AreAlike (AgreeAfter step) (action_at c a.procedure f (slice_get (instructions_of c a.procedure) f.pc)) (action_at c a.procedure (record g { pc = f.pc; taken = f.taken }) (slice_get (instructions_of c a.procedure) f.pc)) =
    at_alike c a.procedure f.pc f.taken f.registers g.registers f.flags g.flags before.registers step (slice_get (instructions_of c a.procedure) f.pc) there same in
    let T : List ℕ → Type 0 = λ t. AreAlike (AgreeAfter step) (action_at c a.procedure f (slice_get (instructions_of c a.procedure) f.pc)) (action_at c a.procedure (record g { pc = f.pc; taken = t }) (slice_get (instructions_of c a.procedure) f.pc)) in
    let P : ℕ → Type 0 = λ n. AreAlike (AgreeAfter step) (action_at c a.procedure f (slice_get (instructions_of c a.procedure) f.pc)) (action_at c a.procedure (record g { pc = n }) (slice_get (instructions_of c a.procedure) n)) in
    let N : ProcedureKind → Type 0 = λ n. AreAlike (AgreeAfter step) (action_at c a.procedure f (slice_get (instructions_of c a.procedure) f.pc)) (action_at c n g (slice_get (instructions_of c n) g.pc)) in
    subst N before.procedure (subst P before.position (subst T before.counts here))
  where
    held : (x : Location) → HoldSame a.frame b.frame x → HoldSame a.frame (record b.frame { pc = a.frame.pc; taken = a.frame.taken }) x
    held (location.Register r) h = h
    held (location.Flag x) h = h
