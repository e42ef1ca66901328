-- Each instruction goes on along an edge of its procedure, and so along the paths that the flow check knows.
use Rattle.std.proofs.Common.{◌≡◌, ℕ, ◌+◌, ◌<◌, Bool, true, false, nat_le, nat_lt, [], length, take, Option, Some, None, slice_get, slice_set, refl, sym, ap, subst, arith, if◌then◌else◌, ◌==◌, ◌||◌, eq-eqb}
use Rattle.std.specs.Prelude.{unwrap_or}
use Rattle.std.proofs.lemmas.Bool.{cond_both, or_left, or_right}
use Rattle.tso_line.specs.declared.instruction.Instruction.{Instruction}
use Rattle.tso_line.specs.declared.instruction.Instruction.TheVariants as the
use Rattle.tso_line.specs.declared.instruction.Register.TheVariants.{Rax}
use Rattle.tso_word.specs.declared.Condition.{Condition}
use Rattle.tso_word.specs.Word.{holds}
use Rattle.tso_prog.specs.declared.client.Client.{Client}
use Rattle.tso_flow.proofs.Marking.{reaches_next}
use Rattle.tso_flow.proofs.Sound.{stays_within}
use Rattle.tso_flow.specs.Faults.{HasNoFault}
use Rattle.tso_flow.specs.Paths.{goes_on, goes_on_from, is_at, next_of, target_of, Reaches}
use Rattle.tso_flow.specs.declared.location.ProcedureKind.{ProcedureKind}
use Rattle.tso_flow.specs.declared.location.ProcedureKind.TheVariants as procedures
use Rattle.tso_machine.proofs.Fine.{exchanged_pc}
use Rattle.tso_machine.specs.Activations.{Activation, activation}
use Rattle.tso_machine.specs.Control.{GoesOnWith, IsNext, IsOnPath}
use Rattle.tso_machine.specs.Frames.{register_of}
use Rattle.tso_machine.specs.Instructions.{action_at, at_place, back_jumps, counted_jump, done_answer, instruction_action, instructions_of, jump, next_action, returned}
use Rattle.tso_machine.specs.Places.{operand_place}
use Rattle.tso_machine.specs.Programs.{start_of}
use Rattle.tso_machine.specs.declared.frame.Frame.{Frame}
use Rattle.tso_model.specs.Programs.{Action, CallKind, Silent, Load, Store, Barrier, Locked, Ret, Fail, Cut, Refused, BadAnswer, OutOfRange, FalseAssertion}
use Rattle.tso_model.specs.Programs as model

-- ---- edges

here : (o : Option ℕ) (j k : ℕ) → o ≡ Some k → j ≡ k → is_at o j ≡ true
here o j k is same = let Q : Option ℕ → Type 0 = λ p. is_at p j ≡ true in subst Q (sym is) (eq-eqb k j (sym same))

to_next : (step : Instruction ℕ ℕ) (i j : ℕ) → next_of step i ≡ Some (i + 1) → j ≡ i + 1 → goes_on step i j ≡ true
unfolding goes_on
to_next step i j is same = or_left (is_at (next_of step i) j) (is_at (target_of step) j) (here (next_of step i) j (i + 1) is same)

to_target : (step : Instruction ℕ ℕ) (i j target : ℕ) → target_of step ≡ Some target → j ≡ target → goes_on step i j ≡ true
unfolding goes_on
to_target step i j target is same = or_right (is_at (next_of step i) j) (is_at (target_of step) j) (here (target_of step) j target is same)

module _ (c : Client) (name : ProcedureKind) (f : Frame) (step : Instruction ℕ ℕ) (there : slice_get (instructions_of c name) f.pc ≡ Some step) where
  abbrev On : Frame → Type 0
  On g = IsNext c (activation name f) (activation name g)

  abbrev Follows : Action Activation → Type 0
  Follows action = GoesOnWith (IsNext c (activation name f)) action

  along : (g : Frame) → goes_on step f.pc g.pc ≡ true → On g
  along g e =
      let Q : Option (Instruction ℕ ℕ) → Type 0 = λ o. goes_on_from None o f.pc g.pc ≡ true in
      record { procedure = refl; edge = subst Q (sym there) e }

  pub next : (g : Frame) → next_of step f.pc ≡ Some (f.pc + 1) → g.pc ≡ f.pc + 1 → On g
  next g is same = along g (to_next step f.pc g.pc is same)

  target : (g : Frame) (t : ℕ) → target_of step ≡ Some t → g.pc ≡ t → On g
  target g t is same = along g (to_target step f.pc g.pc t is same)

  accessed : (o : Option ℕ) (access : ℕ → Action Activation) → ((p : ℕ) → Follows (access p)) → Follows (at_place o access)
  accessed None access follows = tt
  accessed (Some p) access follows = follows p

  returned_follows : Follows (returned name f)
  returned_follows =
      cond_both (register_of f Rax == 0) (Ret Refused) (if register_of f Rax == 1 then Ret (done_answer name f) else Fail BadAnswer) Follows
      (λ e. tt)
      (λ e. cond_both (register_of f Rax == 1) (Ret (done_answer name f)) (Fail BadAnswer) Follows (λ e'. tt) (λ e'. tt))

  asserted_follows : (b : Bool) (g : Frame) → On g → Follows (if b then Silent (activation name g) else Fail FalseAssertion)
  asserted_follows true g on = on
  asserted_follows false g on = tt

  counted_follows : (t bound number : ℕ) (o : Option ℕ) → target_of step ≡ Some t → Follows (counted_jump name f t bound number o)
  counted_follows t bound number None is = tt
  counted_follows t bound number (Some count) is =
      let g : Frame = record f { pc = t; taken = slice_set f.taken number (count + 1) } in
      cond_both (nat_lt count bound) (Silent (activation name g)) Cut Follows (λ below. target g t is refl) (λ above. tt)

  jump_follows : (number t : ℕ) (bound : Option ℕ) → target_of step ≡ Some t → Follows (jump name f number t bound)
  jump_follows number t bound is =
      let g : Frame = record f { pc = t } in
      cond_both (nat_le t f.pc) (counted_jump name f t (unwrap_or bound 0) number (slice_get f.taken number)) (Silent (activation name g)) Follows
      (λ back. counted_follows t (unwrap_or bound 0) number (slice_get f.taken number) is) (λ ahead. target g t is refl)

jump_on : (c : Client) (name : ProcedureKind) (f : Frame) (when : Option Condition) (t : ℕ) (bound : Option ℕ) → slice_get (instructions_of c name) f.pc ≡ Some (the.Jump when t bound)
    → GoesOnWith (IsNext c (activation name f)) (instruction_action c name f (the.Jump when t bound))
jump_on c name f None t bound there = jump_follows c name f (the.Jump None t bound) there (back_jumps 0 (take f.pc (instructions_of c name))) t bound refl
jump_on c name f (Some condition) t bound there =
    let step : Instruction ℕ ℕ = the.Jump (Some condition) t bound in
    cond_both (holds condition f.flags) (jump name f (back_jumps 0 (take f.pc (instructions_of c name))) t bound) (Silent (activation name (record f { pc = f.pc + 1 })))
    (λ a. GoesOnWith (IsNext c (activation name f)) a)
    (λ e. jump_follows c name f step there (back_jumps 0 (take f.pc (instructions_of c name))) t bound refl) (λ e. next c name f step there _ refl refl)

follows_edge : (c : Client) (name : ProcedureKind) (f : Frame) (step : Instruction ℕ ℕ) → slice_get (instructions_of c name) f.pc ≡ Some step
    → GoesOnWith (IsNext c (activation name f)) (instruction_action c name f step)
follows_edge c name f (the.Move to from) there = next c name f (the.Move to from) there _ refl refl
follows_edge c name f (the.Load to from) there =
    accessed c name f (the.Load to from) there (operand_place c.arrays f from) _ (λ p v. next c name f (the.Load to from) there _ refl refl)
follows_edge c name f (the.Store to from) there =
    accessed c name f (the.Store to from) there (operand_place c.arrays f to) _ (λ p. next c name f (the.Store to from) there _ refl refl)
follows_edge c name f (the.Compute operation to from) there = next c name f (the.Compute operation to from) there _ refl refl
follows_edge c name f (the.Compare comparison left right) there = next c name f (the.Compare comparison left right) there _ refl refl
follows_edge c name f (the.Increment r) there = next c name f (the.Increment r) there _ refl refl
follows_edge c name f (the.Decrement r) there = next c name f (the.Decrement r) there _ refl refl
follows_edge c name f (the.Jump when target bound) there = jump_on c name f when target bound there
follows_edge c name f (the.Assert condition) there =
    asserted_follows c name f (the.Assert condition) there (holds condition f.flags) _ (next c name f (the.Assert condition) there _ refl refl)
follows_edge c name f (the.Locked operation cell r) there =
    accessed c name f (the.Locked operation cell r) there (operand_place c.arrays f cell) _
    (λ p old. next c name f (the.Locked operation cell r) there _ refl (ap (λ (n : ℕ). n + 1) (exchanged_pc operation r f old)))
follows_edge c name f the.Fence there = next c name f the.Fence there _ refl refl
follows_edge c name f the.Nop there = next c name f the.Nop there _ refl refl
follows_edge c name f the.Pause there = next c name f the.Pause there _ refl refl
follows_edge c name f the.Return there = returned_follows c name f the.Return there

at_follows : (c : Client) (name : ProcedureKind) (f : Frame) (o : Option (Instruction ℕ ℕ)) → slice_get (instructions_of c name) f.pc ≡ o → GoesOnWith (IsNext c (activation name f)) (action_at c name f o)
at_follows c name f None e = tt
at_follows c name f (Some step) e = follows_edge c name f step e

pub follow_edges : (c : Client) (a : Activation) → GoesOnWith (IsNext c a) (next_action c a)
unfolding next_action
follow_edges c a = at_follows c a.procedure a.frame (slice_get (instructions_of c a.procedure) a.frame.pc) refl

-- ---- paths

on_edge : (c : Client) (name : ProcedureKind) (i j : ℕ) (o : Option (Instruction ℕ ℕ)) → HasNoFault c → slice_get (instructions_of c name) i ≡ o → Reaches None (instructions_of c name) i
    → goes_on_from None o i j ≡ true → j < length (instructions_of c name)
on_edge c name i j None sound is reached edge = absurd cc
on_edge c procedures.Push i j (Some step) sound is reached edge = stays_within c procedures.Push sound i j step reached is edge
on_edge c procedures.Pop i j (Some step) sound is reached edge = stays_within c procedures.Pop sound i j step reached is edge

stays_on_path : (c : Client) → HasNoFault c → (a b : Activation) → IsOnPath c a → IsNext c a b → IsOnPath c b
stays_on_path c sound a b on next =
    let R : ProcedureKind → Type 0 = λ name. Reaches None (instructions_of c name) b.frame.pc in
    let I : ProcedureKind → Type 0 = λ name. b.frame.pc < length (instructions_of c name) in
    record {
      reached = subst R (sym next.procedure) (reaches_next None (instructions_of c a.procedure) a.frame.pc b.frame.pc on.reached next.edge);
      inside = subst I (sym next.procedure)
          (on_edge c a.procedure a.frame.pc b.frame.pc (slice_get (instructions_of c a.procedure) a.frame.pc) sound refl on.reached next.edge);
    }

each : (P Q : Activation → Type 0) (action : Action Activation) → ((b : Activation) → P b → Q b) → GoesOnWith P action → GoesOnWith Q action
each P Q (Silent b) f h = f b h
each P Q (Load place k) f h = λ word. f (k word) (h word)
each P Q (Store place word b) f h = f b h
each P Q (Barrier b) f h = f b h
each P Q (Locked place new k) f h = λ word. f (k word) (h word)
each P Q (Ret answer) f h = tt
each P Q (Fail kind) f h = tt
each P Q Cut f h = tt

pub follow_paths : (c : Client) → HasNoFault c → (a : Activation) → IsOnPath c a → GoesOnWith (IsOnPath c) (next_action c a)
follow_paths c sound a on = each (IsNext c a) (IsOnPath c) (next_action c a) (λ b next. stays_on_path c sound a b on next) (follow_edges c a)

starts_in : (c : Client) (name : ProcedureKind) → 0 < length (instructions_of c name)
starts_in c procedures.Push = omega (arith, c.push.nonempty)
starts_in c procedures.Pop = omega (arith, c.pop.nonempty)

pub start_on_path : (c : Client) (call : CallKind) → IsOnPath c (start_of c call)
start_on_path c (model.Push v) = record { reached = ([], refl); inside = starts_in c procedures.Push }
start_on_path c model.Pop = record { reached = ([], refl); inside = starts_in c procedures.Pop }
