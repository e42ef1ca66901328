-- The places of a run's labels are those of memory.
use Rattle.std.proofs.Common.{◌≡◌, ℕ, ◌<◌, ◌+◌, true, nat_le, nat_lt, ◌==◌, if◌then◌else◌, List, [], ◌∷◌, ◌++◌, length, map, take, slice_get, slice_set, Option, Some, None, subst, refl}
use Rattle.std.specs.Prelude.{unwrap_or}
use Rattle.std.specs.List.{list_all}
use Rattle.std.proofs.lemmas.Bool.{and_from, and_parts, both_ways, cond_both, lt-ltb, true_from_ne_false}
use Rattle.std.proofs.lemmas.List.Concat.{length-flat_map}
use Rattle.std.proofs.Math.Logic.{∥∥₁_elim}
use Rattle.tso_line.specs.declared.instruction.Address.{Address}
use Rattle.tso_line.specs.declared.instruction.Instruction.{Instruction}
use Rattle.tso_line.specs.declared.instruction.Instruction.TheVariants as the
use Rattle.tso_line.specs.declared.instruction.Register.TheVariants.{Rax}
use Rattle.tso_prog.specs.declared.client.Array.{Array}
use Rattle.tso_prog.specs.declared.client.Client.{Client}
use Rattle.tso_flow.specs.declared.location.ProcedureKind.{ProcedureKind}
use Rattle.tso_machine.proofs.PlaceBounds.{place_below}
use Rattle.tso_machine.proofs.RunLaws.{buffers_stay_within}
use Rattle.tso_machine.specs.Activations.{Activation, activation}
use Rattle.tso_machine.specs.Frames.{register_of}
use Rattle.tso_machine.specs.Instructions.{action_at, at_next, at_place, back_jumps, counted_jump, done_answer, instruction_action, instructions_of, is_taken, jump, next_action, returned}
use Rattle.tso_machine.specs.Machines.{kind_view, label_of}
use Rattle.tso_machine.specs.Places.{first_memory, index_of, operand_place}
use Rattle.tso_machine.specs.Programs.{program_of}
use Rattle.tso_machine.specs.declared.frame.Frame.{Frame}
use Rattle.tso_machine.specs.declared.label.Label.{Label}
use Rattle.tso_machine.specs.declared.label.LabelKind.{LabelKind}
use Rattle.tso_machine.specs.declared.label.LabelKind.TheVariants as kinds
use Rattle.tso_model.proofs.Labelled.{run_append}
use Rattle.tso_model.specs.Labels as model
use Rattle.tso_model.specs.Labels.{By, Kind, Machine, Rule, Run, Thread, call, drain, fault, fence, first_machine, lock, read, read_locked, reg, return, unlock, write, write_locked}
use Rattle.tso_model.specs.Programs.{Action, Silent, Load, Store, Locked, Ret, Fail, Cut, Refused, BadAnswer, FalseAssertion}
use Rattle.tso_model.specs.WellFormed.{Within}
use Rattle.tso_trace.specs.Grammar.{is_proper, is_proper_kind}
use Rattle.tso_trace.specs.Parts.{has_words, is_inside, kind_has_words}
use Rattle.tso_trace.specs.Runs.{IsErrorTrace}

-- ---- actions

-- the place that the action reads or writes is below this
abbrev IsBelow : ℕ → Action Activation → Type 0
IsBelow size (Load p k) = p < size
IsBelow size (Store p v a) = p < size
IsBelow size (Locked p n k) = p < size
IsBelow size _ = Unit {0}

at_place_below : (c : Client) (f : Frame) (a : Address ℕ) (o : Option ℕ) (access : ℕ → Action Activation) → operand_place c.arrays f a ≡ o
    → ((p : ℕ) → p < length (first_memory c.arrays) → IsBelow (length (first_memory c.arrays)) (access p)) → IsBelow (length (first_memory c.arrays)) (at_place o access)
at_place_below c f a None access e h = tt
at_place_below c f a (Some p) access e h = h p (place_below c.arrays a.array p (index_of f a) e)

counted_below : (size : ℕ) (name : ProcedureKind) (f : Frame) (target bound number : ℕ) (o : Option ℕ) → IsBelow size (counted_jump name f target bound number o)
counted_below size name f target bound number None = tt
counted_below size name f target bound number (Some count) =
    cond_both (nat_lt count bound) (Silent (activation name (record f { pc = target; taken = slice_set f.taken number (count + 1) }))) Cut (IsBelow size) (λ e. tt) (λ e. tt)

jump_below : (size : ℕ) (name : ProcedureKind) (f : Frame) (number target : ℕ) (bound : Option ℕ) → IsBelow size (jump name f number target bound)
jump_below size name f number target bound =
    cond_both (nat_le target f.pc) (counted_jump name f target (unwrap_or bound 0) number (slice_get f.taken number)) (Silent (activation name (record f { pc = target }))) (IsBelow size)
    (λ e. counted_below size name f target (unwrap_or bound 0) number (slice_get f.taken number)) (λ e. tt)

returned_below : (size : ℕ) (name : ProcedureKind) (f : Frame) → IsBelow size (returned name f)
returned_below size name f =
    let done : Action Activation = Ret (done_answer name f) in
    cond_both (register_of f Rax == 0) (Ret Refused) (if register_of f Rax == 1 then done else Fail BadAnswer) (IsBelow size) (λ e. tt)
    (λ e. cond_both (register_of f Rax == 1) done (Fail BadAnswer) (IsBelow size) (λ e'. tt) (λ e'. tt))

instruction_below : (c : Client) (name : ProcedureKind) (f : Frame) (i : Instruction ℕ ℕ) → IsBelow (length (first_memory c.arrays)) (instruction_action c name f i)
instruction_below c name f (the.Load to from) = at_place_below c f from (operand_place c.arrays f from) _ refl (λ p below. below)
instruction_below c name f (the.Store to from) = at_place_below c f to (operand_place c.arrays f to) _ refl (λ p below. below)
instruction_below c name f (the.Locked operation cell r) = at_place_below c f cell (operand_place c.arrays f cell) _ refl (λ p below. below)
instruction_below c name f (the.Jump when target bound) =
    let number = back_jumps 0 (take f.pc (instructions_of c name)) in
    let next : Action Activation = Silent (activation name (at_next f)) in
    cond_both (is_taken when f.flags) (jump name f number target bound) next (IsBelow (length (first_memory c.arrays))) (λ e. jump_below (length (first_memory c.arrays)) name f number target bound) (λ e. tt)
instruction_below c name f (the.Assert condition) =
    cond_both (is_taken (Some condition) f.flags) (Silent (activation name (at_next f))) (Fail FalseAssertion) (IsBelow (length (first_memory c.arrays))) (λ e. tt) (λ e. tt)
instruction_below c name f the.Return = returned_below (length (first_memory c.arrays)) name f
instruction_below c name f _ = tt

at_below : (c : Client) (name : ProcedureKind) (f : Frame) (o : Option (Instruction ℕ ℕ)) → IsBelow (length (first_memory c.arrays)) (action_at c name f o)
at_below c name f None = tt
at_below c name f (Some i) = instruction_below c name f i

action_below : (c : Client) (a : Activation) (action : Action Activation) → next_action c a ≡ action → IsBelow (length (first_memory c.arrays)) action
unfolding next_action
action_below c a action e =
    let Q : Action Activation → Type 0 = λ x. IsBelow (length (first_memory c.arrays)) x in
    subst Q e (at_below c a.procedure a.frame (slice_get (instructions_of c a.procedure) a.frame.pc))

-- ---- labels

-- the place that the label reads or writes is below this
abbrev KindBelow : ℕ → Kind → Type 0
KindBelow size (model.Read p v) = p < size
KindBelow size (model.Write p v) = p < size
KindBelow size (model.Drain p v) = p < size
KindBelow size _ = Unit {0}

rule_below : (c : Client) (m : Machine Activation) (i : ℕ) (t : Thread Activation) → Within (length (first_memory c.arrays)) t.buffer → {k : Kind} {m' : Machine Activation} → Rule (program_of c) m i t k m' → KindBelow (length (first_memory c.arrays)) k
rule_below c m i t w (call k idle found) = tt
rule_below c m i t w (reg f g running next) = tt
rule_below c m i t w (read f p k running next free) = action_below c f _ next
rule_below c m i t w (write f p v g running next) = action_below c f _ next
rule_below c m i t w (drain p v rest entry free) = (subst (Within (length (first_memory c.arrays))) entry w).0
rule_below c m i t w (fence f g running next empty) = tt
rule_below c m i t w (lock f p n k running next free empty) = tt
rule_below c m i t w (read_locked f p n k running next free) = action_below c f _ next
rule_below c m i t w (write_locked f p n k old running next) = action_below c f _ next
rule_below c m i t w (unlock f p n k old running next held empty) = tt
rule_below c m i t w (return f a running next) = tt
rule_below c m i t w (fault f n running next) = tt

inside_from : (c : Client) (k : LabelKind) → KindBelow (length (first_memory c.arrays)) (kind_view k) → is_inside c.arrays k ≡ true
inside_from c (kinds.Read place word) below = lt-ltb _ _ (rw (← length-flat_map (λ (a : Array). a.words) c.arrays) below)
inside_from c (kinds.Write place word) below = lt-ltb _ _ (rw (← length-flat_map (λ (a : Array). a.words) c.arrays) below)
inside_from c (kinds.Drain place word) below = lt-ltb _ _ (rw (← length-flat_map (λ (a : Array). a.words) c.arrays) below)
inside_from c _ below = refl

run_inside : (c : Client) (before : List model.Label) (m end : Machine Activation) (labels : List Label) → Run (program_of c) (first_machine (program_of c) (first_memory c.arrays)) before m
    → Run (program_of c) m (map label_of labels) end → list_all (λ (l : Label). is_inside c.arrays l.kind) labels ≡ true
run_inside c before m end [] led run = refl
run_inside c before m end (l ∷ labels) led run =
    let within = buffers_stay_within c before m led l.thread run.1.0 run.1.1 in
    let one : Run (program_of c) m (label_of l ∷ []) run.0 = (run.0, run.1, refl) in
    and_from _ _ (inside_from c l.kind (rule_below c m l.thread run.1.0 within run.1.2))
    (run_inside c (before ++ label_of l ∷ []) run.0 end labels (run_append (program_of c) _ m run.0 before (label_of l ∷ []) led one) run.2)

-- each label of an error trace has its place in memory
pub trace_inside : (c : Client) (labels : List Label) → IsErrorTrace c labels → list_all (λ (l : Label). is_inside c.arrays l.kind) labels ≡ true
trace_inside c labels erring = run_inside c [] _ erring.run.machine labels refl erring.run.leads.run

-- ---- labels that a line can spell

proper_kind : (arrays : List Array) (k : LabelKind) → kind_has_words k ≡ true → is_inside arrays k ≡ true → is_proper_kind arrays k ≡ true
proper_kind arrays (kinds.Call k) words inside = words
proper_kind arrays (kinds.Read place word) words inside = and_from _ _ inside words
proper_kind arrays (kinds.Write place word) words inside = and_from _ _ inside words
proper_kind arrays (kinds.Drain place word) words inside = and_from _ _ inside words
proper_kind arrays (kinds.Return a) words inside = words
proper_kind arrays _ words inside = refl

pub proper_label : (arrays : List Array) (l : Label) → has_words l ≡ true → is_inside arrays l.kind ≡ true → is_proper arrays l ≡ true
proper_label arrays l words inside = let parts = and_parts _ _ words in and_from _ _ parts.0 (proper_kind arrays l.kind parts.1 inside)

pub proper_labels : (arrays : List Array) (labels : List Label) → list_all has_words labels ≡ true → list_all (λ (l : Label). is_inside arrays l.kind) labels ≡ true → list_all (is_proper arrays) labels ≡ true
proper_labels arrays [] words inside = refl
proper_labels arrays (l ∷ labels) words inside =
    let w = and_parts _ _ words in
    let p = and_parts _ _ inside in
    and_from _ _ (proper_label arrays l w.0 p.0) (proper_labels arrays labels w.1 p.1)

-- a line can spell each label of an error trace
pub proper_trace : (c : Client) (labels : List Label) → ∥ IsErrorTrace c labels ∥₁ → list_all has_words labels ≡ true → list_all (is_proper c.arrays) labels ≡ true
proper_trace c labels erring words =
    true_from_ne_false _ (λ none. ∥∥₁_elim erring (λ x y. absurd x) (λ e. both_ways _ none (proper_labels c.arrays labels words (trace_inside c labels e))))
