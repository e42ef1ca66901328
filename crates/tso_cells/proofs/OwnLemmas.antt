-- What an instruction accesses is among its own cells.
use Rattle.std.proofs.Common.{◌≡◌, ℕ, Bool, true, false, List, [], Option, None, Some, refl, sym, ap, subst, if◌then◌else◌, slice_get, take, nat_le, nat_lt, ◌==◌}
use Rattle.std.specs.Prelude.{unwrap_or}
use Rattle.std.proofs.lemmas.Bool.{and_parts}
use Rattle.tso_cells.proofs.CellLemmas.{operand_has}
use Rattle.tso_cells.specs.Cells.{has_cell, own_reads, own_writes}
use Rattle.tso_cells.specs.declared.table.Cells.{Cells}
use Rattle.tso_flow.specs.declared.location.ProcedureKind.{ProcedureKind}
use Rattle.tso_cells.proofs.Lying.{in_range}
use Rattle.tso_cells.specs.Intervals.{lie_in}
use Rattle.tso_cells.specs.declared.interval.Interval.{Interval}
use Rattle.tso_line.specs.Proper.{is_in_range, is_narrow_source, is_near}
use Rattle.tso_line.specs.declared.instruction.Instruction.{Instruction}
use Rattle.tso_line.specs.declared.instruction.Instruction.TheVariants as the
use Rattle.tso_machine.specs.Activations.{Activation}
use Rattle.tso_machine.specs.Control.{instruction_at}
use Rattle.tso_machine.specs.Frames.{register_of}
use Rattle.tso_machine.specs.Instructions.{action_at, at_place, back_jumps, counted_jump, instruction_action, instructions_of, is_taken, jump, next_action, returned}
use Rattle.tso_machine.specs.Places.{operand_place}
use Rattle.tso_machine.specs.declared.frame.Frame.{Frame}
use Rattle.tso_line.specs.declared.instruction.Register.TheVariants.{Rax}
use Rattle.tso_model.specs.Programs.{Action, Barrier, Cut, Fail, Load, Locked, Ret, Silent, Store}
use Rattle.tso_prog.specs.declared.client.Array.{Array}
use Rattle.tso_prog.specs.declared.client.Client.{Client}
use Rattle.tso_word.specs.Word.{holds}

-- the cells that an action reads are among the first, and those that it writes among the others
abbrev pub HasAccess : List Array → List Cells → List Cells → Action Activation → Type 0
HasAccess arrays rs ws (Silent g) = Unit {0}
HasAccess arrays rs ws (Load p k) = has_cell arrays rs p ≡ true
HasAccess arrays rs ws (Store p v g) = has_cell arrays ws p ≡ true
HasAccess arrays rs ws (Barrier g) = Unit {0}
HasAccess arrays rs ws (Locked p n k) = (has_cell arrays rs p ≡ true) × (has_cell arrays ws p ≡ true)
HasAccess arrays rs ws (Ret a) = Unit {0}
HasAccess arrays rs ws (Fail n) = Unit {0}
HasAccess arrays rs ws Cut = Unit {0}

either : (arrays : List Array) (rs ws : List Cells) (b : Bool) (x y : Action Activation) → HasAccess arrays rs ws x → HasAccess arrays rs ws y → HasAccess arrays rs ws (if b then x else y)
either arrays rs ws true x y p q = p
either arrays rs ws false x y p q = q

counted : (arrays : List Array) (rs ws : List Cells) (name : ProcedureKind) (f : Frame) (target bound number : ℕ) (o : Option ℕ) → HasAccess arrays rs ws (counted_jump name f target bound number o)
counted arrays rs ws name f target bound number None = tt
counted arrays rs ws name f target bound number (Some count) = either arrays rs ws (nat_lt count bound) _ _ tt tt

jumped : (arrays : List Array) (rs ws : List Cells) (name : ProcedureKind) (f : Frame) (number target : ℕ) (bound : Option ℕ) → HasAccess arrays rs ws (jump name f number target bound)
jumped arrays rs ws name f number target bound = either arrays rs ws (nat_le target f.pc) _ _ (counted arrays rs ws name f target (unwrap_or bound 0) number (slice_get f.taken number)) tt

returns : (arrays : List Array) (rs ws : List Cells) (name : ProcedureKind) (f : Frame) → HasAccess arrays rs ws (returned name f)
returns arrays rs ws name f = either arrays rs ws (register_of f Rax == 0) _ _ tt (either arrays rs ws (register_of f Rax == 1) _ _ tt tt)

accessed : (arrays : List Array) (rs ws : List Cells) (o : Option ℕ) (x : ℕ → Action Activation) → ((p : ℕ) → o ≡ Some p → HasAccess arrays rs ws (x p)) → HasAccess arrays rs ws (at_place o x)
accessed arrays rs ws None x h = tt
accessed arrays rs ws (Some p) x h = h p refl

has_own : (c : Client) (name : ProcedureKind) (f : Frame) (xs : List Interval) (step : Instruction ℕ ℕ) → is_in_range step ≡ true → lie_in xs f.registers ≡ true
    → HasAccess c.arrays (own_reads c.arrays xs step) (own_writes c.arrays xs step) (instruction_action c name f step)
has_own c name f xs (the.Move to from) ok h = tt
has_own c name f xs (the.Load to from) ok h =
    accessed c.arrays (own_reads c.arrays xs (the.Load to from)) (own_writes c.arrays xs (the.Load to from)) (operand_place c.arrays f from) _ (λ p e. operand_has c.arrays xs f from p c.few_words ok h e)
has_own c name f xs (the.Store to from) ok h =
    let near = (and_parts (is_near to.offset) (is_narrow_source from) ok).0 in
    accessed c.arrays (own_reads c.arrays xs (the.Store to from)) (own_writes c.arrays xs (the.Store to from)) (operand_place c.arrays f to) _ (λ p e. operand_has c.arrays xs f to p c.few_words near h e)
has_own c name f xs (the.Compute operation to from) ok h = tt
has_own c name f xs (the.Compare comparison left right) ok h = tt
has_own c name f xs (the.Increment r) ok h = tt
has_own c name f xs (the.Decrement r) ok h = tt
has_own c name f xs (the.Jump when target bound) ok h =
    either c.arrays [] [] (is_taken when f.flags) _ _ (jumped c.arrays [] [] name f (back_jumps 0 (take f.pc (instructions_of c name))) target bound) tt
has_own c name f xs (the.Assert condition) ok h = either c.arrays [] [] (holds condition f.flags) _ _ tt tt
has_own c name f xs (the.Locked operation cell r) ok h =
    accessed c.arrays (own_reads c.arrays xs (the.Locked operation cell r)) (own_writes c.arrays xs (the.Locked operation cell r)) (operand_place c.arrays f cell) _
    (λ p e. (operand_has c.arrays xs f cell p c.few_words ok h e, operand_has c.arrays xs f cell p c.few_words ok h e))
has_own c name f xs the.Fence ok h = tt
has_own c name f xs the.Nop ok h = tt
has_own c name f xs the.Pause ok h = tt
has_own c name f xs the.Return ok h = returns c.arrays [] [] name f

-- what the next instruction accesses is among its own cells
pub next_has_own : (c : Client) (a : Activation) (xs : List Interval) (step : Instruction ℕ ℕ) → instruction_at c a ≡ Some step → lie_in xs a.frame.registers ≡ true
    → HasAccess c.arrays (own_reads c.arrays xs step) (own_writes c.arrays xs step) (next_action c a)
unfolding next_action
next_has_own c a xs step e h =
    let Q : Option (Instruction ℕ ℕ) → Type 0 = λ o. HasAccess c.arrays (own_reads c.arrays xs step) (own_writes c.arrays xs step) (action_at c a.procedure a.frame o) in
    subst Q (sym e) (has_own c a.procedure a.frame xs step (in_range c a.procedure a.frame.pc step e) h)

-- and where none stands, nothing follows
pub none_next : (c : Client) (a : Activation) → instruction_at c a ≡ None → next_action c a ≡ Cut
unfolding next_action
none_next c a e = ap (λ o. action_at c a.procedure a.frame o) e
