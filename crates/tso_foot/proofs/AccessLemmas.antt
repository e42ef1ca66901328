-- Each instruction's accesses are in the arrays that it names.
use Rattle.std.proofs.Common.{◌≡◌, ℕ, Bool, true, false, List, Option, None, Some, refl, sym, ap, subst, ◌^◌, if◌then◌else◌, slice_get, take, nat_le, nat_lt, ◌==◌}
use Rattle.std.specs.Prelude.{unwrap_or}
use Rattle.tso_flow.specs.declared.location.ProcedureKind.{ProcedureKind}
use Rattle.tso_foot.proofs.MaskLemmas.{array_of-place, own_array}
use Rattle.tso_foot.specs.Masks.{has_place, own_masks}
use Rattle.tso_foot.specs.declared.masks.Masks.{Masks}
use Rattle.tso_line.specs.declared.instruction.Address.{Address}
use Rattle.tso_line.specs.declared.instruction.Instruction.{Instruction}
use Rattle.tso_line.specs.declared.instruction.Instruction.TheVariants as the
use Rattle.tso_machine.specs.Activations.{Activation}
use Rattle.tso_machine.specs.Control.{instruction_at}
use Rattle.tso_machine.specs.Frames.{register_of}
use Rattle.tso_machine.specs.Instructions.{action_at, at_place, back_jumps, counted_jump, instruction_action, instructions_of, is_taken, jump, next_action, returned}
use Rattle.tso_line.specs.declared.instruction.Register.TheVariants.{Rax}
use Rattle.tso_machine.specs.Places.{index_of, operand_place}
use Rattle.tso_machine.specs.declared.frame.Frame.{Frame}
use Rattle.tso_model.specs.Programs.{Action, Barrier, Cut, Fail, Load, Locked, Ret, Silent, Store}
use Rattle.tso_prog.specs.declared.client.Array.{Array}
use Rattle.tso_prog.specs.declared.client.Client.{Client}
use Rattle.tso_word.specs.Word.{holds}

-- the masks have the array that an action accesses
abbrev pub HasAccess : List Array → Masks → Action Activation → Type 0
HasAccess arrays m (Silent g) = Unit {0}
HasAccess arrays m (Load p k) = has_place arrays m.reads p ≡ true
HasAccess arrays m (Store p v g) = has_place arrays m.writes p ≡ true
HasAccess arrays m (Barrier g) = Unit {0}
HasAccess arrays m (Locked p n k) = (has_place arrays m.reads p ≡ true) × (has_place arrays m.writes p ≡ true)
HasAccess arrays m (Ret a) = Unit {0}
HasAccess arrays m (Fail n) = Unit {0}
HasAccess arrays m Cut = Unit {0}

either : (arrays : List Array) (m : Masks) (b : Bool) (x y : Action Activation) → HasAccess arrays m x → HasAccess arrays m y → HasAccess arrays m (if b then x else y)
either arrays m true x y p q = p
either arrays m false x y p q = q

counted : (arrays : List Array) (m : Masks) (name : ProcedureKind) (f : Frame) (target bound number : ℕ) (o : Option ℕ) → HasAccess arrays m (counted_jump name f target bound number o)
counted arrays m name f target bound number None = tt
counted arrays m name f target bound number (Some count) = either arrays m (nat_lt count bound) _ _ tt tt

jumped : (arrays : List Array) (m : Masks) (name : ProcedureKind) (f : Frame) (number target : ℕ) (bound : Option ℕ) → HasAccess arrays m (jump name f number target bound)
jumped arrays m name f number target bound = either arrays m (nat_le target f.pc) _ _ (counted arrays m name f target (unwrap_or bound 0) number (slice_get f.taken number)) tt

returns : (arrays : List Array) (m : Masks) (name : ProcedureKind) (f : Frame) → HasAccess arrays m (returned name f)
returns arrays m name f = either arrays m (register_of f Rax == 0) _ _ tt (either arrays m (register_of f Rax == 1) _ _ tt tt)

accessed : (c : Client) (f : Frame) (a : Address ℕ) (m : Masks) (o : Option ℕ) (x : ℕ → Action Activation) → operand_place c.arrays f a ≡ o
    → ((p : ℕ) → operand_place c.arrays f a ≡ Some p → HasAccess c.arrays m (x p)) → HasAccess c.arrays m (at_place o x)
accessed c f a m None x e h = tt
accessed c f a m (Some p) x e h = h p e

-- the place is in the operand's array
own : (c : Client) (f : Frame) (a : Address ℕ) (p : ℕ) → operand_place c.arrays f a ≡ Some p → has_place c.arrays (2 ^ a.array) p ≡ true
own c f a p e = own_array c.arrays p a.array (array_of-place c.arrays a.array p (index_of f a) e)

has_own : (c : Client) (name : ProcedureKind) (f : Frame) (step : Instruction ℕ ℕ) → HasAccess c.arrays (own_masks step) (instruction_action c name f step)
has_own c name f (the.Move to from) = tt
has_own c name f (the.Load to from) = accessed c f from (own_masks (the.Load to from)) (operand_place c.arrays f from) _ refl (λ p e. own c f from p e)
has_own c name f (the.Store to from) = accessed c f to (own_masks (the.Store to from)) (operand_place c.arrays f to) _ refl (λ p e. own c f to p e)
has_own c name f (the.Compute operation to from) = tt
has_own c name f (the.Compare comparison left right) = tt
has_own c name f (the.Increment r) = tt
has_own c name f (the.Decrement r) = tt
has_own c name f (the.Jump when target bound) =
    either c.arrays (own_masks (the.Jump when target bound)) (is_taken when f.flags) _ _
    (jumped c.arrays (own_masks (the.Jump when target bound)) name f (back_jumps 0 (take f.pc (instructions_of c name))) target bound) tt
has_own c name f (the.Assert condition) = either c.arrays (own_masks (the.Assert condition)) (holds condition f.flags) _ _ tt tt
has_own c name f (the.Locked operation cell r) =
    accessed c f cell (own_masks (the.Locked operation cell r)) (operand_place c.arrays f cell) _ refl (λ p e. (own c f cell p e, own c f cell p e))
has_own c name f the.Fence = tt
has_own c name f the.Nop = tt
has_own c name f the.Pause = tt
has_own c name f the.Return = returns c.arrays (own_masks the.Return) name f

-- what the next instruction accesses is among its own arrays
pub next_has_own : (c : Client) (a : Activation) (step : Instruction ℕ ℕ) → instruction_at c a ≡ Some step → HasAccess c.arrays (own_masks step) (next_action c a)
unfolding next_action
next_has_own c a step e =
    let Q : Option (Instruction ℕ ℕ) → Type 0 = λ o. HasAccess c.arrays (own_masks step) (action_at c a.procedure a.frame o) in
    subst Q (sym e) (has_own c a.procedure a.frame step)

-- and where none stands, nothing follows
pub none_next : (c : Client) (a : Activation) → instruction_at c a ≡ None → next_action c a ≡ Cut
unfolding next_action
none_next c a e = ap (λ o. action_at c a.procedure a.frame o) e
