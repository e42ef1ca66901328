-- What instructions do, beside the table that defines them, after the Intel 64 and IA-32 Architectures Software Developer's
-- Manual, volume 2.
use Rattle.std.specs.Prelude.{◌≡◌, ◌≢◌, ℕ, ◌+◌, ◌%◌, ◌^◌, ◌<◌, ◌↔◌, Bool, true, false, length, Option, Some, None, IsTrue}
use Rattle.tso_word.specs.Word.{sum_flags}
use Rattle.tso_line.specs.declared.instruction.Address.{Address}
use Rattle.tso_line.specs.declared.instruction.Comparison.TheVariants.{Cmp, Test}
use Rattle.tso_line.specs.declared.instruction.Instruction.{Instruction}
use Rattle.tso_line.specs.declared.instruction.Instruction.TheVariants as the
use Rattle.tso_line.specs.declared.instruction.LockedOperation.{LockedOperation}
use Rattle.tso_line.specs.declared.instruction.LockedOperation.TheVariants.{Exchange, CompareExchange, ExchangeAdd}
use Rattle.tso_line.specs.declared.instruction.Register.{Register}
use Rattle.tso_line.specs.declared.instruction.Register.TheVariants.{Rax}
use Rattle.tso_line.specs.declared.instruction.Source.{Source}
use Rattle.tso_prog.specs.declared.client.Client.{Client}
use Rattle.tso_machine.specs.Activations.{Activation, activation}
use Rattle.tso_machine.specs.Control.{instruction_at}
use Rattle.tso_machine.specs.Frames.{register_of, value_of}
use Rattle.tso_machine.specs.Instructions.{at_next, next_action}
use Rattle.tso_machine.specs.Places.{operand_place}
use Rattle.tso_machine.specs.declared.frame.Frame.{Frame}
use Rattle.tso_model.specs.Programs.{Action, Silent, Load, Store, Barrier, Locked, Fail, OutOfRange}
use Rattle.tso_client.specs.Comparisons.{Compares, Tests}

-- ---- kinds of actions

-- no memory is touched, and this holds of the call that goes on
abbrev pub Computes : (Activation → Type 0) → Action Activation → Type 0
Computes P (Silent b) = P b
Computes P _ = ⊥

-- this place is read, and this holds of each word that may be there and of the call that goes on by it
abbrev pub Reads : ℕ → (ℕ → Activation → Type 0) → Action Activation → Type 0
Reads place P (Load p k) = (p ≡ place) × ((word : ℕ) → P word (k word))
Reads place P _ = ⊥

-- this word is stored to this place
abbrev pub Stores : ℕ → ℕ → Action Activation → Type 0
Stores place word (Store p v b) = (p ≡ place) × (v ≡ word)
Stores place word _ = ⊥

-- under the lock this place is read and written, and this holds of each word that may be there, of the word that is written
-- for it, and of the call that goes on
abbrev pub Locks : ℕ → (ℕ → ℕ → Activation → Type 0) → Action Activation → Type 0
Locks place P (Locked p new k) = (p ≡ place) × ((old : ℕ) → P old (new old) (k old))
Locks place P _ = ⊥

abbrev pub is_barrier : Action Activation → Bool
is_barrier (Barrier b) = true
is_barrier _ = false

abbrev pub is_locked : Action Activation → Bool
is_locked (Locked p new k) = true
is_locked _ = false

-- each register has its word
abbrev pub HasRegisters : Frame → Type 0
HasRegisters f = length f.registers ≡ 15

-- ---- fences

-- `mfence`, and nothing else, waits for the store buffer
abbrev pub FencesWait : Client → Type 0
FencesWait c = (a : Activation) → IsTrue (is_barrier (next_action c a)) ↔ (instruction_at c a ≡ Some the.Fence)

-- it changes nothing but the position
abbrev pub FencesChangeNothing : Client → Type 0
FencesChangeNothing c = (a : Activation) → instruction_at c a ≡ Some the.Fence → next_action c a ≡ Barrier (activation a.procedure (at_next a.frame))

-- ---- operands in memory

-- the cell that an instruction reads or writes, if it does so
abbrev pub operand_of : Instruction ℕ ℕ → Option (Address ℕ)
operand_of (the.Load to from) = Some from
operand_of (the.Store to from) = Some to
operand_of (the.Locked operation cell register) = Some cell
operand_of _ = None

-- an operand outside its array is a fault
abbrev pub OutsideIsFault : Client → Type 0
OutsideIsFault c =
    (a : Activation) (step : Instruction ℕ ℕ) (cell : Address ℕ) → instruction_at c a ≡ Some step → operand_of step ≡ Some cell → operand_place c.arrays a.frame cell ≡ None
    → next_action c a ≡ Fail OutOfRange

-- a load puts the word of its operand's place into its register
abbrev pub LoadsRead : Client → Type 0
LoadsRead c =
    (a : Activation) (to : Register) (cell : Address ℕ) (place : ℕ) → instruction_at c a ≡ Some (the.Load to cell) → operand_place c.arrays a.frame cell ≡ Some place → HasRegisters a.frame
    → Reads place (λ word b. register_of b.frame to ≡ word) (next_action c a)

-- a store puts the word of its register, or its immediate, to its operand's place
abbrev pub StoresWrite : Client → Type 0
StoresWrite c =
    (a : Activation) (cell : Address ℕ) (from : Source) (place : ℕ) → instruction_at c a ≡ Some (the.Store cell from) → operand_place c.arrays a.frame cell ≡ Some place
    → Stores place (value_of a.frame from) (next_action c a)

-- ---- comparisons

-- after `cmp x, y` the ten conditions are the ten comparisons of x with y
abbrev pub CmpCompares : Client → Type 0
CmpCompares c =
    (a : Activation) (left : Register) (right : Source) → instruction_at c a ≡ Some (the.Compare Cmp left right) → register_of a.frame left < 2 ^ 64 → value_of a.frame right < 2 ^ 64
    → Computes (λ b. Compares (register_of a.frame left) (value_of a.frame right) b.frame.flags) (next_action c a)

-- after `test x, y` the conditions e and ne tell whether x and y have no bit in common
abbrev pub TestTests : Client → Type 0
TestTests c =
    (a : Activation) (left : Register) (right : Source) → instruction_at c a ≡ Some (the.Compare Test left right)
    → Computes (λ b. Tests (register_of a.frame left) (value_of a.frame right) b.frame.flags) (next_action c a)

-- ---- locked instructions

-- the next instruction is a locked one, and its operand is inside its array
pub record IsLockedInside (c : Client) (a : Activation) : Type 0 where
  pub operation : LockedOperation
  pub cell : Address ℕ
  pub register : Register
  pub place : ℕ
  pub there : instruction_at c a ≡ Some (the.Locked operation cell register)
  pub inside : operand_place c.arrays a.frame cell ≡ Some place

-- `xchg`, `lock cmpxchg` and `lock xadd`, and nothing else, take the lock
abbrev pub LockedLock : Client → Type 0
LockedLock c = (a : Activation) → IsTrue (is_locked (next_action c a)) ↔ IsLockedInside c a

-- `xchg`: the register's word goes to memory, and memory's into the register; no flag changes
pub record Exchanges (r : Register) (f : Frame) (old new : ℕ) (g : Frame) : Type 0 where
  pub memory : new ≡ register_of f r
  pub register : register_of g r ≡ old
  pub flags : g.flags ≡ f.flags

-- `lock xadd`: the sum goes to memory, and memory's old word into the register
pub record ExchangesSum (r : Register) (f : Frame) (old new : ℕ) (g : Frame) : Type 0 where
  pub memory : new ≡ (old + register_of f r) % 2 ^ 64
  pub register : register_of g r ≡ old
  pub flags : g.flags ≡ sum_flags old (register_of f r)

-- `lock cmpxchg`: where RAX is memory's word, the register's word goes to memory, and all registers stay; else memory's word is
-- written back, and RAX becomes it. The flags are those of `cmp` of RAX with memory's word.
pub record ExchangesEqual (r : Register) (f : Frame) (old new : ℕ) (g : Frame) : Type 0 where
  pub equal_memory : register_of f Rax ≡ old → new ≡ register_of f r
  pub equal_registers : register_of f Rax ≡ old → g.registers ≡ f.registers
  pub other_memory : register_of f Rax ≢ old → new ≡ old
  pub other_register : register_of f Rax ≢ old → register_of g Rax ≡ old
  pub flags : register_of f Rax < 2 ^ 64 → old < 2 ^ 64 → Compares (register_of f Rax) old g.flags

-- what a locked instruction does
abbrev pub Does : LockedOperation → Register → Frame → ℕ → ℕ → Frame → Type 0
Does Exchange r f old new g = Exchanges r f old new g
Does CompareExchange r f old new g = ExchangesEqual r f old new g
Does ExchangeAdd r f old new g = ExchangesSum r f old new g

abbrev pub LockedDo : Client → Type 0
LockedDo c =
    (a : Activation) (operation : LockedOperation) (cell : Address ℕ) (r : Register) (place : ℕ) → instruction_at c a ≡ Some (the.Locked operation cell r)
    → operand_place c.arrays a.frame cell ≡ Some place → HasRegisters a.frame → Locks place (λ old new b. Does operation r a.frame old new b.frame) (next_action c a)
