-- What an instruction reads and writes of registers and flags, as the flow check says it, and nothing else.
use Rattle.std.specs.Prelude.{◌≡◌, ℕ, Bool, true, false, length, Some, IsTrue}
use Rattle.tso_word.specs.declared.Flags.{Flags}
use Rattle.tso_line.specs.declared.instruction.Instruction.{Instruction}
use Rattle.tso_line.specs.declared.instruction.Instruction.TheVariants as the
use Rattle.tso_prog.specs.declared.client.Client.{Client}
use Rattle.tso_flow.specs.Accesses.{reads, writes}
use Rattle.tso_flow.specs.declared.location.Flag.{Flag}
use Rattle.tso_flow.specs.declared.location.Flag.TheVariants.{Zero, Carry, Sign, Overflow}
use Rattle.tso_flow.specs.declared.location.Location.{Location}
use Rattle.tso_flow.specs.declared.location.Location.TheVariants as location
use Rattle.tso_machine.specs.Activations.{Activation}
use Rattle.tso_machine.specs.Control.{GoesOnWith, instruction_at}
use Rattle.tso_machine.specs.Frames.{register_of}
use Rattle.tso_machine.specs.Instructions.{next_action}
use Rattle.tso_machine.specs.declared.frame.Frame.{Frame}
use Rattle.tso_model.specs.Programs.{Action, Silent, Load, Store, Barrier, Locked, Ret, Fail, Cut}

abbrev pub flag_of : Flags → Flag → Bool
flag_of f Zero = f.zf
flag_of f Carry = f.cf
flag_of f Sign = f.sf
flag_of f Overflow = f.of

-- the two frames hold the same in this register or flag
abbrev pub HoldSame : Frame → Frame → Location → Type 0
HoldSame f g (location.Register r) = register_of f r ≡ register_of g r
HoldSame f g (location.Flag x) = flag_of f.flags x ≡ flag_of g.flags x

abbrev pub is_jump : Instruction ℕ ℕ → Bool
is_jump (the.Jump when target bound) = true
is_jump _ = false

-- ---- writes

-- the second call is the first one but for its position, for what the instruction writes, and for a jump's count
pub record LeavesRest (step : Instruction ℕ ℕ) (a b : Activation) : Type 0 where
  pub procedure : b.procedure ≡ a.procedure
  pub rest : (x : Location) → writes step x ≡ false → HoldSame b.frame a.frame x
  pub registers : length b.frame.registers ≡ length a.frame.registers
  pub counts : is_jump step ≡ false → b.frame.taken ≡ a.frame.taken

-- an instruction changes no register and no flag that it does not write
abbrev pub WritesAreAll : Client → Type 0
WritesAreAll c = (a : Activation) (step : Instruction ℕ ℕ) → instruction_at c a ≡ Some step → GoesOnWith (LeavesRest step a) (next_action c a)

-- ---- reads

-- the two calls are at one position, with the same counts, and hold the same in whatever the instruction reads there
pub record AgreeBefore (step : Instruction ℕ ℕ) (a b : Activation) : Type 0 where
  pub procedure : a.procedure ≡ b.procedure
  pub position : a.frame.pc ≡ b.frame.pc
  pub counts : a.frame.taken ≡ b.frame.taken
  pub registers : length a.frame.registers ≡ length b.frame.registers
  pub read : (x : Location) → IsTrue (reads a.procedure step x) → HoldSame a.frame b.frame x

-- the two calls are at one position, with the same counts, and hold the same in whatever the instruction has written
pub record AgreeAfter (step : Instruction ℕ ℕ) (a b : Activation) : Type 0 where
  pub procedure : a.procedure ≡ b.procedure
  pub position : a.frame.pc ≡ b.frame.pc
  pub counts : a.frame.taken ≡ b.frame.taken
  pub written : (x : Location) → IsTrue (writes step x) → HoldSame a.frame b.frame x

-- the two actions are of one kind, with the same place, words, answer or fault, and the calls that go on are so related
abbrev pub AreAlike : (Activation → Activation → Type 0) → Action Activation → Action Activation → Type 0
AreAlike R (Silent a) (Silent b) = R a b
AreAlike R (Load p k) (Load q l) = (p ≡ q) × ((word : ℕ) → R (k word) (l word))
AreAlike R (Store p v a) (Store q w b) = (p ≡ q) × (v ≡ w) × R a b
AreAlike R (Barrier a) (Barrier b) = R a b
AreAlike R (Locked p n k) (Locked q m l) = (p ≡ q) × ((old : ℕ) → n old ≡ m old) × ((old : ℕ) → R (k old) (l old))
AreAlike R (Ret x) (Ret y) = x ≡ y
AreAlike R (Fail x) (Fail y) = x ≡ y
AreAlike R Cut Cut = Unit {0}
AreAlike R _ _ = ⊥

-- what an instruction does depends on no register and no flag that it does not read
abbrev pub ReadsAreAll : Client → Type 0
ReadsAreAll c = (a b : Activation) (step : Instruction ℕ ℕ) → instruction_at c a ≡ Some step → AgreeBefore step a b → AreAlike (AgreeAfter step) (next_action c a) (next_action c b)
