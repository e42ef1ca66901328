-- Which registers and flags an instruction reads and writes.
use Rattle.std.specs.Prelude.{ℕ, Bool, true, false, not, ◌||◌, ◌==◌, Option, Some, None}
use Rattle.tso_word.specs.declared.Condition.{Condition}
use Rattle.tso_word.specs.declared.Condition.TheVariants.{E, Ne, B, Ae, Be, A, L, Ge, Le, G}
use Rattle.tso_line.specs.declared.instruction.Register.{Register}
use Rattle.tso_line.specs.declared.instruction.Register.TheVariants.{Rax, Rbx, Rcx, Rdx, Rsi, Rdi, Rbp, R8, R9, R10, R11, R12, R13, R14, R15}
use Rattle.tso_line.specs.declared.instruction.Address.{Address}
use Rattle.tso_line.specs.declared.instruction.Source.{Source}
use Rattle.tso_line.specs.declared.instruction.Source.TheVariants as source
use Rattle.tso_line.specs.declared.instruction.LockedOperation.{LockedOperation}
use Rattle.tso_line.specs.declared.instruction.LockedOperation.TheVariants.{Exchange, CompareExchange}
use Rattle.tso_line.specs.declared.instruction.Instruction.{Instruction}
use Rattle.tso_line.specs.declared.instruction.Instruction.TheVariants.{Move, Load, Store, Compute, Compare, Increment, Decrement, Jump, Assert, Locked, Return}
use Rattle.tso_flow.specs.declared.location.Flag.{Flag}
use Rattle.tso_flow.specs.declared.location.Flag.TheVariants.{Zero, Carry, Sign, Overflow}
use Rattle.tso_flow.specs.declared.location.Location.{Location}
use Rattle.tso_flow.specs.declared.location.Location.TheVariants as location
use Rattle.tso_flow.specs.declared.location.ProcedureKind.{ProcedureKind}
use Rattle.tso_flow.specs.declared.location.ProcedureKind.TheVariants.{Push, Pop}

-- ---- registers

-- the position of a register in the order of registers
abbrev pub register_number : Register → ℕ
register_number Rax = 0
register_number Rbx = 1
register_number Rcx = 2
register_number Rdx = 3
register_number Rsi = 4
register_number Rdi = 5
register_number Rbp = 6
register_number R8 = 7
register_number R9 = 8
register_number R10 = 9
register_number R11 = 10
register_number R12 = 11
register_number R13 = 12
register_number R14 = 13
register_number R15 = 14

-- the two are one register
unfoldable pub is_same : Register → Register → Bool
is_same a b = register_number a == register_number b

-- the operand is this register
abbrev pub is_source : Source → Register → Bool
is_source (source.Register a) b = is_same a b
is_source (source.Word w) b = false

-- there is a register, and it is this one
abbrev pub is_some_register : Option Register → Register → Bool
is_some_register None b = false
is_some_register (Some a) b = is_same a b

-- the cell's index is in this register
abbrev pub is_index : Address ℕ → Register → Bool
is_index address b = is_some_register address.index b

-- a compare and exchange compares the cell with RAX
abbrev pub is_compared : LockedOperation → Register → Bool
is_compared CompareExchange b = is_same Rax b
is_compared _ b = false

-- the answer, and the value that pop answers with
abbrev pub is_answer : ProcedureKind → Register → Bool
is_answer Push b = is_same Rax b
is_answer Pop b = is_same Rax b || is_same Rdx b

-- An instruction reads the registers of its sources and of its index, its destination unless it is a move, and a compare and exchange RAX.
abbrev pub reads_register : ProcedureKind → Instruction ℕ ℕ → Register → Bool
reads_register kind (Move to from) b = is_source from b
reads_register kind (Load to from) b = is_index from b
reads_register kind (Store to from) b = is_index to b || is_source from b
reads_register kind (Compute operation to from) b = is_same to b || is_source from b
reads_register kind (Compare comparison left right) b = is_same left b || is_source right b
reads_register kind (Increment register) b = is_same register b
reads_register kind (Decrement register) b = is_same register b
reads_register kind (Locked operation cell register) b = is_index cell b || is_same register b || is_compared operation b
reads_register kind Return b = is_answer kind b
reads_register kind _ b = false

-- a compare and exchange leaves the cell's old word in RAX, the other locked instructions in their register
abbrev pub locked_writes : LockedOperation → Register → Register → Bool
locked_writes CompareExchange register b = is_same Rax b
locked_writes _ register b = is_same register b

-- a move, a load, arithmetic and logic write their destination
abbrev pub writes_register : Instruction ℕ ℕ → Register → Bool
writes_register (Move to from) b = is_same to b
writes_register (Load to from) b = is_same to b
writes_register (Compute operation to from) b = is_same to b
writes_register (Increment register) b = is_same register b
writes_register (Decrement register) b = is_same register b
writes_register (Locked operation cell register) b = locked_writes operation register b
writes_register _ b = false

-- ---- flags

-- ZF
abbrev pub is_zero_flag : Flag → Bool
is_zero_flag Zero = true
is_zero_flag _ = false

-- CF
abbrev pub is_carry_flag : Flag → Bool
is_carry_flag Carry = true
is_carry_flag _ = false

-- SF
abbrev pub is_sign_flag : Flag → Bool
is_sign_flag Sign = true
is_sign_flag _ = false

-- OF
abbrev pub is_overflow_flag : Flag → Bool
is_overflow_flag Overflow = true
is_overflow_flag _ = false

-- the flags that tell whether the condition holds
abbrev pub condition_reads : Condition → Flag → Bool
condition_reads E f = is_zero_flag f
condition_reads Ne f = is_zero_flag f
condition_reads B f = is_carry_flag f
condition_reads Ae f = is_carry_flag f
condition_reads Be f = is_carry_flag f || is_zero_flag f
condition_reads A f = is_carry_flag f || is_zero_flag f
condition_reads L f = is_sign_flag f || is_overflow_flag f
condition_reads Ge f = is_sign_flag f || is_overflow_flag f
condition_reads Le f = is_zero_flag f || is_sign_flag f || is_overflow_flag f
condition_reads G f = is_zero_flag f || is_sign_flag f || is_overflow_flag f

-- a conditional jump and an assertion read the flags of their condition
abbrev pub reads_flag : Instruction ℕ ℕ → Flag → Bool
reads_flag (Jump (Some condition) target bound) f = condition_reads condition f
reads_flag (Assert condition) f = condition_reads condition f
reads_flag _ f = false

-- an exchange leaves the flags as they were
abbrev pub locked_writes_flags : LockedOperation → Bool
locked_writes_flags Exchange = false
locked_writes_flags _ = true

-- arithmetic, logic and comparisons write all flags, but an increment or a decrement leaves the carry as it was
abbrev pub writes_flag : Instruction ℕ ℕ → Flag → Bool
writes_flag (Compute operation to from) f = true
writes_flag (Compare comparison left right) f = true
writes_flag (Increment register) f = not (is_carry_flag f)
writes_flag (Decrement register) f = not (is_carry_flag f)
writes_flag (Locked operation cell register) f = locked_writes_flags operation
writes_flag _ f = false

-- ---- both

-- the instruction of this procedure reads what this register or flag holds
unfoldable pub reads : ProcedureKind → Instruction ℕ ℕ → Location → Bool
reads kind step (location.Register b) = reads_register kind step b
reads kind step (location.Flag f) = reads_flag step f

-- the instruction writes this register or flag
unfoldable pub writes : Instruction ℕ ℕ → Location → Bool
writes step (location.Register b) = writes_register step b
writes step (location.Flag f) = writes_flag step f

-- a push begins with its argument in RDI; nothing else counts as written when a call begins
unfoldable pub is_given : ProcedureKind → Location → Bool
is_given Push (location.Register b) = is_same Rdi b
is_given _ _ = false
