-- The words of the language: one table, by which words are read and printed.
use Rattle.std.specs.Prelude.{ℕ, List, [], ◌∷◌, ◌++◌, Option, Some, None, codes}
use Rattle.std.specs.List.{find}
use Rattle.std.specs.Str.{bytes_eq}
use Rattle.tso_word.specs.declared.Condition.{Condition}
use Rattle.tso_word.specs.declared.Condition.TheVariants as conds
use Rattle.tso_word.specs.declared.BitOperation.TheVariants as bits
use Rattle.tso_line.specs.declared.instruction.Register.{Register}
use Rattle.tso_line.specs.declared.instruction.Register.TheVariants as registers
use Rattle.tso_line.specs.declared.instruction.Operation.{Operation}
use Rattle.tso_line.specs.declared.instruction.Operation.TheVariants as operations
use Rattle.tso_line.specs.declared.instruction.Comparison.{Comparison}
use Rattle.tso_line.specs.declared.instruction.Comparison.TheVariants as comparisons
use Rattle.tso_line.specs.declared.instruction.LockedOperation.{LockedOperation}
use Rattle.tso_line.specs.declared.instruction.LockedOperation.TheVariants as locked
use Rattle.tso_line.specs.declared.lexeme.Directive.{Directive}
use Rattle.tso_line.specs.declared.lexeme.Directive.TheVariants as directives
use Rattle.tso_line.specs.declared.lexeme.Mnemonic.{Mnemonic}
use Rattle.tso_line.specs.declared.lexeme.Mnemonic.TheVariants as mnemonics
use Rattle.tso_line.specs.declared.lexeme.Meaning.{Meaning}
use Rattle.tso_line.specs.declared.lexeme.Meaning.TheVariants as meanings

-- ---- each word

abbrev pub register_word : Register → List ℕ
register_word registers.Rax = codes "rax"
register_word registers.Rbx = codes "rbx"
register_word registers.Rcx = codes "rcx"
register_word registers.Rdx = codes "rdx"
register_word registers.Rsi = codes "rsi"
register_word registers.Rdi = codes "rdi"
register_word registers.Rbp = codes "rbp"
register_word registers.R8 = codes "r8"
register_word registers.R9 = codes "r9"
register_word registers.R10 = codes "r10"
register_word registers.R11 = codes "r11"
register_word registers.R12 = codes "r12"
register_word registers.R13 = codes "r13"
register_word registers.R14 = codes "r14"
register_word registers.R15 = codes "r15"

abbrev pub condition_word : Condition → List ℕ
condition_word conds.E = codes "e"
condition_word conds.Ne = codes "ne"
condition_word conds.B = codes "b"
condition_word conds.Ae = codes "ae"
condition_word conds.Be = codes "be"
condition_word conds.A = codes "a"
condition_word conds.L = codes "l"
condition_word conds.Ge = codes "ge"
condition_word conds.Le = codes "le"
condition_word conds.G = codes "g"

abbrev pub operation_word : Operation → List ℕ
operation_word operations.Add = codes "add"
operation_word operations.Sub = codes "sub"
operation_word (operations.Logic bits.And) = codes "and"
operation_word (operations.Logic bits.Or) = codes "or"
operation_word (operations.Logic bits.Xor) = codes "xor"

abbrev pub comparison_word : Comparison → List ℕ
comparison_word comparisons.Cmp = codes "cmp"
comparison_word comparisons.Test = codes "test"

abbrev pub locked_word : LockedOperation → List ℕ
locked_word locked.Exchange = codes "xchg"
locked_word locked.CompareExchange = codes "cmpxchg"
locked_word locked.ExchangeAdd = codes "xadd"

-- a jump's condition stands behind a j
abbrev pub jump_word : Option Condition → List ℕ
jump_word None = codes "jmp"
jump_word (Some c) = codes "j" ++ condition_word c

abbrev pub mnemonic_word : Mnemonic → List ℕ
mnemonic_word mnemonics.Mov = codes "mov"
mnemonic_word (mnemonics.Compute operation) = operation_word operation
mnemonic_word (mnemonics.Compare comparison) = comparison_word comparison
mnemonic_word mnemonics.Increment = codes "inc"
mnemonic_word mnemonics.Decrement = codes "dec"
mnemonic_word (mnemonics.Jump when) = jump_word when
mnemonic_word mnemonics.Assert = codes "assert"
mnemonic_word (mnemonics.Locked operation) = locked_word operation
mnemonic_word mnemonics.Fence = codes "mfence"
mnemonic_word mnemonics.Nop = codes "nop"
mnemonic_word mnemonics.Pause = codes "pause"
mnemonic_word mnemonics.Return = codes "ret"

-- the word that means this; none means nothing
abbrev pub keyword_word : Meaning → List ℕ
keyword_word meanings.Plain = []
keyword_word (meanings.Register register) = register_word register
keyword_word (meanings.Mnemonic mnemonic) = mnemonic_word mnemonic
keyword_word (meanings.Condition condition) = condition_word condition
keyword_word meanings.Lock = codes "lock"
keyword_word meanings.Bound = codes "bound"
keyword_word meanings.Qword = codes "qword"
keyword_word meanings.Ptr = codes "ptr"
keyword_word meanings.Strict = codes "strict"
keyword_word meanings.Weak = codes "weak"
keyword_word meanings.Push = codes "push"
keyword_word meanings.Pop = codes "pop"

-- a directive, without its dot
abbrev pub directive_name : Directive → List ℕ
directive_name directives.Capacity = codes "capacity"
directive_name directives.Mode = codes "mode"
directive_name directives.Array = codes "array"
directive_name directives.Push = codes "push"
directive_name directives.Pop = codes "pop"
directive_name directives.End = codes "end"
directive_name directives.Before = codes "before"
directive_name directives.Thread = codes "thread"

abbrev pub directive_word : Directive → List ℕ
directive_word directive = codes "." ++ directive_name directive

-- ---- what has a word

abbrev pub all_registers : List Register
all_registers =
    registers.Rax ∷ registers.Rbx ∷ registers.Rcx ∷ registers.Rdx ∷ registers.Rsi ∷ registers.Rdi ∷ registers.Rbp ∷ registers.R8
    ∷ registers.R9 ∷ registers.R10 ∷ registers.R11 ∷ registers.R12 ∷ registers.R13 ∷ registers.R14 ∷ registers.R15 ∷ []

abbrev pub all_conditions : List Condition
all_conditions = conds.E ∷ conds.Ne ∷ conds.B ∷ conds.Ae ∷ conds.Be ∷ conds.A ∷ conds.L ∷ conds.Ge ∷ conds.Le ∷ conds.G ∷ []

abbrev pub all_operations : List Operation
all_operations = operations.Add ∷ operations.Sub ∷ operations.Logic bits.And ∷ operations.Logic bits.Or ∷ operations.Logic bits.Xor ∷ []

abbrev pub all_comparisons : List Comparison
all_comparisons = comparisons.Cmp ∷ comparisons.Test ∷ []

abbrev pub all_locked : List LockedOperation
all_locked = locked.Exchange ∷ locked.CompareExchange ∷ locked.ExchangeAdd ∷ []

-- the mnemonics that stand alone
abbrev pub all_single : List Mnemonic
all_single =
    mnemonics.Mov ∷ mnemonics.Increment ∷ mnemonics.Decrement ∷ mnemonics.Jump None ∷ mnemonics.Assert ∷ mnemonics.Fence ∷ mnemonics.Nop
    ∷ mnemonics.Pause ∷ mnemonics.Return ∷ []

-- the words that are no register, mnemonic or condition
abbrev pub all_fixed : List Meaning
all_fixed = meanings.Lock ∷ meanings.Bound ∷ meanings.Qword ∷ meanings.Ptr ∷ meanings.Strict ∷ meanings.Weak ∷ meanings.Push ∷ meanings.Pop ∷ []

abbrev pub all_directives : List Directive
all_directives =
    directives.Capacity ∷ directives.Mode ∷ directives.Array ∷ directives.Push ∷ directives.Pop ∷ directives.End ∷ directives.Before
    ∷ directives.Thread ∷ []

-- ---- what a text is the word of

-- the first of these with this word
abbrev pub with_word : {A : Type 0} → (A → List ℕ) → List A → List ℕ → Option A
with_word word all text = find (λ x. bytes_eq text (word x)) all
