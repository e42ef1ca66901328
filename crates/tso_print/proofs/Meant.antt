-- Each word of the language means what it is printed for.
use Rattle.std.proofs.Common.{◌≡◌, Bool, true, false, length, Some, None, refl}
use Rattle.std.specs.Prelude.{nat_le}
use Rattle.tso_word.specs.declared.Condition.TheVariants as conds
use Rattle.tso_word.specs.declared.BitOperation.TheVariants as bits
use Rattle.tso_line.specs.declared.instruction.Register.TheVariants as registers
use Rattle.tso_line.specs.declared.instruction.Operation.TheVariants as operations
use Rattle.tso_line.specs.declared.instruction.Comparison.TheVariants as comparisons
use Rattle.tso_line.specs.declared.instruction.LockedOperation.TheVariants as locked
use Rattle.tso_line.specs.declared.lexeme.Span.{Span}
use Rattle.tso_line.specs.declared.lexeme.Directive.{Directive}
use Rattle.tso_line.specs.declared.lexeme.Directive.TheVariants as directives
use Rattle.tso_line.specs.declared.lexeme.Mnemonic.TheVariants as mnemonics
use Rattle.tso_line.specs.declared.lexeme.Meaning.{Meaning}
use Rattle.tso_line.specs.declared.lexeme.Meaning.TheVariants as meanings
use Rattle.tso_line.specs.declared.lexeme.Lexeme.TheVariants as lexemes
use Rattle.tso_line.specs.Proper.{is_name}
use Rattle.tso_line.specs.Words.{register_named, condition_named, operation_named, comparison_named, locked_named, single_named, mnemonic_named, other_named, meaning_of, directive_named, word_of_text}
use Rattle.tso_line.specs.Vocabulary.{keyword_word, directive_word}

-- a word of the language, and not only a name
abbrev pub has_word : Meaning → Bool
has_word meanings.Plain = false
has_word _ = true

-- what holds of each word of the language: it means what it is printed for, it is a name, and it has seven letters at most
pub record IsKeyword (m : Meaning) : Type 0 where
  pub meant : meaning_of (keyword_word m) ≡ m
  pub named : is_name (keyword_word m) ≡ true
  pub short : nat_le (length (keyword_word m)) 7 ≡ true

is_keyword : (m : Meaning) → has_word m ≡ true → IsKeyword m
unfolding meaning_of register_named condition_named operation_named comparison_named locked_named single_named mnemonic_named other_named is_name
is_keyword meanings.Plain e = absurd cc
is_keyword (meanings.Register registers.Rax) e = record { meant = refl; named = refl; short = refl }
is_keyword (meanings.Register registers.Rbx) e = record { meant = refl; named = refl; short = refl }
is_keyword (meanings.Register registers.Rcx) e = record { meant = refl; named = refl; short = refl }
is_keyword (meanings.Register registers.Rdx) e = record { meant = refl; named = refl; short = refl }
is_keyword (meanings.Register registers.Rsi) e = record { meant = refl; named = refl; short = refl }
is_keyword (meanings.Register registers.Rdi) e = record { meant = refl; named = refl; short = refl }
is_keyword (meanings.Register registers.Rbp) e = record { meant = refl; named = refl; short = refl }
is_keyword (meanings.Register registers.R8) e = record { meant = refl; named = refl; short = refl }
is_keyword (meanings.Register registers.R9) e = record { meant = refl; named = refl; short = refl }
is_keyword (meanings.Register registers.R10) e = record { meant = refl; named = refl; short = refl }
is_keyword (meanings.Register registers.R11) e = record { meant = refl; named = refl; short = refl }
is_keyword (meanings.Register registers.R12) e = record { meant = refl; named = refl; short = refl }
is_keyword (meanings.Register registers.R13) e = record { meant = refl; named = refl; short = refl }
is_keyword (meanings.Register registers.R14) e = record { meant = refl; named = refl; short = refl }
is_keyword (meanings.Register registers.R15) e = record { meant = refl; named = refl; short = refl }
is_keyword (meanings.Mnemonic mnemonics.Mov) e = record { meant = refl; named = refl; short = refl }
is_keyword (meanings.Mnemonic (mnemonics.Compute operations.Add)) e = record { meant = refl; named = refl; short = refl }
is_keyword (meanings.Mnemonic (mnemonics.Compute operations.Sub)) e = record { meant = refl; named = refl; short = refl }
is_keyword (meanings.Mnemonic (mnemonics.Compute (operations.Logic bits.And))) e = record { meant = refl; named = refl; short = refl }
is_keyword (meanings.Mnemonic (mnemonics.Compute (operations.Logic bits.Or))) e = record { meant = refl; named = refl; short = refl }
is_keyword (meanings.Mnemonic (mnemonics.Compute (operations.Logic bits.Xor))) e = record { meant = refl; named = refl; short = refl }
is_keyword (meanings.Mnemonic (mnemonics.Compare comparisons.Cmp)) e = record { meant = refl; named = refl; short = refl }
is_keyword (meanings.Mnemonic (mnemonics.Compare comparisons.Test)) e = record { meant = refl; named = refl; short = refl }
is_keyword (meanings.Mnemonic mnemonics.Increment) e = record { meant = refl; named = refl; short = refl }
is_keyword (meanings.Mnemonic mnemonics.Decrement) e = record { meant = refl; named = refl; short = refl }
is_keyword (meanings.Mnemonic (mnemonics.Jump None)) e = record { meant = refl; named = refl; short = refl }
is_keyword (meanings.Mnemonic (mnemonics.Jump (Some conds.E))) e = record { meant = refl; named = refl; short = refl }
is_keyword (meanings.Mnemonic (mnemonics.Jump (Some conds.Ne))) e = record { meant = refl; named = refl; short = refl }
is_keyword (meanings.Mnemonic (mnemonics.Jump (Some conds.B))) e = record { meant = refl; named = refl; short = refl }
is_keyword (meanings.Mnemonic (mnemonics.Jump (Some conds.Ae))) e = record { meant = refl; named = refl; short = refl }
is_keyword (meanings.Mnemonic (mnemonics.Jump (Some conds.Be))) e = record { meant = refl; named = refl; short = refl }
is_keyword (meanings.Mnemonic (mnemonics.Jump (Some conds.A))) e = record { meant = refl; named = refl; short = refl }
is_keyword (meanings.Mnemonic (mnemonics.Jump (Some conds.L))) e = record { meant = refl; named = refl; short = refl }
is_keyword (meanings.Mnemonic (mnemonics.Jump (Some conds.Ge))) e = record { meant = refl; named = refl; short = refl }
is_keyword (meanings.Mnemonic (mnemonics.Jump (Some conds.Le))) e = record { meant = refl; named = refl; short = refl }
is_keyword (meanings.Mnemonic (mnemonics.Jump (Some conds.G))) e = record { meant = refl; named = refl; short = refl }
is_keyword (meanings.Mnemonic mnemonics.Assert) e = record { meant = refl; named = refl; short = refl }
is_keyword (meanings.Mnemonic (mnemonics.Locked locked.Exchange)) e = record { meant = refl; named = refl; short = refl }
is_keyword (meanings.Mnemonic (mnemonics.Locked locked.CompareExchange)) e = record { meant = refl; named = refl; short = refl }
is_keyword (meanings.Mnemonic (mnemonics.Locked locked.ExchangeAdd)) e = record { meant = refl; named = refl; short = refl }
is_keyword (meanings.Mnemonic mnemonics.Fence) e = record { meant = refl; named = refl; short = refl }
is_keyword (meanings.Mnemonic mnemonics.Nop) e = record { meant = refl; named = refl; short = refl }
is_keyword (meanings.Mnemonic mnemonics.Pause) e = record { meant = refl; named = refl; short = refl }
is_keyword (meanings.Mnemonic mnemonics.Return) e = record { meant = refl; named = refl; short = refl }
is_keyword (meanings.Condition conds.E) e = record { meant = refl; named = refl; short = refl }
is_keyword (meanings.Condition conds.Ne) e = record { meant = refl; named = refl; short = refl }
is_keyword (meanings.Condition conds.B) e = record { meant = refl; named = refl; short = refl }
is_keyword (meanings.Condition conds.Ae) e = record { meant = refl; named = refl; short = refl }
is_keyword (meanings.Condition conds.Be) e = record { meant = refl; named = refl; short = refl }
is_keyword (meanings.Condition conds.A) e = record { meant = refl; named = refl; short = refl }
is_keyword (meanings.Condition conds.L) e = record { meant = refl; named = refl; short = refl }
is_keyword (meanings.Condition conds.Ge) e = record { meant = refl; named = refl; short = refl }
is_keyword (meanings.Condition conds.Le) e = record { meant = refl; named = refl; short = refl }
is_keyword (meanings.Condition conds.G) e = record { meant = refl; named = refl; short = refl }
is_keyword meanings.Lock e = record { meant = refl; named = refl; short = refl }
is_keyword meanings.Bound e = record { meant = refl; named = refl; short = refl }
is_keyword meanings.Qword e = record { meant = refl; named = refl; short = refl }
is_keyword meanings.Ptr e = record { meant = refl; named = refl; short = refl }
is_keyword meanings.Strict e = record { meant = refl; named = refl; short = refl }
is_keyword meanings.Weak e = record { meant = refl; named = refl; short = refl }
is_keyword meanings.Push e = record { meant = refl; named = refl; short = refl }
is_keyword meanings.Pop e = record { meant = refl; named = refl; short = refl }

pub keyword_meant : (m : Meaning) → has_word m ≡ true → meaning_of (keyword_word m) ≡ m
keyword_meant m e = (is_keyword m e).meant

pub keyword_named : (m : Meaning) → has_word m ≡ true → is_name (keyword_word m) ≡ true
keyword_named m e = (is_keyword m e).named

pub keyword_short : (m : Meaning) → has_word m ≡ true → nat_le (length (keyword_word m)) 7 ≡ true
keyword_short m e = (is_keyword m e).short

pub directive_meant : (s : Span) (d : Directive) → word_of_text s (directive_word d) ≡ lexemes.Directive d
unfolding word_of_text directive_named
directive_meant s directives.Capacity = refl
directive_meant s directives.Mode = refl
directive_meant s directives.Array = refl
directive_meant s directives.Push = refl
directive_meant s directives.Pop = refl
directive_meant s directives.End = refl
directive_meant s directives.Before = refl
directive_meant s directives.Thread = refl
