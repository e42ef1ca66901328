-- Words and numbers by their text.
use Rattle.std.specs.Prelude.{ℕ, ◌+◌, ◌-◌, ◌*◌, ◌^◌, Bool, true, ◌&&◌, ◌||◌, ◌==◌, nat_le, nat_lt, if◌then◌else◌, List, [], ◌∷◌, length, fold, Option, Some, None, unwrap_or}
use Rattle.std.specs.List.{list_all}
use Rattle.std.specs.Option.{option_map}
use Rattle.std.specs.Char.{is_ascii_digit}
use Rattle.tso_text.specs.declared.token.Token.{Token}
use Rattle.tso_text.specs.declared.token.TokenKind.{TokenKind}
use Rattle.tso_text.specs.declared.token.TokenKind.TheVariants as tokens
use Rattle.tso_word.specs.declared.Condition.{Condition}
use Rattle.tso_line.specs.declared.instruction.Register.{Register}
use Rattle.tso_line.specs.declared.instruction.Operation.{Operation}
use Rattle.tso_line.specs.declared.instruction.Comparison.{Comparison}
use Rattle.tso_line.specs.declared.instruction.LockedOperation.{LockedOperation}
use Rattle.tso_line.specs.declared.lexeme.Span.{Span}
use Rattle.tso_line.specs.declared.lexeme.Directive.{Directive}
use Rattle.tso_line.specs.declared.lexeme.Mnemonic.{Mnemonic}
use Rattle.tso_line.specs.declared.lexeme.Mnemonic.TheVariants as mnemonics
use Rattle.tso_line.specs.declared.lexeme.Meaning.{Meaning}
use Rattle.tso_line.specs.declared.lexeme.Meaning.TheVariants as meanings
use Rattle.tso_line.specs.declared.lexeme.Ranged.{Ranged}
use Rattle.tso_line.specs.declared.lexeme.Ranged.TheVariants.{Within, OutOfRange}
use Rattle.tso_line.specs.declared.lexeme.Lexeme.{Lexeme}
use Rattle.tso_line.specs.declared.lexeme.Lexeme.TheVariants as lexemes
use Rattle.tso_text.specs.Bytes.{dot, digit_0, small_a, small_f, small_j, small_x}
use Rattle.tso_line.specs.Lexemes.{or_else}
use Rattle.tso_line.specs.Proper.{is_name}
use Rattle.tso_line.specs.Forms.{text_at}
use Rattle.tso_line.specs.Vocabulary.{register_word, condition_word, operation_word, comparison_word, locked_word, mnemonic_word, keyword_word, directive_name, all_registers, all_conditions, all_operations, all_comparisons, all_locked, all_single, all_fixed, all_directives, with_word}

unfoldable pub register_named : List ℕ → Option Register
register_named text = with_word register_word all_registers text

unfoldable pub condition_named : List ℕ → Option Condition
condition_named text = with_word condition_word all_conditions text

-- j before a condition
abbrev pub jump_named : List ℕ → Option Mnemonic
jump_named [] = None
jump_named (b ∷ text) = if b == small_j then option_map (λ c. mnemonics.Jump (Some c)) (condition_named text) else None

unfoldable pub operation_named : List ℕ → Option Operation
operation_named text = with_word operation_word all_operations text

unfoldable pub comparison_named : List ℕ → Option Comparison
comparison_named text = with_word comparison_word all_comparisons text

unfoldable pub locked_named : List ℕ → Option LockedOperation
locked_named text = with_word locked_word all_locked text

unfoldable pub single_named : List ℕ → Option Mnemonic
single_named text = with_word mnemonic_word all_single text

unfoldable pub mnemonic_named : List ℕ → Option Mnemonic
mnemonic_named text =
    or_else (option_map mnemonics.Compute (operation_named text))
    (or_else (option_map mnemonics.Compare (comparison_named text))
    (or_else (option_map mnemonics.Locked (locked_named text))
    (or_else (single_named text)
    (jump_named text))))

unfoldable pub other_named : List ℕ → Meaning
other_named text = unwrap_or (with_word keyword_word all_fixed text) meanings.Plain

abbrev pub condition_or_other : List ℕ → Option Condition → Meaning
condition_or_other text (Some c) = meanings.Condition c
condition_or_other text None = other_named text

abbrev pub mnemonic_or_other : List ℕ → Option Mnemonic → Meaning
mnemonic_or_other text (Some m) = meanings.Mnemonic m
mnemonic_or_other text None = condition_or_other text (condition_named text)

abbrev pub register_or_other : List ℕ → Option Register → Meaning
register_or_other text (Some r) = meanings.Register r
register_or_other text None = mnemonic_or_other text (mnemonic_named text)

unfoldable pub meaning_of : List ℕ → Meaning
meaning_of text = register_or_other text (register_named text)

abbrev pub directive_or_other : Option Directive → Lexeme
directive_or_other (Some d) = lexemes.Directive d
directive_or_other None = lexemes.Other

unfoldable pub directive_named : List ℕ → Lexeme
directive_named text = directive_or_other (with_word directive_name all_directives text)

-- ---- numbers

-- the value of decimal digits
abbrev pub decimal : List ℕ → ℕ
decimal digits = fold (λ n d. n * 10 + (d - digit_0)) 0 digits

-- the word, if it is one
abbrev pub word : ℕ → Ranged ℕ
word n = if nat_lt n (2 ^ 64) then Within n else OutOfRange

unfoldable pub decimal_of : List ℕ → Option (Ranged ℕ)
decimal_of digits = if list_all is_ascii_digit digits then Some (word (decimal digits)) else None

abbrev pub is_hex : ℕ → Bool
is_hex d = is_ascii_digit d || nat_le small_a d && nat_le d small_f

abbrev pub hex_digit : ℕ → ℕ
hex_digit d = if is_ascii_digit d then d - digit_0 else d - small_a + 10

abbrev pub hexadecimal : List ℕ → ℕ
hexadecimal digits = fold (λ n d. n * 16 + hex_digit d) 0 digits

unfoldable pub hex_of : List ℕ → Option ℕ
hex_of digits = if nat_le 1 (length digits) && nat_le (length digits) 16 && list_all is_hex digits then Some (hexadecimal digits) else None

abbrev pub number_or_other : Option (Ranged ℕ) → Lexeme
number_or_other (Some value) = lexemes.Number value
number_or_other None = lexemes.Other

abbrev pub hex_or_other : Option ℕ → Lexeme
hex_or_other (Some value) = lexemes.Number (Within value)
hex_or_other None = lexemes.Other

-- what stands behind a leading 0
abbrev pub behind_zero : List ℕ → Lexeme
behind_zero [] = lexemes.Number (Within 0)
behind_zero (b ∷ digits) = if b == small_x then hex_or_other (hex_of digits) else lexemes.Other

unfoldable pub number_of : List ℕ → Lexeme
number_of [] = number_or_other (decimal_of [])
number_of (b ∷ rest) = if b == digit_0 then behind_zero rest else number_or_other (decimal_of (b ∷ rest))

-- ---- tokens

-- a word that is a name; every word of a text without a dot before it is one
abbrev pub plain_word : Span → List ℕ → Lexeme
plain_word span text = if is_name text then lexemes.Word span (meaning_of text) else lexemes.Other

-- a word with a dot before it is a directive
unfoldable pub word_of_text : Span → List ℕ → Lexeme
word_of_text span [] = plain_word span []
word_of_text span (b ∷ text) = if b == dot then directive_named text else plain_word span (b ∷ text)

abbrev pub span_of : Token → Span
span_of t = record { start = t.start; end = t.end }

abbrev pub by_kind : List ℕ → Span → TokenKind → Lexeme
by_kind source span tokens.Word = word_of_text span (text_at source span)
by_kind source span tokens.Number = number_of (text_at source span)
by_kind source span tokens.Colon = lexemes.Colon
by_kind source span tokens.Comma = lexemes.Comma
by_kind source span tokens.Open = lexemes.Open
by_kind source span tokens.Close = lexemes.Close
by_kind source span tokens.Plus = lexemes.Plus
by_kind source span tokens.Minus = lexemes.Minus
by_kind source span tokens.Star = lexemes.Star
by_kind source span tokens.Equals = lexemes.Equals
by_kind source span tokens.Newline = lexemes.Other
by_kind source span tokens.Other = lexemes.Other

abbrev pub lexeme_of : List ℕ → Token → Lexeme
lexeme_of source t = by_kind source (span_of t) t.kind

-- what is taken for a name is one
abbrev pub has_name : List ℕ → Lexeme → Bool
has_name source (lexemes.Word span meaning) = is_name (text_at source span)
has_name source _ = true
