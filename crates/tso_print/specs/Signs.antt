-- The signs that a program is printed with, each with its bytes.
use Rattle.std.specs.Prelude.{ℕ, List, codes}
use Rattle.std.specs.Fmt.{decimal}
use Rattle.tso_line.specs.declared.lexeme.Directive.{Directive}
use Rattle.tso_line.specs.declared.lexeme.Meaning.{Meaning}
use Rattle.tso_line.specs.Vocabulary.{keyword_word, directive_word}

-- a directive, a word of the language, the name of an array or a label, a number in decimal, or a mark
pub data Sign : Type 0 where
  directive : Directive → Sign
  keyword : Meaning → Sign
  name : List ℕ → Sign
  number : ℕ → Sign
  colon : Sign
  comma : Sign
  bracket : Sign
  end_bracket : Sign
  plus : Sign
  minus : Sign
  star : Sign
  equals : Sign

abbrev pub sign_text : Sign → List ℕ
sign_text (directive d) = directive_word d
sign_text (keyword meaning) = keyword_word meaning
sign_text (name text) = text
sign_text (number n) = decimal n
sign_text colon = codes ":"
sign_text comma = codes ","
sign_text bracket = codes "["
sign_text end_bracket = codes "]"
sign_text plus = codes "+"
sign_text minus = codes "-"
sign_text star = codes "*"
sign_text equals = codes "="
