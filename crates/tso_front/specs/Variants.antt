-- What stands in place of parts of a program text, and when it can't.
use Rattle.std.specs.Prelude.{◌≡◌, ◌⊎◌, ℕ, ◌<◌, ◌≤◌, Bool, true, false, ◌&&◌, ◌||◌, ◌==◌, List, length, codes, Option, Some, None, is_some, not}
use Rattle.std.specs.Borrow.{Bor}
use Rattle.std.specs.Char.{is_ascii_digit, is_ascii_lowercase}
use Rattle.std.specs.List.{list_all}
use Rattle.std.specs.Str.{bytes_eq}
use Rattle.tso_client.specs.Headline.{DenotesChecked}
use Rattle.tso_client.specs.Programs.{IsRefused}
use Rattle.tso_front.specs.Replaced.{between_bars, head_of, lines_of, replaced, words_of}
use Rattle.tso_front.specs.declared.failure.Failure.{Failure}
use Rattle.tso_front.specs.declared.failure.Failure.TheVariants.{Usage, NotText, Program, Trace, Limit, CannotRead, CannotWrite, CannotPrint, Memory}
use Rattle.tso_front.specs.declared.variant.Variant.{Variant}
use Rattle.tso_prog.specs.declared.client.Client.{Client}
use Rattle.tso_prog.specs.declared.fault.Code.TheVariants.{E01}
use Rattle.tso_prog.specs.declared.fault.Fault.{Fault}

-- nothing stands in place of anything
abbrev pub is_plain : Variant → Bool
is_plain v = not (is_some v.client) && not (is_some v.before) && not (is_some v.mode)

-- ---- words that can stand in a text

-- neither a comment nor a second line begins with this byte
abbrev pub is_calls_byte : ℕ → Bool
is_calls_byte b = (b == 32) || ((b == 44) || ((b == 45) || (is_ascii_digit b || is_ascii_lowercase b)))

abbrev pub are_calls : List ℕ → Bool
are_calls words = list_all is_calls_byte words

abbrev pub are_threads : List ℕ → Bool
are_threads words = list_all are_calls (between_bars words)

abbrev pub is_mode : Option (Bor (List ℕ)) → Bool
is_mode None = true
is_mode (Some mode) = bytes_eq mode.now (codes "strict") || bytes_eq mode.now (codes "weak")

abbrev pub are_fit : Variant → Bool
are_fit v = are_threads (words_of v.client) && are_calls (words_of v.before) && is_mode v.mode

-- ---- texts

-- a text is too long
abbrev pub too_long : Fault
too_long = record { code = E01; line = 0 }

abbrev pub too_long_text : Failure
too_long_text = Program too_long

-- the text with the variant's calls is a program, or its first fault stands before the calls
abbrev pub IsAllowed : Variant → List ℕ → Type 0
IsAllowed v text =
    ((c : Client) × DenotesChecked (replaced v text) c)
    ⊎ ((fault : Fault) × IsRefused (replaced v text) fault × (fault.line ≤ length (head_of v (lines_of text))))

-- the variant makes this of a text
pub record IsMade (v : Variant) (text made : List ℕ) : Type 0 where
  pub short : length text ≤ 65536
  pub fit : are_fit v ≡ true
  pub same : made ≡ replaced v text
  pub still_short : length made ≤ 65536
  pub allowed : IsAllowed v text

-- the variant's words are no calls or no mode, the text is too long with them, or its first fault then stands in the calls
abbrev pub IsMisuse : Variant → List ℕ → Type 0
IsMisuse v text =
    (are_fit v ≡ false)
    ⊎ ((65536 < length (replaced v text))
    ⊎ ((fault : Fault) × IsRefused (replaced v text) fault × (length (head_of v (lines_of text)) < fault.line)))

-- why the variant makes nothing of a text
abbrev pub IsWhyNot : Variant → List ℕ → Failure → Type 0
IsWhyNot v text (Program fault) = (65536 < length text) × (fault ≡ too_long)
IsWhyNot v text (Usage words) = (length text ≤ 65536) × IsMisuse v text
IsWhyNot v text Memory = length text ≤ 65536
IsWhyNot v text NotText = ⊥
IsWhyNot v text (Trace fault) = ⊥
IsWhyNot v text Limit = ⊥
IsWhyNot v text (CannotRead path) = ⊥
IsWhyNot v text (CannotWrite path) = ⊥
IsWhyNot v text CannotPrint = ⊥

-- the words are misused, or there was no memory to say so
abbrev pub is_misuse : Failure → Bool
is_misuse (Usage words) = true
is_misuse Memory = true
is_misuse (Program fault) = false
is_misuse NotText = false
is_misuse (Trace fault) = false
is_misuse Limit = false
is_misuse (CannotRead path) = false
is_misuse (CannotWrite path) = false
is_misuse CannotPrint = false
