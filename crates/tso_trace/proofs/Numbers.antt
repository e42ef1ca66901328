-- Decimal numbers without needless zeros, and what `parse` reads.
use Rattle.std.proofs.Common.{◌≡◌, ◌≢◌, ◌∙◌, ℕ, ◌<◌, ◌≤◌, ◌^◌, List, length, get_or, Result, Ok, Err, arith, sym, ap, decimal, zero, suc, lit≤, lit<}
use Rattle.std.specs.Str.{IsUtf8}
use Rattle.std.specs.Str.Parse.{AllDigits, ParsesUnsigned, digits_value, without_leading_plus}
use Rattle.std.proofs.lemmas.Fmt.{IsAscii-decimal, decimal-digits_value, decimal_digit, decimal_is_IsNumeral, first_decimal, parse-decimal}
use Rattle.std.proofs.lemmas.Result.{OkIff-at_ok}
use Rattle.std.proofs.lemmas.Str.{IsUtf8-from_ascii}
use Rattle.std.proofs.lemmas.Str.Parse.{IsNumeralModel, digit_at, numerals_by_value, tells_digits, without_leading_plus_none}

digits : IsNumeralModel (AllDigits 10) (digits_value 10)
digits = numerals_by_value (AllDigits 10) tells_digits

-- neither a sign nor a needless zero stands first
pub record IsPlain (text : List ℕ) : Type 0 where
  pub unsigned : get_or text 0 0 ≢ 43
  pub short : get_or text 0 0 ≡ 48 → length text ≤ 1

-- what is read is written so again
pub read_is : {E : Type 0} (text : List ℕ) (r : Result ℕ E) (n : ℕ) → ParsesUnsigned 64 10 text r → r ≡ Ok n → IsPlain text → (n < 2 ^ 64) × (text ≡ decimal n)
read_is text r n parses ok plain =
    let same : without_leading_plus text ≡ text = without_leading_plus_none text plain.unsigned in
    let read = rw same at (OkIff-at_ok r _ _ n parses ok) in
    let short : get_or text 0 0 ≡ 48 → length text ≡ 1 = λ zero. omega (arith, plain.short zero) in
    (omega (arith, read.0.1, read.1), sym (decimal-digits_value digits text read.0.0.1 read.0.0.0 short read.0.1) ∙ ap decimal (sym read.1))

first_digit : (n : ℕ) → n < 2 ^ 64 → get_or (decimal n) 0 0 ≢ 43
first_digit n small is_sign =
    let numeral = (decimal_is_IsNumeral n small).0 in
    absurd (omega (arith, digit_at (decimal n) 0 numeral.1 numeral.0))

pub decimal_is_plain : (n : ℕ) → n < 2 ^ 64 → IsPlain (decimal n)
decimal_is_plain zero small = record { unsigned = first_digit 0 small; short = λ _. rw (decimal_digit 0 (lit< tt)) (lit≤ tt) }
decimal_is_plain (suc n) small = record {
  unsigned = first_digit (suc n) small;
  short = λ is_zero. absurd (omega (arith, first_decimal (suc n) (omega arith) small));
}

pub decimal_is_text : (n : ℕ) → n < 2 ^ 64 → IsUtf8 (decimal n)
decimal_is_text n small = IsUtf8-from_ascii (decimal n) (IsAscii-decimal n small)

pub none_read : {E : Type 0} (text : List ℕ) (r : Result ℕ E) (e : E) → ParsesUnsigned 64 10 text r → r ≡ Err e → (n : ℕ) → n < 2 ^ 64 → text ≡ decimal n → ⊥
none_read text r e parses failed n small is = let read = parse-decimal 64 n text r small small is parses in cc
