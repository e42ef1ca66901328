-- A number that is printed in decimal is read as itself.
use Rattle.std.proofs.Common.{◌≡◌, ℕ, zero, suc, ◌+◌, ◌*◌, ◌-◌, ◌^◌, ◌<◌, true, false, List, [], ◌∷◌, length, get_or, refl, arith, rules}
use Rattle.std.specs.Prelude.{◌==◌, nat_lt, fold}
use Rattle.std.specs.List.{list_all}
use Rattle.std.specs.Char.{is_ascii_digit}
use Rattle.std.specs.Fmt.{decimal}
use Rattle.std.proofs.lemmas.Bool.{le-leb}
use Rattle.std.proofs.lemmas.Bool.Decides.{nat_tests}
use Rattle.std.proofs.lemmas.Fmt.{decimal_digit, digits_decimal, digits_value-decimal, decimal_nonempty, first_decimal}
use Rattle.std.proofs.lemmas.Str.Parse.{IsNumeralModel, numerals_by_fold}
use Rattle.tso_line.specs.declared.lexeme.Ranged.TheVariants.{Within}
use Rattle.tso_line.specs.declared.lexeme.Lexeme.TheVariants as lexemes
use Rattle.tso_line.specs.Words.{decimal as value, decimal_of, number_of}

abbrev value_after : ℕ → List ℕ → ℕ
value_after n ds = fold (λ n d. n * 10 + (d - 48)) n ds

own : IsNumeralModel (λ ds. list_all is_ascii_digit ds ≡ true) (value_after 0)
own = numerals_by_fold _ (search rules) value_after (search rules)

pub decimal_all : (n : ℕ) → n < 2 ^ 64 → list_all is_ascii_digit (decimal n) ≡ true
decimal_all n lt = digits_decimal own n lt

pub decimal_value : (n : ℕ) → n < 2 ^ 64 → value (decimal n) ≡ n
decimal_value n lt = digits_value-decimal own n lt

-- ---- as a number

not_zero : (b : ℕ) → 48 < b → (b == 48) ≡ false
not_zero b lt = grind (arith, nat_tests)

plain_number : (n b : ℕ) (ds : List ℕ) → n < 2 ^ 64 → 48 < b → list_all is_ascii_digit (b ∷ ds) ≡ true → value (b ∷ ds) ≡ n → number_of (b ∷ ds) ≡ lexemes.Number (Within n)
unfolding number_of decimal_of
plain_number n b ds lt first all is =
    let small : nat_lt n (2 ^ 64) ≡ true = le-leb (suc n) (2 ^ 64) lt in
    rw (not_zero b first, all, is, small) refl

from_zero : (n : ℕ) → n ≡ 0 → number_of (decimal n) ≡ lexemes.Number (Within n)
unfolding number_of
from_zero n e = rw (e, decimal_digit 0 (omega arith)) refl

from_more : (n : ℕ) (ds : List ℕ) → n < 2 ^ 64 → 0 < length ds → 48 < get_or ds 0 0 → list_all is_ascii_digit ds ≡ true → value ds ≡ n → number_of ds ≡ lexemes.Number (Within n)
from_more n [] lt some first all is = absurd (omega (arith, some))
from_more n (b ∷ ds) lt some first all is = plain_number n b ds lt first all is

pub number_read : (n : ℕ) → n < 2 ^ 64 → number_of (decimal n) ≡ lexemes.Number (Within n)
number_read zero lt = from_zero 0 refl
number_read (suc n) lt = from_more (suc n) (decimal (suc n)) lt (decimal_nonempty (suc n) lt) (first_decimal (suc n) (omega arith) lt) (decimal_all (suc n) lt) (decimal_value (suc n) lt)
