-- Bytes of ASCII by their names.
use Rattle.std.specs.Prelude.{ℕ}

abbrev pub tab : ℕ
tab = 9

abbrev pub newline : ℕ
newline = 10

abbrev pub space : ℕ
space = 32

abbrev pub star : ℕ
star = 42

abbrev pub plus : ℕ
plus = 43

abbrev pub comma : ℕ
comma = 44

abbrev pub minus : ℕ
minus = 45

abbrev pub dot : ℕ
dot = 46

abbrev pub digit_0 : ℕ
digit_0 = 48

abbrev pub colon : ℕ
colon = 58

abbrev pub semicolon : ℕ
semicolon = 59

abbrev pub equals : ℕ
equals = 61

abbrev pub bracket : ℕ
bracket = 91

abbrev pub end_bracket : ℕ
end_bracket = 93

abbrev pub underscore : ℕ
underscore = 95

abbrev pub small_a : ℕ
small_a = 97

abbrev pub small_f : ℕ
small_f = 102

abbrev pub small_j : ℕ
small_j = 106

abbrev pub small_l : ℕ
small_l = 108

abbrev pub small_x : ℕ
small_x = 120

-- the last that can be printed
abbrev pub tilde : ℕ
tilde = 126
