-- The bytes of names.
use Rattle.std.proofs.Common.{◌≡◌, ℕ, zero, suc, ◌<◌, Bool, true, List, [], ◌∷◌, length, get_or, arith}
use Rattle.std.specs.List.{list_all}
use Rattle.std.specs.Char.{is_ascii_digit}
use Rattle.std.proofs.lemmas.Bool.{and_parts, or_left}
use Rattle.std.proofs.lemmas.Bool.Decides.{nat_tests}
use Rattle.tso_line.specs.Proper.{is_letter, goes_on, is_name}

pub goes_small : (b : ℕ) → goes_on b ≡ true → b < 128
goes_small b e = grind (arith, nat_tests)

pub name_goes : (name : List ℕ) → is_name name ≡ true → list_all goes_on name ≡ true
unfolding is_name
name_goes [] e = absurd cc
name_goes (b ∷ bs) e = let p = and_parts (is_letter b) (list_all goes_on bs) e in rw (or_left (is_letter b) (is_ascii_digit b) p.0) p.1

pub all_at : (p : ℕ → Bool) (xs : List ℕ) → list_all p xs ≡ true → (i d : ℕ) → i < length xs → p (get_or xs i d) ≡ true
all_at p [] e i d lt = absurd (omega (arith, lt))
all_at p (x ∷ xs) e zero d lt = (and_parts (p x) (list_all p xs) e).0
all_at p (x ∷ xs) e (suc i) d lt = all_at p xs (and_parts (p x) (list_all p xs) e).1 i d (omega (arith, lt))

pub name_small : (name : List ℕ) → is_name name ≡ true → (i d : ℕ) → i < length name → get_or name i d < 128
name_small name e i d lt = goes_small (get_or name i d) (all_at goes_on name (name_goes name e) i d lt)
