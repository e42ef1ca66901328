-- Names of arrays: no two are the same, and each is a name.
use Rattle.std.proofs.Common.{◌≡◌, ◌≢◌, ◌∙◌, ℕ, zero, suc, ◌+◌, ◌<◌, ◌≤◌, Bool, true, false, cond, eqb, Some, None, List, [], ◌∷◌, length, map, get_or, slice_get, sym, ap, refl, arith, inl, inr}
use Rattle.std.specs.Char.{is_ascii_digit, is_ascii_alphabetic}
use Rattle.std.specs.Int.{is_in_range}
use Rattle.std.specs.List.{list_all, list_any, position, position_or_len}
use Rattle.std.specs.Str.{bytes_eq}
use Rattle.std.proofs.lemmas.Bool.{and_parts, and_from, both_ways, cases_Bool, cases_lt, cond-true, lt-ltb, not-true, not_from_false, ne_eqb, or_cases, or_left, or_parts, leb-true, eqb-true}
use Rattle.std.proofs.lemmas.List.Quantifiers.{position-Some}
use Rattle.std.proofs.lemmas.Option.{get_or_from_slice_get, none-some, same_Some}
use Rattle.std.proofs.lemmas.Slice.Eq.{bytes_eq-Decides}
use Rattle.tso_line.specs.Proper.{goes_on, is_letter, is_name}
use Rattle.tso_prog.specs.declared.client.Array.{Array}
use Rattle.tso_prog.specs.Limits.{are_distinct, is_short_name}
use Rattle.tso_trace.specs.Parts.{lacks}

all_go_on : (name : List ℕ) → is_name name ≡ true → list_all goes_on name ≡ true
unfolding is_name
all_go_on [] named = cc
all_go_on (b ∷ name) named = let parts = and_parts (is_letter b) (list_all goes_on name) named in and_from _ _ (or_left _ _ parts.0) parts.1

bytes_lack : (b : ℕ) (name : List ℕ) → goes_on b ≡ false → list_all goes_on name ≡ true → lacks b name ≡ true
bytes_lack b [] other all = refl
bytes_lack b (x ∷ name) other all =
    let parts = and_parts (goes_on x) (list_all goes_on name) all in
    let apart : x ≢ b = λ e. both_ways (goes_on b) other (ap goes_on (sym e) ∙ parts.0) in
    and_from _ _ (not_from_false _ (ne_eqb x b apart)) (bytes_lack b name other parts.1)

-- a name lacks each byte that goes on no name
pub name_lacks : (b : ℕ) (name : List ℕ) → goes_on b ≡ false → is_short_name name ≡ true → lacks b name ≡ true
name_lacks b name other short = bytes_lack b name other (all_go_on name (and_parts _ _ short).0)

-- what all have, each has
pub each_has : {X : Type 0} (p : X → Bool) (xs : List X) (k : ℕ) (x : X) → list_all p xs ≡ true → slice_get xs k ≡ Some x → p x ≡ true
each_has p [] k x all found = absurd (none-some x found)
each_has p (y ∷ xs) zero x all found = ap p (sym (same_Some y x found)) ∙ (and_parts _ _ all).0
each_has p (y ∷ xs) (suc k) x all found = each_has p xs k x (and_parts _ _ all).1 found

-- a name that is not among these is not that of one of them
not_among : (name : List ℕ) (arrays : List Array) (k : ℕ) (a : Array) → list_any (λ other. bytes_eq other name) (map (λ (x : Array). x.name) arrays) ≡ false → slice_get arrays k ≡ Some a → a.name ≢ name
not_among name [] k a among found e = none-some a found
not_among name (b ∷ arrays) zero a among found e =
    let same : b ≡ a = same_Some b a found in
    both_ways (bytes_eq b.name name) (or_parts _ _ among).0 ((bytes_eq-Decides b.name name).1 (ap (λ (x : Array). x.name) same ∙ e))
not_among name (b ∷ arrays) (suc k) a among found e = not_among name arrays k a (or_parts _ _ among).1 found e

-- only one array has a name
pub same_number : (arrays : List Array) (j k : ℕ) (a b : Array) → are_distinct (map (λ (x : Array). x.name) arrays) ≡ true → slice_get arrays j ≡ Some a → slice_get arrays k ≡ Some b → a.name ≡ b.name → j ≡ k
same_number [] j k a b distinct at at' e = absurd (none-some a at)
same_number (x ∷ arrays) zero zero a b distinct at at' e = refl
same_number (x ∷ arrays) zero (suc k) a b distinct at at' e =
    absurd (not_among x.name arrays k b (not-true _ (and_parts _ _ distinct).0) at' (sym e ∙ ap (λ (y : Array). y.name) (sym (same_Some x a at))))
same_number (x ∷ arrays) (suc j) zero a b distinct at at' e =
    absurd (not_among x.name arrays j a (not-true _ (and_parts _ _ distinct).0) at (e ∙ ap (λ (y : Array). y.name) (sym (same_Some x b at'))))
same_number (x ∷ arrays) (suc j) (suc k) a b distinct at at' e = ap suc (same_number arrays j k a b (and_parts _ _ distinct).1 at at' e)

-- ---- the first that passes

first_or_later : {X : Type 0} (p : X → Bool) (x : X) (xs : List X) (b : Bool) → p x ≡ b → position_or_len p (x ∷ xs) ≡ cond b 0 (1 + position_or_len p xs)
first_or_later p x xs true e = rw e refl
first_or_later p x xs false e = rw e (omega arith)

none_passes : {X : Type 0} (p : X → Bool) (xs : List X) (k : ℕ) (x : X) → length xs ≤ position_or_len p xs → slice_get xs k ≡ Some x → p x ≡ false
none_passes p [] k x none found = absurd (none-some x found)
none_passes p (y ∷ xs) zero x none found =
    elim (cases_Bool (p y)) [
      | inl passes ↦ absurd (omega (arith, none, first_or_later p y xs true passes))
      | inr fails ↦ ap p (sym (same_Some y x found)) ∙ fails
    ]
none_passes p (y ∷ xs) (suc k) x none found =
    elim (cases_Bool (p y)) [
      | inl passes ↦ absurd (omega (arith, none, first_or_later p y xs true passes))
      | inr fails ↦ none_passes p xs k x (omega (arith, none, first_or_later p y xs false fails)) found
    ]

-- the array that was found has the name
pub found_named : (name : List ℕ) (arrays : List Array) (k : ℕ) (a : Array) → position (λ x. bytes_eq x.name name) arrays ≡ Some k → slice_get arrays k ≡ Some a → a.name ≡ name
found_named name arrays k a at found =
    let passes = position-Some (λ (x : Array). bytes_eq x.name name) arrays k a at in
    (bytes_eq-Decides a.name name).0 (ap (λ (x : Array). bytes_eq x.name name) (sym (get_or_from_slice_get arrays k a a found)) ∙ passes.1)

-- where none was found none has the name
pub none_named : (name : List ℕ) (arrays : List Array) (k : ℕ) (a : Array) → position (λ x. bytes_eq x.name name) arrays ≡ None → slice_get arrays k ≡ Some a → a.name ≢ name
none_named name arrays k a none found e =
    let p : Array → Bool = λ x. bytes_eq x.name name in
    elim (cases_lt (position_or_len p arrays) (length arrays)) [
      | inl there ↦ none-some _ (sym none ∙ cond-true _ _ _ (lt-ltb (position_or_len p arrays) (length arrays) there))
      | inr past ↦ both_ways (bytes_eq a.name name) (none_passes p arrays k a past found) ((bytes_eq-Decides a.name name).1 e)
    ]

-- ---- the bytes of names are ASCII

up_to : (low high b : ℕ) → is_in_range low high b ≡ true → b ≤ high
up_to low high b h = leb-true b high (and_parts _ _ h).1

small_byte : (b : ℕ) → goes_on b ≡ true → b < 128
small_byte b h =
    elim (or_cases (is_letter b) (is_ascii_digit b) h) [
      | inl letter ↦ elim (or_cases (is_ascii_alphabetic b) (eqb b 95) letter) [
        | inl alphabetic ↦ elim (or_cases (is_in_range 65 90 b) (is_in_range 97 122 b) alphabetic) [
          | inl upper ↦ omega (arith, up_to 65 90 b upper)
          | inr lower ↦ omega (arith, up_to 97 122 b lower)
        ]
        | inr line ↦ omega (arith, eqb-true b 95 line)
      ]
      | inr digit ↦ omega (arith, up_to 48 57 b digit)
    ]

all_small : (name : List ℕ) (k d : ℕ) → list_all goes_on name ≡ true → k < length name → get_or name k d < 128
all_small [] k d all below = absurd (omega arith)
all_small (x ∷ name) zero d all below = small_byte x (and_parts _ _ all).0
all_small (x ∷ name) (suc k) d all below = all_small name k d (and_parts _ _ all).1 (omega arith)

pub name_ascii : (name : List ℕ) (k d : ℕ) → is_short_name name ≡ true → k < length name → get_or name k d < 128
name_ascii name k d short below = all_small name k d (all_go_on name (and_parts _ _ short).0) below
