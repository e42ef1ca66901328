-- Places that 64 bits hold, and counts of words.
use Rattle.std.proofs.Common.{◌≡◌, ℕ, ◌+◌, ◌<◌, ◌≤◌, ◌^◌, List, length, take, get_or, Option, Some, None, pos, refl, ap, arith}
use Rattle.std.specs.List.{sum_by}
use Rattle.std.proofs.lemmas.Bool.{le-ltb, lt-ltb}
use Rattle.std.proofs.lemmas.List.Concat.{length-flat_map}
use Rattle.std.proofs.lemmas.List.Sums.{sum_by_more, sum_by_more_le}
use Rattle.tso_prog.specs.declared.client.Array.{Array}
use Rattle.tso_machine.specs.Places.{if_word, place_of}
use Rattle.tso_machine.proofs.PlaceBounds.{place_below}

pub word_fits : (n : ℕ) → n < 2 ^ 64 → if_word (Some n) ≡ Some n
word_fits n lt = rw (lt-ltb n (2 ^ 64) lt) refl

pub word_past : (n : ℕ) → 2 ^ 64 ≤ n → if_word (Some n) ≡ None
word_past n le = rw (le-ltb n (2 ^ 64) le) refl

-- ---- the count of words before an array

pub one_more : (arrays : List Array) (i count : ℕ) (a : Array) → i < length arrays → a ≡ get_or arrays i a → count ≡ sum_by (λ (x : Array). length x.words) (take i arrays)
    → count + length a.words ≡ sum_by (λ (x : Array). length x.words) (take (i + 1) arrays)
one_more arrays i count a lt is e =
    omega (arith, e, ap (λ (x : Array). length x.words) is, sum_by_more (λ (x : Array). length x.words) arrays i a lt)

pub too_many : (arrays : List Array) (i count : ℕ) (a : Array) → i < length arrays → a ≡ get_or arrays i a → count ≡ sum_by (λ (x : Array). length x.words) (take i arrays)
    → 2 ^ 64 ≤ count + length a.words → 2 ^ 64 ≤ sum_by (λ (x : Array). length x.words) arrays
too_many arrays i count a lt is e le =
    omega (arith, e, le, ap (λ (x : Array). length x.words) is, sum_by_more_le (λ (x : Array). length x.words) arrays i a lt)

-- ---- places of a client

-- where the arrays have no more words than 64 bits count, each place is a number of 64 bits
pub word_place : (arrays : List Array) (n k : ℕ) → sum_by (λ (x : Array). length x.words) arrays ≤ 2 ^ 64 → if_word (place_of arrays n (pos k)) ≡ place_of arrays n (pos k)
word_place arrays n k few = known (place_of arrays n (pos k)) refl
  where
    known : (o : Option ℕ) → place_of arrays n (pos k) ≡ o → if_word o ≡ o
    known None e = refl
    known (Some p) e = word_fits p (omega (arith, few, place_below arrays n p (pos k) e, length-flat_map (λ (x : Array). x.words) arrays))
