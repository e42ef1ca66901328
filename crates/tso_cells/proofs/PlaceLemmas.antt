-- Facts of the items of a list, by their places.
use Rattle.std.proofs.Common.{◌≡◌, ℕ, ◌+◌, ◌<◌, ◌≤◌, List, length, Some, get_or, slice_get, subst, below_more, arith}
use Rattle.std.specs.Prelude.{All}
use Rattle.std.proofs.lemmas.Option.{get_or_from_slice_get, slice_get-get_or, slice_get_within}

pub from_all : {X : Type 0} (P : X → Type 0) (xs : List X) → All P xs → (n : ℕ) (x : X) → slice_get xs n ≡ Some x → P x
from_all P xs h n x at = subst P (get_or_from_slice_get xs n x x at) (h n x (slice_get_within xs n x at))

pub to_all : {X : Type 0} (P : X → Type 0) (xs : List X) → ((n : ℕ) (x : X) → slice_get xs n ≡ Some x → P x) → All P xs
to_all P xs h n d below = h n (get_or xs n d) (slice_get-get_or xs n d below)

-- P holds of the places and items below a place
abbrev pub UpTo : {X : Type 0} → (ℕ → X → Type 0) → List X → ℕ → Type 0
UpTo {X} P xs upto = (n : ℕ) (x : X) → n < upto → slice_get xs n ≡ Some x → P n x

pub one_more : {X : Type 0} (P : ℕ → X → Type 0) (xs : List X) (i : ℕ) (d : X) → UpTo P xs i → P i (get_or xs i d) → UpTo P xs (i + 1)
one_more {X} P xs i d before here n x below at =
    let Q : ℕ → Type 0 = λ m. (y : X) → slice_get xs m ≡ Some y → P m y in
    below_more Q i (λ m less y is. before m y less is) (λ y is. subst (P i) (get_or_from_slice_get xs i y d is) here) n below x at

pub at_each : {X : Type 0} (P : ℕ → X → Type 0) (xs : List X) (upto : ℕ) → UpTo P xs upto → length xs ≤ upto → (n : ℕ) (x : X) → slice_get xs n ≡ Some x → P n x
at_each P xs upto h enough n x at = let within = slice_get_within xs n x at in h n x (omega (arith, within, enough)) at
