-- Cells by array and index, and by place.
use Rattle.std.proofs.Common.{◌≡◌, ◌∙◌, ℕ, zero, suc, ◌+◌, ◌-◌, ◌<◌, ◌≤◌, ltb, Some, None, List, [], ◌∷◌, length, take, sum_by, slice_get, sym, ap, subst, refl, arith, inl, inr}
use Rattle.std.proofs.lemmas.Bool.{lt-ltb, le-ltb, cases_lt, cond-true, cond-false}
use Rattle.std.proofs.lemmas.List.Sums.{sum_by-cons}
use Rattle.std.proofs.lemmas.Option.{none-some, same_Some}
use Rattle.tso_prog.specs.declared.client.Array.{Array}
use Rattle.tso_machine.specs.Places.{first_place}
use Rattle.tso_trace.specs.Grammar.{cell_in, named_cell}

-- how many words arrays have
abbrev word_count : List Array → ℕ
word_count arrays = sum_by (λ (a : Array). length a.words) arrays

-- the array and the index that a place stands for
pub record CellAt (arrays : List Array) (place : ℕ) : Type 0 where
  pub number : ℕ
  pub array : Array
  pub index : ℕ
  pub found : slice_get arrays number ≡ Some array
  pub inside : index < length array.words
  pub at : place ≡ first_place arrays number + index
  pub text : cell_in arrays place ≡ Some (named_cell array.name index)

more_words : (a : Array) (arrays : List Array) → word_count (a ∷ arrays) ≡ length a.words + word_count arrays
more_words a arrays = sum_by-cons (λ (b : Array). length b.words) a arrays

behind_first : (a : Array) (arrays : List Array) (place : ℕ) → length a.words ≤ place → cell_in (a ∷ arrays) place ≡ cell_in arrays (place - length a.words)
behind_first a arrays place past = cond-false (ltb place (length a.words)) _ _ (le-ltb place (length a.words) past)

in_first : (a : Array) (arrays : List Array) (place : ℕ) → place < length a.words → cell_in (a ∷ arrays) place ≡ Some (named_cell a.name place)
in_first a arrays place inside = cond-true (ltb place (length a.words)) _ _ (lt-ltb place (length a.words) inside)

-- each word of each array has its cell at its place
pub named_at : (arrays : List Array) (number : ℕ) (a : Array) (index place : ℕ) → slice_get arrays number ≡ Some a → index < length a.words
    → place ≡ first_place arrays number + index → cell_in arrays place ≡ Some (named_cell a.name index)
named_at [] number a index place found inside at = absurd (none-some a found)
named_at (b ∷ arrays) zero a index place found inside at =
    let same : b ≡ a = same_Some b a found in
    let here : place ≡ index = omega arith in
    let Q : Array → Type 0 = λ x. cell_in (b ∷ arrays) index ≡ Some (named_cell x.name index) in
    let R : Array → Type 0 = λ x. index < length x.words in
    rw here (subst Q same (in_first b arrays index (subst R (sym same) inside)))
named_at (b ∷ arrays) (suc number) a index place found inside at =
    let split : place ≡ (length b.words + first_place arrays number) + index = at ∙ ap (λ n. n + index) (more_words b (take number arrays)) in
    behind_first b arrays place (omega (arith, split)) ∙ named_at arrays number a index (place - length b.words) found inside (omega (arith, split))

-- each place of memory is that of a cell
pub cell_at : (arrays : List Array) (place : ℕ) → place < word_count arrays → CellAt arrays place
cell_at [] place below = absurd (omega arith)
cell_at (a ∷ arrays) place below =
    elim (cases_lt place (length a.words)) [
      | inl inside ↦ record { number = 0; array = a; index = place; found = refl; inside = inside; at = omega arith; text = in_first a arrays place inside }
      | inr past ↦
          let c = cell_at arrays (place - length a.words) (omega (arith, more_words a arrays)) in
          let split : first_place (a ∷ arrays) (suc c.number) ≡ length a.words + first_place arrays c.number = more_words a (take c.number arrays) in
          record { number = suc c.number; array = c.array; index = c.index; found = c.found; inside = c.inside; at = omega (arith, split, c.at); text = behind_first a arrays place past ∙ c.text }
    ]

-- and no other place is
pub no_cell : (arrays : List Array) (place : ℕ) → word_count arrays ≤ place → cell_in arrays place ≡ None
no_cell [] place past = refl
no_cell (a ∷ arrays) place past =
    behind_first a arrays place (omega (arith, more_words a arrays)) ∙ no_cell arrays (place - length a.words) (omega (arith, more_words a arrays))
