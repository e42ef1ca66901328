-- Cells of a client's memory by name and index.
use Rattle.std.proofs.Common.{◌≡◌, ◌∙◌, ℕ, ◌+◌, ◌<◌, ◌≤◌, ◌^◌, ◌↔◌, true, false, ltb, Option, Some, None, List, ◌++◌, length, sum_by, slice_get, pos, sym, ap, subst, refl, arith, decimal, inl, inr, codes}
use Rattle.std.specs.List.{position}
use Rattle.std.specs.Str.{bytes_eq}
use Rattle.std.proofs.lemmas.Bool.{and_parts, and_from, cases_lt, cond-true, lt-ltb, ltb-true}
use Rattle.std.proofs.lemmas.Fmt.{decimal_injective}
use Rattle.std.proofs.lemmas.List.{append_cancel_left}
use Rattle.std.proofs.lemmas.List.Quantifiers.{position-Some}
use Rattle.std.proofs.lemmas.Option.{cond_some, none-some, same_Some, slice_get-get_or}
use Rattle.tso_line.specs.Proper.{goes_on}
use Rattle.tso_prog.specs.declared.client.Array.{Array}
use Rattle.tso_prog.specs.declared.client.Client.{Client}
use Rattle.tso_prog.specs.Limits.{is_short_name}
use Rattle.tso_machine.specs.Places.{first_place, place_in, place_of}
use Rattle.tso_trace.specs.Grammar.{access_text, cell_in, cell_text, is_access, named_cell}
use Rattle.tso_trace.specs.Parts.{lacks, split_text}
use Rattle.tso_trace.proofs.CellLemmas.{CellAt, cell_at, named_at, no_cell}
use Rattle.tso_trace.proofs.LineLemmas.{cell_parts, decimal_lacks, same_cut}
use Rattle.tso_trace.proofs.NameLemmas.{each_has, found_named, name_lacks, none_named, same_number}

-- ---- places by array and index

-- the array that a place lies in
record Placed (o : Option Array) (first index place : ℕ) : Type 0 where
  array : Array
  found : o ≡ Some array
  inside : index < length array.words
  at : place ≡ first + index

placed : (o : Option Array) (first index place : ℕ) → place_in o first (pos index) ≡ Some place → Placed o first index place
placed None first index place e = absurd (none-some place e)
placed (Some a) first index place e =
    let h = cond_some (ltb index (length a.words)) (first + index) place e in
    record { array = a; found = refl; inside = ltb-true _ _ h.0; at = sym h.1 }

place_there : (o : Option Array) (a : Array) (first index : ℕ) → o ≡ Some a → index < length a.words → place_in o first (pos index) ≡ Some (first + index)
place_there None a first index found inside = absurd (none-some a found)
place_there (Some b) a first index found inside =
    let Q : Array → Type 0 = λ x. index < length x.words in
    cond-true _ _ _ (lt-ltb index (length b.words) (subst Q (sym (same_Some b a found)) inside))

-- a cell's place is shown by its name and index
pub shown_cell : (arrays : List Array) (number index place : ℕ) (a : Array) → slice_get arrays number ≡ Some a → place_of arrays number (pos index) ≡ Some place → cell_text arrays place ≡ named_cell a.name index
shown_cell arrays number index place a found is =
    let p = placed (slice_get arrays number) (first_place arrays number) index place is in
    let same = same_Some p.array a (sym p.found ∙ found) in
    let cell = named_at arrays number p.array index place p.found p.inside p.at in
    let Q : Array → Type 0 = λ x. cell_text arrays place ≡ named_cell x.name index in
    subst Q same (rw cell refl)

-- a place outside memory is shown by its number
pub shown_place : (arrays : List Array) (place : ℕ) → sum_by (λ (a : Array). length a.words) arrays ≤ place → cell_text arrays place ≡ named_cell (codes "?") place
shown_place arrays place past = rw (no_cell arrays place past) refl

-- ---- cells of a client

module _ (c : Client) where
  all_lack : (b k : ℕ) (a : Array) → goes_on b ≡ false → slice_get c.arrays k ≡ Some a → lacks b a.name ≡ true
  all_lack b k a other found = name_lacks b a.name other (each_has (λ (x : Array). is_short_name x.name) c.arrays k a c.short_names found)

  no_bracket : (k : ℕ) (a : Array) → slice_get c.arrays k ≡ Some a → lacks 91 a.name ≡ true
  no_bracket k a found = all_lack 91 k a refl found

  -- the array and the index of a cell that is spelled so
  pub record Spelled (name : List ℕ) (index place : ℕ) : Type 0 where
    pub number : ℕ
    pub array : Array
    pub found : slice_get c.arrays number ≡ Some array
    pub named : array.name ≡ name
    pub inside : index < length array.words
    pub at : place ≡ first_place c.arrays number + index

  same_cell : (name name' : List ℕ) (index index' : ℕ) → lacks 91 name ≡ true → lacks 91 name' ≡ true → index < 2 ^ 64 → index' < 2 ^ 64 → named_cell name index ≡ named_cell name' index' → (name ≡ name') × (index ≡ index')
  same_cell name name' index index' l l' small small' e =
      let parts = same_cut 91 name name' _ _ l l' e in
      let digits = same_cut 93 (decimal index) (decimal index') _ _ (decimal_lacks 93 index refl small) (decimal_lacks 93 index' refl small') parts.1 in
      (parts.0, decimal_injective index index' small small' digits.0)

  small_index : (place : ℕ) → place < sum_by (λ (a : Array). length a.words) c.arrays → (at : CellAt c.arrays place) → at.index < 2 ^ 64
  small_index place below at = omega (arith, at.at, below, c.few_words)

  pub spelled : (name : List ℕ) (index place : ℕ) → lacks 91 name ≡ true → index < 2 ^ 64 → cell_in c.arrays place ≡ Some (named_cell name index) → Spelled name index place
  spelled name index place l small e =
      elim (cases_lt place (sum_by (λ (a : Array). length a.words) c.arrays)) [
        | inl below ↦
            let at = cell_at c.arrays place below in
            let same = same_cell at.array.name name at.index index (no_bracket at.number at.array at.found) l (small_index place below at) small (same_Some _ _ (sym at.text ∙ e)) in
            record { number = at.number; array = at.array; found = at.found; named = same.0; inside = rw (← same.1) at.inside; at = at.at ∙ ap (λ n. first_place c.arrays at.number + n) same.1 }
        | inr past ↦ absurd (none-some _ (sym (no_cell c.arrays place past) ∙ e))
      ]

  -- no array has the name
  pub nowhere : (name : List ℕ) (index place : ℕ) → lacks 91 name ≡ true → index < 2 ^ 64 → position (λ a. bytes_eq a.name name) c.arrays ≡ None → cell_in c.arrays place ≡ Some (named_cell name index) → ⊥
  nowhere name index place l small none e =
      let s = spelled name index place l small e in
      none_named name c.arrays s.number s.array none s.found s.named

  -- the array of the name has the index, or not
  pub somewhere : (name : List ℕ) (number index place : ℕ) → lacks 91 name ≡ true → index < 2 ^ 64 → position (λ a. bytes_eq a.name name) c.arrays ≡ Some number
      → (place_of c.arrays number (pos index) ≡ Some place) ↔ (cell_in c.arrays place ≡ Some (named_cell name index))
  somewhere name number index place l small at = (
    (λ e.
        let p = placed (slice_get c.arrays number) (first_place c.arrays number) index place e in
        let Q : List ℕ → Type 0 = λ n. cell_in c.arrays place ≡ Some (named_cell n index) in
        subst Q (found_named name c.arrays number p.array at p.found) (named_at c.arrays number p.array index place p.found p.inside p.at)),
    (λ e.
        let s = spelled name index place l small e in
        let there = position-Some (λ (a : Array). bytes_eq a.name name) c.arrays number s.array at in
        let here = slice_get-get_or c.arrays number s.array there.0 in
        let same = same_number c.arrays number s.number _ s.array c.distinct_names here s.found (found_named name c.arrays number _ at here ∙ sym s.named) in
        let Q : ℕ → Type 0 = λ n. place_of c.arrays n (pos index) ≡ Some place in
        subst Q (sym same) (place_there (slice_get c.arrays s.number) s.array (first_place c.arrays s.number) index s.found s.inside ∙ ap Some (sym s.at))),
  )

  -- ---- accesses

  -- an access by the name of its array
  pub record AccessOf (place word : ℕ) : Type 0 where
    pub name : List ℕ
    pub index : ℕ
    pub named : lacks 91 name ≡ true
    pub plain : (b : ℕ) → goes_on b ≡ false → lacks b name ≡ true
    pub small : index < 2 ^ 64
    pub fits : word < 2 ^ 64
    pub cell : cell_in c.arrays place ≡ Some (named_cell name index)
    pub text : access_text c.arrays place word ≡ split_text name index word

  cell_shown : (name : List ℕ) (index place word : ℕ) → cell_in c.arrays place ≡ Some (named_cell name index) → access_text c.arrays place word ≡ split_text name index word
  cell_shown name index place word e = rw e refl

  pub access_of : (place word : ℕ) → is_access c.arrays place word ≡ true → AccessOf place word
  access_of place word proper =
      let parts = and_parts _ _ proper in
      let below : place < sum_by (λ (a : Array). length a.words) c.arrays = ltb-true _ _ parts.0 in
      let at = cell_at c.arrays place below in
      record {
        name = at.array.name;
        index = at.index;
        named = no_bracket at.number at.array at.found;
        plain = λ b other. all_lack b at.number at.array other at.found;
        small = small_index place below at;
        fits = ltb-true _ _ parts.1;
        cell = at.text;
        text = cell_shown at.array.name at.index place word at.text;
      }

  -- a cell and a word are told apart in a text
  pub same_split : (name name' : List ℕ) (index index' word word' : ℕ) → lacks 91 name ≡ true → lacks 91 name' ≡ true → index < 2 ^ 64 → index' < 2 ^ 64
      → split_text name index word ≡ split_text name' index' word' → (named_cell name index ≡ named_cell name' index') × (decimal word ≡ decimal word')
  same_split name name' index index' word word' l l' small small' e =
      let parts = same_cut 91 name name' _ _ l l' (sym (cell_parts name index _) ∙ e ∙ cell_parts name' index' _) in
      let digits = same_cut 93 (decimal index) (decimal index') _ _ (decimal_lacks 93 index refl small) (decimal_lacks 93 index' refl small') parts.1 in
      let cells : named_cell name index ≡ named_cell name' index' = rw (parts.0, digits.0) refl in
      let words : decimal word ≡ decimal word' = let e : codes " = " ++ decimal word ≡ codes " = " ++ decimal word' = digits.1 in append_cancel_left (codes " = ") _ _ e in
      (cells, words)

  -- what was split is an access where its cell is there
  pub access_is : (name : List ℕ) (index word place : ℕ) (text : List ℕ) → word < 2 ^ 64 → text ≡ split_text name index word → cell_in c.arrays place ≡ Some (named_cell name index)
      → (is_access c.arrays place word ≡ true) × (text ≡ access_text c.arrays place word)
  access_is name index word place text fits is cell =
      elim (cases_lt place (sum_by (λ (a : Array). length a.words) c.arrays)) [
        | inl below ↦ (and_from _ _ (lt-ltb _ _ below) (lt-ltb _ _ fits), is ∙ sym (cell_shown name index place word cell))
        | inr past ↦ absurd (none-some _ (sym (no_cell c.arrays place past) ∙ cell))
      ]

  -- a cell has one place
  pub same_place : (name : List ℕ) (index p q : ℕ) → lacks 91 name ≡ true → index < 2 ^ 64 → cell_in c.arrays p ≡ Some (named_cell name index) → cell_in c.arrays q ≡ Some (named_cell name index) → p ≡ q
  same_place name index p q l small e e' =
      let s = spelled name index p l small e in
      let t = spelled name index q l small e' in
      let number = same_number c.arrays s.number t.number s.array t.array c.distinct_names s.found t.found (s.named ∙ sym t.named) in
      s.at ∙ ap (λ n. first_place c.arrays n + index) number ∙ sym t.at
