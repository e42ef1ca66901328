-- Texts as text of a page: bytes that HTML reads as markup stand as the numbers of their characters.
use Rattle.std.specs.Prelude.{◌≡◌, ℕ, zero, suc, ◌+◌, ◌-◌, ◌*◌, ◌==◌, Bool, not, ◌||◌, if◌then◌else◌, List, [], ◌∷◌, codes, slice_index, IsTrue, Option, Some, None}
use Rattle.std.specs.List.{flat_map, list_all}

-- the code of a byte: each has five signs, of which the third and the fourth are the number
abbrev pub code_of : ℕ → Option (List ℕ)
code_of b =
    if b == 34 then Some (codes "&#34;")
    else (if b == 38 then Some (codes "&#38;") else (if b == 39 then Some (codes "&#39;") else (if b == 60 then Some (codes "&#60;") else (if b == 62 then Some (codes "&#62;") else None))))

abbrev pub or_itself : ℕ → Option (List ℕ) → List ℕ
or_itself b None = b ∷ []
or_itself b (Some code) = code

abbrev pub escaped_byte : ℕ → List ℕ
escaped_byte b = or_itself b (code_of b)

abbrev pub escaped : List ℕ → List ℕ
escaped text = flat_map escaped_byte text

-- neither a quote nor a bracket of a tag
abbrev pub is_plain : ℕ → Bool
is_plain b = not ((b == 34) || ((b == 39) || ((b == 60) || (b == 62))))

-- the number of a code, behind its first sign
abbrev pub number_in : List ℕ → ℕ
number_in bs = (slice_index bs 1 - 48) * 10 + (slice_index bs 2 - 48)

-- the text that is read where so many signs of a code are still to come
abbrev pub read_from : ℕ → List ℕ → List ℕ
read_from k [] = []
read_from (suc k) (b ∷ bs) = read_from k bs
read_from zero (b ∷ bs) = if b == 38 then number_in bs ∷ read_from 4 bs else b ∷ read_from 0 bs

-- the text that is read: each code is its character
abbrev pub unescaped : List ℕ → List ℕ
unescaped page = read_from 0 page

-- an escaped text has no quote and no bracket of a tag, each `&` in it begins a code, and what is read is the text
pub record IsNoMarkup (text : List ℕ) : Type 0 where
  pub plain : IsTrue (list_all is_plain (escaped text))
  pub read : unescaped (escaped text) ≡ text
