-- Parts of a line.
use Rattle.std.specs.Prelude.{◌≡◌, ◌≢◌, ℕ, ◌<◌, ◌^◌, Bool, true, false, not, ◌&&◌, ◌==◌, nat_lt, List, ◌∷◌, ◌++◌, length, sum_by, Option, codes, decimal, IsTrue, MatchOption}
use Rattle.std.specs.List.{list_all}
use Rattle.tso_line.specs.Proper.{is_call, is_word}
use Rattle.tso_line.specs.declared.instruction.CallKind.TheVariants as calls
use Rattle.tso_prog.specs.declared.answer.Answer.TheVariants as answers
use Rattle.tso_prog.specs.declared.client.Array.{Array}
use Rattle.tso_machine.specs.declared.label.Label.{Label}
use Rattle.tso_machine.specs.declared.label.LabelKind.{LabelKind}
use Rattle.tso_machine.specs.declared.label.LabelKind.TheVariants as kinds
use Rattle.tso_text.specs.Bytes.{bracket}
use Rattle.tso_trace.specs.Grammar.{access_text, is_access, is_answer, is_proper_kind, kind_text, named_cell}

-- the byte is not among these
abbrev pub lacks : ℕ → List ℕ → Bool
lacks byte text = list_all (λ b. not (b == byte)) text

-- the kind has no number and no place
abbrev pub is_bare : LabelKind → Bool
is_bare (kinds.Call (calls.Push argument)) = false
is_bare (kinds.Read place word) = false
is_bare (kinds.Write place word) = false
is_bare (kinds.Drain place word) = false
is_bare (kinds.Return (answers.Value word)) = false
is_bare _ = true

-- a cell and a word, by the array's name
abbrev pub split_text : List ℕ → ℕ → ℕ → List ℕ
split_text name index word = named_cell name index ++ (codes " = " ++ decimal word)

-- ---- what is read of a text

-- the value has this property and is spelled so, if one is there
abbrev pub Tells : {A : Type 0} → (A → Type 0) → (A → List ℕ) → List ℕ → Option A → Type 0
Tells IsProper spelling text found = MatchOption found ((x : _) → IsProper x → text ≢ spelling x) (λ x. IsProper x × (text ≡ spelling x))

abbrev pub Is64 : ℕ → Type 0
Is64 n = n < 2 ^ 64

-- the text is this number, the byte and the rest
abbrev pub IsNumberBefore : List ℕ → ℕ → ℕ → List ℕ → Type 0
IsNumberBefore text byte n rest = Is64 n × (text ≡ decimal n ++ byte ∷ rest)

abbrev pub HasNoNumberBefore : List ℕ → ℕ → Type 0
HasNoNumberBefore text byte = (n : ℕ) (rest : List ℕ) → Is64 n → text ≢ decimal n ++ byte ∷ rest

-- the text is `NAME[INDEX] = WORD`
abbrev pub IsSplit : List ℕ → List ℕ → ℕ → ℕ → Type 0
IsSplit text name index word = IsTrue (lacks bracket name) × Is64 index × Is64 word × (text ≡ split_text name index word)

abbrev pub IsUnsplit : List ℕ → Type 0
IsUnsplit text = (name : List ℕ) (index word : ℕ) → IsTrue (lacks bracket name) → Is64 index → Is64 word → text ≢ split_text name index word

-- an access to memory behind a word, if the text is one
abbrev pub TellsAccess : List Array → List ℕ → List ℕ → Option (ℕ × ℕ) → Type 0
TellsAccess arrays verb text found =
    MatchOption found ((place word : ℕ) → IsTrue (is_access arrays place word) → text ≢ verb ++ access_text arrays place word)
    (λ r. IsTrue (is_access arrays r.0 r.1) × (text ≡ verb ++ access_text arrays r.0 r.1))

-- a kind that has a number, if the text is one
abbrev pub TellsNumbered : List Array → List ℕ → Option LabelKind → Type 0
TellsNumbered arrays text found =
    MatchOption found ((k : LabelKind) → is_bare k ≡ false → IsTrue (is_proper_kind arrays k) → text ≢ kind_text arrays k)
    (λ k. IsTrue (is_proper_kind arrays k) × (text ≡ kind_text arrays k))

-- ---- what a label's value keeps, and what its run keeps

abbrev pub kind_has_words : LabelKind → Bool
kind_has_words (kinds.Call call) = is_call call
kind_has_words (kinds.Read place word) = is_word word
kind_has_words (kinds.Write place word) = is_word word
kind_has_words (kinds.Drain place word) = is_word word
kind_has_words (kinds.Return answer) = is_answer answer
kind_has_words _ = true

-- each number has 64 bits
abbrev pub has_words : Label → Bool
has_words l = is_word l.thread && kind_has_words l.kind

-- its place is one of memory
abbrev pub is_inside : List Array → LabelKind → Bool
is_inside arrays (kinds.Read place word) = nat_lt place (sum_by (λ (a : Array). length a.words) arrays)
is_inside arrays (kinds.Write place word) = nat_lt place (sum_by (λ (a : Array). length a.words) arrays)
is_inside arrays (kinds.Drain place word) = nat_lt place (sum_by (λ (a : Array). length a.words) arrays)
is_inside arrays _ = true
