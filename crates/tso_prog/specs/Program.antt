-- What a text denotes, or its first fault.
use Rattle.std.specs.Prelude.{◌≡◌, ℕ, ◌≤◌, Bool, true, List, [], ◌∷◌, ◌++◌, map, Option, Some, None, Result, Ok, Err}
use Rattle.std.specs.List.{flat_map}
use Rattle.tso_text.specs.declared.token.Token.{Token}
use Rattle.tso_text.specs.Lexing.{is_newline}
use Rattle.tso_prog.specs.declared.fault.Code.{Code}
use Rattle.tso_prog.specs.declared.fault.Fault.{Fault}
use Rattle.tso_prog.specs.declared.fault.ReadError.{ReadError}
use Rattle.tso_prog.specs.declared.fault.ReadError.TheVariants.{Refused, Memory}
use Rattle.tso_line.specs.Lexemes.{split_by}
use Rattle.tso_line.specs.Words.{lexeme_of}
use Rattle.tso_line.specs.Lines.{Line}
use Rattle.tso_line.specs.Reading.{line_of}
use Rattle.tso_prog.specs.Codes.{code_number}
use Rattle.tso_prog.specs.Contents.{Content}
use Rattle.tso_prog.specs.Faults.{has, fault_at}
use Rattle.tso_prog.specs.After.{after}

-- What a call returned, seen by view, is this, unless memory ran out.
abbrev pub Fails : {Y : Type 0} → ReadError → Result Y Fault → Type 0
Fails Memory what = Unit {0}
Fails (Refused f) what = what ≡ Err f

abbrev pub Gives : {X Y : Type 0} → (X → Y) → Result X ReadError → Result Y Fault → Type 0
Gives view (Ok x) what = what ≡ Ok (view x)
Gives view (Err e) what = Fails e what

infixl 10 ◌>>=◌
abbrev pub ◌>>=◌ : {A B : Type 0} → Result A Fault → (A → Result B Fault) → Result B Fault
(Ok x) >>= f = f x
(Err e) >>= f = Err e

-- ---- lines

abbrev pub ends_line : Token → Bool
ends_line t = is_newline t.kind

pub record Numbered : Type 0 where
  pub number : ℕ
  pub line : Line

-- a line with its number; one that holds no token is no line
abbrev pub numbered : List ℕ → List Token → List Numbered
numbered source [] = []
numbered source (t ∷ ts) = (record { number = t.line; line = line_of source (map (lexeme_of source) (t ∷ ts)) }) ∷ []

-- the lines of a text
abbrev pub lines_of : List ℕ → List Token → List Numbered
lines_of source tokens = flat_map (numbered source) (split_by ends_line tokens)

-- ---- the first fault of the lines

abbrev pub fault : Code → ℕ → Fault
fault code line = record { code = code; line = line }

abbrev pub next : Content → Numbered → Option Code → Result Content Fault
next c l None = Ok (after c l.number l.line)
next c l (Some code) = Err (fault code l.number)

-- the content after these lines, or the first of their faults
unfoldable pub read_from : Content → List Numbered → Result Content Fault
read_from c [] = Ok c
read_from c (l ∷ ls) = next c l (fault_at c l.line) >>= λ d. read_from d ls

-- ---- the same, without reading one line after the other

-- the content that these lines make
unfoldable pub content_of : List Numbered → Content → Content
content_of [] c = c
content_of (l ∷ ls) c = content_of ls (after c l.number l.line)

-- These lines, which stand after the content c, are those before, a line that has the fault there, and others.
pub record Stands (c : Content) (lines before : List Numbered) (code : Code) (number : ℕ) : Type 0 where
  pub at : Numbered
  pub rest : List Numbered
  pub split : lines ≡ before ++ at ∷ rest
  pub has_it : has (content_of before c) at.line code ≡ true
  pub numbered_so : at.number ≡ number

-- none of these lines has a fault
abbrev pub IsClean : Content → List Numbered → Type 0
IsClean c lines = (before : List Numbered) (code : Code) (number : ℕ) → Stands c lines before code number → ⊥

-- The fault stands among these lines; no line before it has one, and its line has none of a lower number.
pub record IsFirstFault (c : Content) (lines : List Numbered) (f : Fault) : Type 0 where
  pub before : List Numbered
  pub stands : Stands c lines before f.code f.line
  pub earliest : IsClean c before
  pub lowest : (code : Code) (number : ℕ) → Stands c lines before code number → code_number f.code ≤ code_number code

-- what a call that reads lines returned: their content where none has a fault, else the first fault
abbrev pub ReadsLines : {X : Type 0} → (X → Content) → Result X ReadError → Content → List Numbered → Type 0
ReadsLines view (Ok x) c lines = IsClean c lines × (view x ≡ content_of lines c)
ReadsLines view (Err Memory) c lines = Unit {0}
ReadsLines view (Err (Refused f)) c lines = IsFirstFault c lines f

-- a fault of the lines is refused, unless memory ran out
abbrev pub IsRefused : {X : Type 0} → Result X ReadError → Fault → Type 0
IsRefused (Ok x) f = ⊥
IsRefused (Err Memory) f = Unit {0}
IsRefused (Err (Refused g)) f = g ≡ f
