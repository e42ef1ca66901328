-- Which fault of a text comes first, without reading it line by line.
use Rattle.std.specs.Prelude.{◌≡◌, ℕ, ◌<◌, ◌≤◌, Bool, true, false, ◌&&◌, nat_lt, List, ◌∷◌, ◌++◌, length, Option, Some, None, Result, Ok, Err}
use Rattle.std.specs.List.{AllByRecursion}
use Rattle.tso_text.specs.Lexing.{first_bad_line, tokens_of}
use Rattle.tso_line.specs.Lines.{Name}
use Rattle.tso_line.specs.Instructions.{label_of}
use Rattle.tso_prog.specs.declared.fault.Code.TheVariants.{E01, E02, E07, E08}
use Rattle.tso_prog.specs.declared.fault.Fault.{Fault}
use Rattle.tso_prog.specs.declared.fault.ReadError.{ReadError}
use Rattle.tso_prog.specs.declared.fault.ReadError.TheVariants.{Refused, Memory}
use Rattle.tso_prog.specs.Contents.{TargetOf, StepOf, BodyOf, Content}
use Rattle.tso_prog.specs.Start.{start}
use Rattle.tso_prog.specs.Program.{fault, lines_of, content_of, IsClean, IsFirstFault}
use Rattle.tso_prog.specs.Finish.{target_position, is_threads}

-- whether all six parts are there
abbrev pub is_whole : Content → Bool
is_whole c = is_threads c.part && nat_lt 0 (length c.threads)

-- the instruction jumps to no label of its procedure
abbrev pub Loses : List TargetOf → Option Name → Type 0
Loses labels None = ⊥
Loses labels (Some name) = target_position labels name ≡ None

abbrev pub IsLost : List TargetOf → StepOf → Type 0
IsLost labels s = Loses labels (label_of s.instruction)

-- the first instruction of a procedure that jumps to a label that is not there
pub record LosesFirst (b : BodyOf) (f : Fault) : Type 0 where
  pub before : List StepOf
  pub at : StepOf
  pub rest : List StepOf
  pub split : b.steps ≡ before ++ at ∷ rest
  pub found : AllByRecursion (λ s. IsLost b.labels s → ⊥) before
  pub lost : IsLost b.labels at
  pub is : f ≡ fault E07 at.line

-- no instruction of the procedure does
abbrev pub LosesNone : BodyOf → Type 0
LosesNone b = AllByRecursion (λ s. IsLost b.labels s → ⊥) b.steps

-- too long, then a bad byte, then a fault of a line, then an early end, then a label that is not there, in push before pop
pub data FirstOf (text : List ℕ) (f : Fault) : Type 0 where
  too_long : 65536 < length text → f ≡ fault E01 0 → FirstOf text f
  bad_byte : (line : ℕ) → length text ≤ 65536 → first_bad_line 1 text ≡ Some line → f ≡ fault E02 line → FirstOf text f
  in_line : length text ≤ 65536 → first_bad_line 1 text ≡ None → IsFirstFault start (lines_of text (tokens_of text)) f → FirstOf text f
  ends_early : length text ≤ 65536 → first_bad_line 1 text ≡ None → IsClean start (lines_of text (tokens_of text)) → is_whole (content_of (lines_of text (tokens_of text)) start) ≡ false → f ≡ fault E08 0 → FirstOf text f
  lost_in_push : length text ≤ 65536 → first_bad_line 1 text ≡ None → IsClean start (lines_of text (tokens_of text)) → is_whole (content_of (lines_of text (tokens_of text)) start) ≡ true → LosesFirst (content_of (lines_of text (tokens_of text)) start).push f → FirstOf text f
  lost_in_pop : length text ≤ 65536 → first_bad_line 1 text ≡ None → IsClean start (lines_of text (tokens_of text)) → is_whole (content_of (lines_of text (tokens_of text)) start) ≡ true → LosesNone (content_of (lines_of text (tokens_of text)) start).push → LosesFirst (content_of (lines_of text (tokens_of text)) start).pop f → FirstOf text f

-- a fault that is answered is the text's first
abbrev pub AnswersFirst : {X : Type 0} → Result X ReadError → List ℕ → Type 0
AnswersFirst (Ok x) text = Unit {0}
AnswersFirst (Err Memory) text = Unit {0}
AnswersFirst (Err (Refused f)) text = FirstOf text f
