-- Pieces of a certificate, which several threads judge as they come. Nothing here need be believed: it serves the code.
use Rattle.std.specs.Prelude.{◌≡◌, ◌<◌, ◌++◌, ℕ, All, IfOk, List, map, None, Option, Some, slice_get}
use Rattle.tso_check.specs.Spans.{IsSpanJudged, Span}
use Rattle.tso_check.specs.declared.judging.Bad.{Bad}
use Rattle.tso_check.specs.declared.threads.Judged.{Judged}

-- in these, from left to right, this is found first
pub record IsBadFirst (spans : List Span) (bad : Bad) : Type 0 where
  pub place : ℕ
  pub span : Span
  pub at : slice_get spans place ≡ Some span
  pub is : IsSpanJudged span (Some bad)
  pub before : (k : ℕ) (s : Span) → k < place → slice_get spans k ≡ Some s → IsSpanJudged s None

abbrev pub IsFoundFirst : List Span → Option Bad → Type 0
IsFoundFirst spans None = (k : ℕ) (s : Span) → slice_get spans k ≡ Some s → IsSpanJudged s None
IsFoundFirst spans (Some bad) = IsBadFirst spans bad

-- they are all of it: what is found first in them is what is found in it
abbrev pub AreAllOf : Span → List Span → Type 0
AreAllOf whole spans = (found : Option Bad) → IsFoundFirst spans found → IsSpanJudged whole found

-- the pieces of this part have come behind others
pub record IsCutInto {X : Type 0} (span : X → Span) (is_ready : X → Type 0) (part : X) (old new : List X) : Type 0 where
  pub pieces : List X
  pub is : new ≡ old ++ pieces
  pub all : AreAllOf (span part) (map span pieces)
  -- each can be judged
  pub ready : All is_ready pieces

-- each of these was found in the piece with its number, where no growth was refused
abbrev pub AreJudgedIn : List Span → List Judged → Type 0
AreJudgedIn spans all = (i : ℕ) (j : Judged) (s : Span) → slice_get all i ≡ Some j → slice_get spans j.number ≡ Some s → IfOk j.found (IsSpanJudged s)
