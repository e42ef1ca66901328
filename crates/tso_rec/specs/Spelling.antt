-- The spelling of a record: its state, then its end. At a crossing no actor is chosen, and its end is one byte.
use Rattle.std.specs.Prelude.{◌≡◌, ℕ, zero, suc, List, [], ◌∷◌, ◌++◌, Some, None}
use Rattle.tso_choose.specs.declared.choice.Choice.{Choice}
use Rattle.tso_code.specs.Ends.{choice, choice_at, ChoiceFits, placed, placed_at, PlacedFits}
use Rattle.tso_code.specs.Fields.{at2, list, list_at, ListFits}
use Rattle.tso_code.specs.Numbers.{◌>>=◌, Reading}
use Rattle.tso_code.specs.States.{state, state_at, StateFits}
use Rattle.tso_rec.specs.declared.basis.Grain.{Grain}
use Rattle.tso_rec.specs.declared.basis.Grain.TheVariants.{Steps, Crossings}
use Rattle.tso_rec.specs.declared.record.End.{End}
use Rattle.tso_rec.specs.declared.record.End.TheVariants.{Choices, Order}
use Rattle.tso_rec.specs.declared.record.Record.{Record}

-- a list of choices; nothing at a crossing
abbrev pub chosen : Grain → List Choice → List ℕ
chosen Steps cs = list choice cs
chosen Crossings cs = []

abbrev pub chosen_at : Grain → Reading (List Choice)
chosen_at Steps rest = list_at choice_at rest
chosen_at Crossings rest = Some ([], rest)

abbrev pub ChosenFit : Grain → List Choice → Type 0
ChosenFit Steps cs = ListFits ChoiceFits cs
ChosenFit Crossings cs = cs ≡ []

-- 00 and what is chosen; or 01 and a list of entries of an order
abbrev pub ending : Grain → End → List ℕ
ending g (Choices cs) = 0 ∷ chosen g cs
ending g (Order os) = 1 ∷ list placed os

unfoldable pub ending_at : Grain → Reading End
ending_at g [] = None
ending_at g (zero ∷ rest) = do
  cs ← chosen_at g rest
  Some (Choices cs.0, cs.1)
ending_at g (suc zero ∷ rest) = do
  os ← list_at placed_at rest
  Some (Order os.0, os.1)
ending_at g (suc (suc b) ∷ rest) = None

abbrev pub EndFits : Grain → End → Type 0
EndFits g (Choices cs) = ChosenFit g cs
EndFits g (Order os) = ListFits PlacedFits os

abbrev pub a_record : Grain → Record → List ℕ
a_record g r = state r.state ++ ending g r.end

unfoldable pub record_at : Grain → Reading Record
record_at g = at2 (λ state end. record { state = state; end = end }) state_at (ending_at g)

abbrev pub RecordFits : Grain → Record → Type 0
RecordFits g r = StateFits r.state × EndFits g r.end
