-- Trace texts that are longer than a limit.
use Rattle.std.specs.Prelude.{◌≡◌, ◌⊎◌, ℕ, ◌+◌, ◌<◌, ◌≤◌, ◌==◌, List, length, take}
use Rattle.std.specs.List.{count_by}
use Rattle.tso_text.specs.Bytes.{newline}
use Rattle.tso_prog.specs.declared.client.Client.{Client}
use Rattle.tso_machine.specs.declared.label.Label.{Label}
use Rattle.tso_trace.specs.declared.fault.TraceFault.{TraceFault}
use Rattle.tso_trace.specs.declared.fault.TraceFault.TheVariants.{Grammar}
use Rattle.tso_trace.specs.Grammar.{IsFirstBadLine, IsReadFault, IsTextOf}

-- the number of the line in which the byte at this position stands
abbrev pub line_at : List ℕ → ℕ → ℕ
line_at text position = 1 + count_by (λ b. b == newline) (take position text)

-- a text that is too long is refused at its earliest line that is not of the grammar, or where there is none at the line
-- that passes the limit
abbrev pub IsLengthFault : Client → List ℕ → ℕ → TraceFault → Type 0
IsLengthFault c text limit (Grammar line) =
    IsFirstBadLine c.arrays text line ⊎ (((labels : List Label) × IsTextOf c.arrays text labels) × (line ≡ line_at text limit))
IsLengthFault c text limit _ = ⊥

-- why a text is refused as a trace of at most so many bytes
pub record IsFaultWithin (c : Client) (text : List ℕ) (limit : ℕ) (fault : TraceFault) : Type 0 where
  pub short : length text ≤ limit → IsReadFault c text fault
  pub long : limit < length text → IsLengthFault c text limit fault
