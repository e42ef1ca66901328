-- Which places are a thread's own: those in arrays that no call of another thread writes, but for the prologue's. They depend on the
-- program alone.
use Rattle.std.specs.Prelude.{ℕ, ◌-◌, ◌==◌, Bool, not, List, [], ◌∷◌, bit_or, if◌then◌else◌}
use Rattle.tso_crossing.specs.Moves.{Extent}
use Rattle.tso_flow.specs.Calls.{step_limit}
use Rattle.tso_foot.specs.Futures.{calls_masks}
use Rattle.tso_foot.specs.Masks.{has_place}
use Rattle.tso_foot.specs.declared.table.ArrayTable.{ArrayTable}
use Rattle.tso_line.specs.declared.instruction.CallKind.{CallKind}
use Rattle.tso_prog.specs.declared.client.Array.{Array}
use Rattle.tso_prog.specs.declared.client.Client.{Client}

-- the arrays that the calls of these threads may write
abbrev pub written_by : ArrayTable → List (List CallKind) → ℕ
written_by t [] = 0
written_by t (calls ∷ rest) = bit_or (calls_masks t calls).writes (written_by t rest)

-- the same, but for thread i
abbrev pub written_but : ArrayTable → ℕ → List (List CallKind) → ℕ
written_but t i [] = 0
written_but t i (calls ∷ rest) = if i == 0 then written_by t rest else bit_or (calls_masks t calls).writes (written_but t (i - 1) rest)

-- the arrays that a thread other than i may write, the prologue's left out
abbrev pub written_beside : Client → ArrayTable → ℕ → ℕ
written_beside c t i = written_but t i c.threads

-- a place of these arrays is in none of a mask
abbrev pub is_own : List Array → ℕ → ℕ → Bool
is_own arrays mask place = not (has_place arrays mask place)

-- how far the openings of a client's calls go: over as many instructions as any call can have, and past reads of the thread's own places
abbrev pub extent_of : Client → ArrayTable → Extent
extent_of c t = record { most = step_limit c; own = λ i place. is_own c.arrays (written_beside c t i) place }
