-- The paths of control through a procedure, whatever the bounds of its jumps.
use Rattle.std.specs.Prelude.{◌≡◌, ℕ, ◌+◌, Bool, true, false, not, ◌&&◌, ◌||◌, ◌==◌, List, [], ◌∷◌, Option, Some, None, slice_get, IsTrue}
use Rattle.tso_line.specs.declared.instruction.Instruction.{Instruction}
use Rattle.tso_line.specs.declared.instruction.Instruction.TheVariants.{Jump, Return}
use Rattle.tso_flow.specs.declared.location.Location.{Location}
use Rattle.tso_flow.specs.Accesses.{writes}

-- the position after the instruction at i, where that is one of its successors
abbrev pub next_of : Instruction ℕ ℕ → ℕ → Option ℕ
next_of (Jump None target bound) i = None
next_of Return i = None
next_of _ i = Some (i + 1)

-- where the instruction can jump to
abbrev pub target_of : Instruction ℕ ℕ → Option ℕ
target_of (Jump when target bound) = Some target
target_of _ = None

-- there is a position, and it is this one
abbrev pub is_at : Option ℕ → ℕ → Bool
is_at None j = false
is_at (Some t) j = t == j

-- control goes on from this instruction, at i, to j
unfoldable pub goes_on : Instruction ℕ ℕ → ℕ → ℕ → Bool
goes_on step i j = is_at (next_of step i) j || is_at (target_of step) j

-- the instruction leaves unwritten what is looked for, if anything is
abbrev pub leaves : Option Location → Instruction ℕ ℕ → Bool
leaves None step = true
leaves (Some x) step = not (writes step x)

-- the same of an instruction that leaves unwritten what is looked for, if an instruction stands there
abbrev pub goes_on_from : Option Location → Option (Instruction ℕ ℕ) → ℕ → ℕ → Bool
goes_on_from tracked None i j = false
goes_on_from tracked (Some step) i j = leaves tracked step && goes_on step i j

-- control goes on from i to j, and what is looked for is not written on the way
abbrev pub is_edge : Option Location → List (Instruction ℕ ℕ) → ℕ → ℕ → Bool
is_edge tracked steps i j = goes_on_from tracked (slice_get steps i) i j

-- from i control goes along these positions and so comes to j
abbrev pub Path : Option Location → List (Instruction ℕ ℕ) → ℕ → List ℕ → ℕ → Type 0
Path tracked steps i [] j = i ≡ j
Path tracked steps i (k ∷ ks) j = IsTrue (is_edge tracked steps i k) × Path tracked steps k ks j

-- Some path leads from the first instruction to this position. Where a register or a flag is looked for, nothing on the path before that position writes it.
abbrev pub Reaches : Option Location → List (Instruction ℕ ℕ) → ℕ → Type 0
Reaches tracked steps j = (path : List ℕ) × Path tracked steps 0 path j
