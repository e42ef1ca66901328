-- The faults of a client's control flow, and which of them is first.
use Rattle.std.specs.Prelude.{◌≡◌, ℕ, ◌≤◌, Bool, false, not, ◌&&◌, ◌||◌, ◌==◌, nat_lt, nat_le, List, length, Option, Some, None, slice_get, IsTrue, is_some, is_none}
use Rattle.tso_line.specs.declared.instruction.Instruction.{Instruction}
use Rattle.tso_line.specs.declared.instruction.Instruction.TheVariants.{Jump}
use Rattle.tso_prog.specs.declared.client.Client.{Client}
use Rattle.tso_prog.specs.declared.client.Procedure.{Procedure}
use Rattle.tso_prog.specs.declared.fault.Code.{Code}
use Rattle.tso_prog.specs.declared.fault.Code.TheVariants.{E11, E12, E13, E14}
use Rattle.tso_prog.specs.declared.fault.Fault.{Fault}
use Rattle.tso_prog.specs.Codes.{code_number}
use Rattle.tso_flow.specs.declared.location.Location.{Location}
use Rattle.tso_flow.specs.declared.location.ProcedureKind.{ProcedureKind}
use Rattle.tso_flow.specs.Accesses.{reads, is_given}
use Rattle.tso_flow.specs.Calls.{procedure_of_kind}
use Rattle.tso_flow.specs.Paths.{goes_on, Reaches}

-- ---- one instruction

-- a jump back, whose target is at or before itself, without bound
abbrev pub is_back_without_bound : ℕ → Instruction ℕ ℕ → Bool
is_back_without_bound i (Jump when target bound) = nat_le target i && is_none bound
is_back_without_bound i _ = false

-- a jump forward, whose target is behind itself, with a bound
abbrev pub is_forward_with_bound : ℕ → Instruction ℕ ℕ → Bool
is_forward_with_bound i (Jump when target bound) = nat_lt i target && is_some bound
is_forward_with_bound i _ = false

-- control can come to this instruction, and go on from it to where none stands
abbrev pub GoesPastEnd : List (Instruction ℕ ℕ) → ℕ → Instruction ℕ ℕ → Type 0
GoesPastEnd steps i step = Reaches None steps i × ((j : ℕ) × IsTrue (goes_on step i j) × (length steps ≤ j))

-- the instruction reads this register or flag, and a path leads to it on which nothing writes that
abbrev pub ReadsUnwritten : ProcedureKind → List (Instruction ℕ ℕ) → Location → ℕ → Instruction ℕ ℕ → Type 0
ReadsUnwritten kind steps x i step = IsTrue (reads kind step x) × IsTrue (not (is_given kind x)) × Reaches (Some x) steps i

-- one of four statements, for each of the four codes of control flow
abbrev pub by_code : Type 0 → Type 0 → Type 0 → Type 0 → Code → Type 0
by_code past back forward unwritten E11 = past
by_code past back forward unwritten E12 = back
by_code past back forward unwritten E13 = forward
by_code past back forward unwritten E14 = unwritten
by_code past back forward unwritten _ = ⊥

-- this fault stands at the instruction step, which is at i
abbrev pub FaultAt : ProcedureKind → List (Instruction ℕ ℕ) → ℕ → Instruction ℕ ℕ → Code → Type 0
FaultAt kind steps i step code =
    by_code (GoesPastEnd steps i step) (IsTrue (is_back_without_bound i step)) (IsTrue (is_forward_with_bound i step)) ((x : Location) × ReadsUnwritten kind steps x i step) code

-- ---- a client

-- the fault stands in a procedure, at an instruction of the fault's line
abbrev pub FaultIn : ProcedureKind → Procedure → Fault → Type 0
FaultIn kind procedure fault = (i : ℕ) × (step : Instruction ℕ ℕ) × (slice_get procedure.lines i ≡ Some fault.line) × (slice_get procedure.instructions i ≡ Some step) × FaultAt kind procedure.instructions i step fault.code

-- the fault stands in one of the client's procedures
abbrev pub HasFault : Client → Fault → Type 0
HasFault client fault = (kind : ProcedureKind) × FaultIn kind (procedure_of_kind client kind) fault

-- by line, and then by number
unfoldable pub is_no_later : Fault → Fault → Bool
is_no_later f g = nat_lt f.line g.line || ((f.line == g.line) && nat_le (code_number f.code) (code_number g.code))

-- the first of the faults that stand somewhere, or none where there is none
abbrev pub IsFirst : (Fault → Type 0) → Option Fault → Type 0
IsFirst Stands None = (fault : Fault) → Stands fault → ⊥
IsFirst Stands (Some first) = Stands first × ((fault : Fault) → Stands fault → IsTrue (is_no_later first fault))

-- no fault of control flow stands in the client
abbrev pub HasNoFault : Client → Type 0
HasNoFault client = (fault : Fault) → HasFault client fault → ⊥
