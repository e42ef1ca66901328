-- The first of several faults, and the faults that are looked for one after the other.
use Rattle.std.specs.Prelude.{◌≡◌, ℕ, ◌<◌, Bool, true, false, ◌&&◌, ◌||◌, nat_le, if◌then◌else◌, List, length, Option, Some, None, slice_get, IsTrue, ◌↔◌}
use Rattle.tso_line.specs.declared.instruction.Instruction.{Instruction}
use Rattle.tso_prog.specs.declared.client.Client.{Client}
use Rattle.tso_prog.specs.declared.fault.Code.{Code}
use Rattle.tso_prog.specs.declared.fault.Code.TheVariants.{E11, E12, E13, E14}
use Rattle.tso_prog.specs.declared.fault.Fault.{Fault}
use Rattle.tso_flow.specs.declared.location.Location.{Location}
use Rattle.tso_flow.specs.declared.location.ProcedureKind.{ProcedureKind}
use Rattle.tso_flow.specs.declared.flow.FlowError.{FlowError}
use Rattle.tso_flow.specs.declared.flow.FlowError.TheVariants.{Refused, Memory}
use Rattle.tso_flow.specs.Accesses.{reads, is_given}
use Rattle.tso_flow.specs.Paths.{next_of, target_of, Reaches}
use Rattle.tso_flow.specs.Marks.{is_marked}
use Rattle.tso_flow.specs.Faults.{GoesPastEnd, by_code, is_back_without_bound, is_forward_with_bound, is_no_later, HasFault, IsFirst}

-- the fault with which a client is refused is its first
abbrev pub IsRefusal : Client → FlowError → Type 0
IsRefusal client (Refused fault) = IsFirst (HasFault client) (Some fault)
IsRefusal client Memory = Unit {0}

-- the first of two faults, if there is one
abbrev pub earlier : Option Fault → Option Fault → Option Fault
earlier None b = b
earlier (Some x) None = Some x
earlier (Some x) (Some y) = if is_no_later x y then Some x else Some y

-- there is a position, and no instruction stands there
abbrev pub is_past : ℕ → Option ℕ → Bool
is_past len None = false
is_past len (Some t) = nat_le len t

-- control goes on from the instruction to where none stands
unfoldable pub goes_past : ℕ → ℕ → Instruction ℕ ℕ → Bool
goes_past len i step = is_past len (next_of step i) || is_past len (target_of step)

-- the first fault of an instruction but for what it reads, if control can come there or not
unfoldable pub shape_code : ℕ → ℕ → Instruction ℕ ℕ → Bool → Option Code
shape_code len i step is_reached =
    if is_reached && goes_past len i step then Some E11
    else (if is_back_without_bound i step then Some E12
    else (if is_forward_with_bound i step then Some E13
    else None))

-- a fault stands at the instruction that does not come from what it reads
abbrev pub ShapeAt : List (Instruction ℕ ℕ) → ℕ → Instruction ℕ ℕ → Code → Type 0
ShapeAt steps i step code = by_code (GoesPastEnd steps i step) (IsTrue (is_back_without_bound i step)) (IsTrue (is_forward_with_bound i step)) ⊥ code

-- the instruction reads this register or flag, and a path leads to it on which nothing writes that
abbrev pub ReadAt : ProcedureKind → List (Instruction ℕ ℕ) → Location → ℕ → Instruction ℕ ℕ → Code → Type 0
ReadAt kind steps x i step code = (code ≡ E14) × IsTrue (reads kind step x) × Reaches (Some x) steps i

-- a fault of this sort stands at one of these instructions, which stand on these lines, below upto
abbrev pub Below : (ℕ → Instruction ℕ ℕ → Code → Type 0) → List (Instruction ℕ ℕ) → List ℕ → ℕ → Fault → Type 0
Below At steps lines upto fault = (i : ℕ) × (step : Instruction ℕ ℕ) × (i < upto) × (slice_get lines i ≡ Some fault.line) × (slice_get steps i ≡ Some step) × At i step fault.code

-- a fault but for what is read
abbrev pub ShapeIn : List (Instruction ℕ ℕ) → List ℕ → ℕ → Fault → Type 0
ShapeIn steps lines upto fault = Below (ShapeAt steps) steps lines upto fault

-- an instruction reads this register or flag, and some path leads to it on which nothing writes that
abbrev pub ReadIn : ProcedureKind → List (Instruction ℕ ℕ) → List ℕ → Location → ℕ → Fault → Type 0
ReadIn kind steps lines x upto fault = Below (ReadAt kind steps x) steps lines upto fault

-- the same of one of the first of these registers and flags, but for those that a call begins with
abbrev pub ReadOf : ProcedureKind → List (Instruction ℕ ℕ) → List ℕ → List Location → ℕ → Fault → Type 0
ReadOf kind steps lines xs upto fault = (k : ℕ) × (x : Location) × (k < upto) × (slice_get xs k ≡ Some x) × (is_given kind x ≡ false) × ReadIn kind steps lines x (length steps) fault

-- the positions that are marked are those that control can come to
abbrev pub AreExact : Option Location → List (Instruction ℕ ℕ) → List Bool → Type 0
AreExact tracked steps marks = (k : ℕ) → k < length steps → (is_marked marks k ≡ true) ↔ Reaches tracked steps k
