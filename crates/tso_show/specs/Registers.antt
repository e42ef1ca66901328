-- Registers and flags of a running call, as text.
use Rattle.std.specs.Prelude.{ℕ, Bool, true, false, ◌||◌, if◌then◌else◌, List, [], ◌∷◌, ◌++◌, codes, decimal}
use Rattle.std.specs.List.{flat_map, list_any}
use Rattle.tso_flow.specs.Accesses.{is_given, writes}
use Rattle.tso_flow.specs.declared.location.Flag.TheVariants.{Zero, Carry, Sign, Overflow}
use Rattle.tso_flow.specs.declared.location.Location.{Location}
use Rattle.tso_flow.specs.declared.location.Location.TheVariants as location
use Rattle.tso_flow.specs.declared.location.ProcedureKind.{ProcedureKind}
use Rattle.tso_line.specs.Vocabulary.{register_word}
use Rattle.tso_line.specs.declared.instruction.Instruction.{Instruction}
use Rattle.tso_line.specs.declared.instruction.Register.TheVariants.{Rax, Rbx, Rcx, Rdx, Rsi, Rdi, Rbp, R8, R9, R10, R11, R12, R13, R14, R15}
use Rattle.tso_machine.specs.Frames.{register_of}
use Rattle.tso_machine.specs.Instructions.{instructions_of}
use Rattle.tso_machine.specs.declared.frame.Frame.{Frame}
use Rattle.tso_machine.specs.declared.machine.Running.{Running}
use Rattle.tso_prog.specs.declared.client.Client.{Client}

-- a call of the procedure begins with it written, or one of its instructions writes it
abbrev pub is_used : Client → ProcedureKind → Location → Bool
is_used c procedure l = is_given procedure l || list_any (λ (step : Instruction ℕ ℕ). writes step l) (instructions_of c procedure)

abbrev pub bit_of : Bool → ℕ
bit_of true = 1
bit_of false = 0

-- the word of a register, and 1 or 0 of a flag
abbrev pub word_at : Frame → Location → ℕ
word_at f (location.Register r) = register_of f r
word_at f (location.Flag Zero) = bit_of f.flags.zf
word_at f (location.Flag Carry) = bit_of f.flags.cf
word_at f (location.Flag Sign) = bit_of f.flags.sf
word_at f (location.Flag Overflow) = bit_of f.flags.of

abbrev pub location_word : Location → List ℕ
location_word (location.Register r) = register_word r
location_word (location.Flag Zero) = codes "zf"
location_word (location.Flag Carry) = codes "cf"
location_word (location.Flag Sign) = codes "sf"
location_word (location.Flag Overflow) = codes "of"

-- a space, and `rax=7`, of what is used
abbrev pub location_text : Client → Running → Location → List ℕ
location_text c r l = if is_used c r.procedure l then codes " " ++ (location_word l ++ (codes "=" ++ decimal (word_at r.frame l))) else []

-- the registers, and then the flags
abbrev pub locations : List Location
locations =
    location.Register Rax ∷ location.Register Rbx ∷ location.Register Rcx ∷ location.Register Rdx ∷ location.Register Rsi ∷ location.Register Rdi ∷ location.Register Rbp ∷ location.Register R8
    ∷ location.Register R9 ∷ location.Register R10 ∷ location.Register R11 ∷ location.Register R12 ∷ location.Register R13 ∷ location.Register R14 ∷ location.Register R15
    ∷ location.Flag Zero ∷ location.Flag Carry ∷ location.Flag Sign ∷ location.Flag Overflow ∷ []

-- each that is used
abbrev pub frame_text : Client → Running → List ℕ
frame_text c r = flat_map (location_text c r) locations
