-- The end of a text: all six parts are there, and labels are positions.
use Rattle.std.specs.Prelude.{ℕ, Bool, true, false, ◌&&◌, nat_lt, List, [], ◌∷◌, length, map, Option, Some, None, Result, Ok, Err, find, if◌then◌else◌}
use Rattle.std.specs.Option.{option_map}
use Rattle.std.specs.Str.{bytes_eq}
use Rattle.tso_line.specs.declared.instruction.Instruction.{Instruction}
use Rattle.tso_line.specs.Instructions.{label_of, renamed}
use Rattle.tso_line.specs.Lines.{Name}
use Rattle.tso_prog.specs.declared.draft.Part.{Part}
use Rattle.tso_prog.specs.declared.draft.Part.TheVariants as parts
use Rattle.tso_prog.specs.declared.fault.Code.TheVariants.{E07, E08}
use Rattle.tso_prog.specs.declared.fault.Fault.{Fault}
use Rattle.tso_prog.specs.Contents.{TargetOf, StepOf, BodyOf, Content}
use Rattle.tso_prog.specs.Clients.{ClientOf}
use Rattle.tso_prog.specs.Program.{◌>>=◌, fault}

-- the position before which the label of this name stands
abbrev pub target_position : List TargetOf → Name → Option ℕ
target_position labels name = option_map (λ l. l.at) (find (λ l. bytes_eq l.name name) labels)

-- an instruction that jumps to this position
abbrev pub jump_to : StepOf → Option ℕ → Result (Instruction ℕ ℕ) Fault
jump_to s None = Err (fault E07 s.line)
jump_to s (Some position) = Ok (renamed (λ a. a) (λ _. position) s.instruction)

-- an instruction that names no label is the same at any position
abbrev pub with_target : List TargetOf → StepOf → Option Name → Result (Instruction ℕ ℕ) Fault
with_target labels s None = Ok (renamed (λ a. a) (λ _. 0) s.instruction)
with_target labels s (Some name) = jump_to s (target_position labels name)

-- the instruction with its label as a position
abbrev pub labelled_step : List TargetOf → StepOf → Result (Instruction ℕ ℕ) Fault
labelled_step labels s = with_target labels s (label_of s.instruction)

-- the instructions, or the first label that is not there
unfoldable pub labelled : List TargetOf → List StepOf → Result (List (Instruction ℕ ℕ)) Fault
labelled labels [] = Ok []
labelled labels (s ∷ ss) = do
  t ← labelled_step labels s
  ts ← labelled labels ss
  Ok (t ∷ ts)

-- the instructions of a procedure, or the first label that it lacks
abbrev pub labelled_body : BodyOf → Result (List (Instruction ℕ ℕ)) Fault
labelled_body b = labelled b.labels b.steps

-- the lines of a procedure's instructions
abbrev pub line_numbers : BodyOf → List ℕ
line_numbers b = map (λ s. s.line) b.steps

-- whether the prologue or a thread was read
abbrev pub is_threads : Part → Bool
is_threads parts.Threads = true
is_threads _ = false

-- the text is not over before its six parts are there; then each label is there, the earliest line first
unfoldable pub client_or_fault : Content → Result ClientOf Fault
client_or_fault c =
    if is_threads c.part && nat_lt 0 (length c.threads) then
    (labelled_body c.push >>= λ push. labelled_body c.pop >>= λ pop. Ok (record {
      capacity = c.capacity;
      mode = c.mode;
      arrays = c.arrays;
      push = push;
      pop = pop;
      prologue = c.prologue;
      threads = c.threads;
    }))
    else Err (fault E08 0)
