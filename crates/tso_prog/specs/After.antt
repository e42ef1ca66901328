-- What a line adds to a program.
use Rattle.std.specs.Prelude.{ℕ, ◌+◌, [], ◌∷◌, ◌++◌, length, unwrap_or}
use Rattle.tso_line.specs.declared.instruction.Instruction.{Instruction}
use Rattle.tso_line.specs.Instructions.{renamed}
use Rattle.tso_line.specs.Lines.{Name, Line, misshapen, wrong, capacity, mode, array, push, pop, end, label, instruction, before, thread}
use Rattle.tso_prog.specs.declared.draft.Part.{Part}
use Rattle.tso_prog.specs.declared.draft.Part.TheVariants as parts
use Rattle.tso_prog.specs.Contents.{StepOf, BodyOf, Content}
use Rattle.tso_prog.specs.Faults.{array_number}

-- the number of the array of this name
abbrev pub number_or_0 : Content → Name → ℕ
number_or_0 c name = unwrap_or (array_number c name) 0

-- the instruction with its array as a number
abbrev pub numbered : Content → Instruction Name Name → Instruction ℕ Name
numbered c i = renamed (number_or_0 c) (λ l. l) i

-- the part after the end of a procedure
abbrev pub after_end : Part → Part
after_end parts.Pop = parts.Prologue
after_end _ = parts.Between

-- the procedure with a label before the next instruction
abbrev pub with_label : BodyOf → Name → BodyOf
with_label b name = record b { labels = b.labels ++ (record { name = name; at = length b.steps }) ∷ [] }

-- the procedure with one instruction more
abbrev pub with_step : BodyOf → StepOf → BodyOf
with_step b step = record b { steps = b.steps ++ step ∷ [] }

-- the content with a change to the procedure that the lines are in
abbrev pub with_opened : Part → Content → (BodyOf → BodyOf) → Content
with_opened parts.Pop c f = record c { pop = f c.pop }
with_opened _ c f = record c { push = f c.push }

abbrev pub step : ℕ → Instruction ℕ Name → StepOf
step number i = record { instruction = i; line = number }

-- the content after the line of this number
abbrev pub after : Content → ℕ → Line → Content
after c number misshapen = c
after c number (wrong kind slip) = c
after c number (capacity n) = record c { part = parts.Mode; capacity = n }
after c number (mode m) = record c { part = parts.Arrays; mode = m }
after c number (array name words) = record c { arrays = c.arrays ++ (record { name = name; words = words }) ∷ []; words = c.words + length words }
after c number push = record c { part = parts.Push }
after c number pop = record c { part = parts.Pop }
after c number end = record c { part = after_end c.part }
after c number (label name) = with_opened c.part c (λ b. with_label b name)
after c number (instruction i lacks) = with_opened c.part c (λ b. with_step b (step number (numbered c i)))
after c number (before calls) = record c { part = parts.Threads; prologue = calls; calls = c.calls + length calls }
after c number (thread calls) = record c { part = parts.Threads; threads = c.threads ++ calls ∷ []; calls = c.calls + length calls }
