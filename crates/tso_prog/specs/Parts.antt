-- The parts of a text, in order, and what each gives to the client.
use Rattle.std.specs.Prelude.{◌≡◌, ℕ, ◌+◌, Bool, true, false, if◌then◌else◌, List, [], ◌∷◌, ◌++◌, map, Option, Some, None, option_and_then, position}
use Rattle.std.specs.Option.{option_map}
use Rattle.std.specs.List.{AllByRecursion, flat_map}
use Rattle.std.specs.Str.{bytes_eq}
use Rattle.tso_line.specs.declared.instruction.Address.{Address}
use Rattle.tso_line.specs.declared.instruction.CallKind.{CallKind}
use Rattle.tso_line.specs.declared.instruction.Instruction.{Instruction}
use Rattle.tso_line.specs.declared.instruction.Mode.{Mode as QueueMode}
use Rattle.tso_line.specs.declared.line.Kind.{Kind}
use Rattle.tso_line.specs.declared.line.Kind.TheVariants.{Capacity, Mode, Array, Push, Pop, End, Target, Instruction as Step, Before, Thread}
use Rattle.tso_line.specs.Instructions.{address_of, label_of, renamed}
use Rattle.tso_line.specs.Lines.{Name, Line, capacity, mode, array, end, label, instruction, before, thread, kind_of}
use Rattle.tso_prog.specs.declared.client.Array.{Array as Words}
use Rattle.tso_prog.specs.Contents.{TargetOf}
use Rattle.tso_prog.specs.Clients.{ClientOf}
use Rattle.tso_prog.specs.Finish.{target_position}
use Rattle.tso_prog.specs.Program.{Numbered}

-- ---- the order of the lines

-- a line of a procedure
abbrev pub IsBodyKind : Kind → Type 0
IsBodyKind Target = Unit {0}
IsBodyKind Step = Unit {0}
IsBodyKind _ = ⊥

-- no prologue, or one
abbrev pub IsPrologue : List Kind → Type 0
IsPrologue [] = Unit {0}
IsPrologue (k ∷ []) = k ≡ Before
IsPrologue (k ∷ l ∷ ks) = ⊥

-- capacity, mode, arrays, push, pop, perhaps a prologue, threads
pub record SixParts (kinds : List Kind) : Type 0 where
  pub arrays : List Kind
  pub push : List Kind
  pub pop : List Kind
  pub prologue : List Kind
  pub threads : List Kind
  pub split : kinds ≡ Capacity ∷ Mode ∷ (arrays ++ Push ∷ (push ++ End ∷ Pop ∷ (pop ++ End ∷ (prologue ++ threads))))
  pub arrays_are : AllByRecursion (λ k. k ≡ Array) arrays
  pub push_is : AllByRecursion IsBodyKind push
  pub pop_is : AllByRecursion IsBodyKind pop
  pub prologue_is : IsPrologue prologue
  pub threads_are : AllByRecursion (λ k. k ≡ Thread) threads

-- ---- what a line gives

abbrev pub capacity_in : Line → List ℕ
capacity_in (capacity n) = n ∷ []
capacity_in _ = []

abbrev pub mode_in : Line → List QueueMode
mode_in (mode m) = m ∷ []
mode_in _ = []

abbrev pub array_in : Line → List Words
array_in (array name words) = (record { name = name; words = words }) ∷ []
array_in _ = []

abbrev pub instruction_in : Line → List (Instruction Name Name)
instruction_in (instruction i lacks) = i ∷ []
instruction_in _ = []

abbrev pub number_in : Line → ℕ → List ℕ
number_in (instruction i lacks) number = number ∷ []
number_in _ number = []

abbrev pub prologue_in : Line → List CallKind
prologue_in (before calls) = calls
prologue_in _ = []

abbrev pub calls_in : Line → List (List CallKind)
calls_in (thread calls) = calls ∷ []
calls_in _ = []

-- ---- procedures

abbrev pub is_end : Line → Bool
is_end end = true
is_end _ = false

-- the lines before the first `.end`
unfoldable pub before_end : List Numbered → List Numbered
before_end [] = []
before_end (l ∷ ls) = if is_end l.line then [] else l ∷ before_end ls

-- the lines behind the first `.end`
unfoldable pub behind_end : List Numbered → List Numbered
behind_end [] = []
behind_end (l ∷ ls) = if is_end l.line then ls else behind_end ls

-- a label line and the labels of the lines behind it, where so many instructions stand before it
abbrev pub with_label_in : Line → ℕ → (ℕ → List TargetOf) → List TargetOf
with_label_in (label name) n rest = (record { name = name; at = n }) ∷ rest n
with_label_in (instruction i lacks) n rest = rest (n + 1)
with_label_in _ n rest = rest n

-- the labels of these lines, each with the count of instructions before it
unfoldable pub labels_from : List Numbered → ℕ → List TargetOf
labels_from [] n = []
labels_from (l ∷ ls) n = with_label_in l.line n (λ k. labels_from ls k)

-- the number of a name, if there is a name; an instruction without one is the same with any
abbrev pub number_of : (Name → Option ℕ) → Option Name → Option ℕ
number_of find None = Some 0
number_of find (Some name) = find name

abbrev pub array_position : List Words → Name → Option ℕ
array_position arrays name = position (λ a. bytes_eq a.name name) arrays

abbrev pub array_named : Option (Address Name) → Option Name
array_named None = None
array_named (Some cell) = Some cell.array

-- the instruction with the number of its array and the position of its label, if both are there
abbrev pub denoted : List Words → List TargetOf → Instruction Name Name → Option (Instruction ℕ ℕ)
denoted arrays labels i =
    option_and_then (λ array. option_map (λ at. renamed (λ _. array) (λ _. at) i) (number_of (target_position labels) (label_of i)))
    (number_of (array_position arrays) (array_named (address_of i)))

-- the instructions are those of these lines, with the arrays and with the labels of these lines
abbrev pub AreOf : List Words → List Numbered → List (Instruction ℕ ℕ) → Type 0
AreOf arrays lines instructions = map (denoted arrays (labels_from lines 0)) (flat_map (λ l. instruction_in l.line) lines) ≡ map (λ i. Some i) instructions

-- ---- the client

-- the lines stand in the six parts, and each part of the client is of its lines
pub record HasParts (lines : List Numbered) (c : ClientOf) : Type 0 where
  pub kinds : List Kind
  pub kinds_are : map (λ l. kind_of l.line) lines ≡ map Some kinds
  pub parts : SixParts kinds
  pub capacity : flat_map (λ l. capacity_in l.line) lines ≡ c.capacity ∷ []
  pub mode : flat_map (λ l. mode_in l.line) lines ≡ c.mode ∷ []
  pub arrays : c.arrays ≡ flat_map (λ l. array_in l.line) lines
  pub push : AreOf c.arrays (before_end lines) c.push
  pub pop : AreOf c.arrays (before_end (behind_end lines)) c.pop
  pub prologue : c.prologue ≡ flat_map (λ l. prologue_in l.line) lines
  pub threads : c.threads ≡ flat_map (λ l. calls_in l.line) lines

-- the numbers of the lines of instructions
abbrev pub numbers_in : List Numbered → List ℕ
numbers_in lines = flat_map (λ l. number_in l.line l.number) lines

-- each instruction stands on its line
pub record HasLines (lines : List Numbered) (push pop : List ℕ) : Type 0 where
  pub push_lines : push ≡ numbers_in (before_end lines)
  pub pop_lines : pop ≡ numbers_in (before_end (behind_end lines))
