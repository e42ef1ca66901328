-- What a line says by itself, without where its names and numbers lie in memory.
use Rattle.std.specs.Prelude.{ℕ, Bool, false, List, Option, Some, None}
use Rattle.tso_line.specs.declared.instruction.Mode.{Mode}
use Rattle.tso_line.specs.declared.instruction.CallKind.{CallKind}
use Rattle.tso_line.specs.declared.instruction.Instruction.{Instruction}
use Rattle.tso_line.specs.Instructions.{renamed}
use Rattle.tso_line.specs.declared.line.Kind.{Kind}
use Rattle.tso_line.specs.declared.line.Kind.TheVariants as kinds
use Rattle.tso_line.specs.declared.line.Slip.{Slip}
use Rattle.tso_line.specs.declared.line.Line.{Line as Source}
use Rattle.tso_line.specs.declared.line.Line.TheVariants as lines

-- the bytes of a name
abbrev pub Name : Type 0
Name = List ℕ

-- a line, or that it has none of the shapes, or what is wrong with its words and numbers
pub data Line : Type 0 where
  misshapen : Line
  wrong : Kind → Slip → Line
  capacity : ℕ → Line
  mode : Mode → Line
  array : Name → List ℕ → Line
  push : Line
  pop : Line
  end : Line
  label : Name → Line
  instruction : Instruction Name Name → Bool → Line
  before : List CallKind → Line
  thread : List CallKind → Line

-- where a line may stand, if it has a shape
abbrev pub kind_of : Line → Option Kind
kind_of misshapen = None
kind_of (wrong kind slip) = Some kind
kind_of (capacity n) = Some kinds.Capacity
kind_of (mode m) = Some kinds.Mode
kind_of (array name words) = Some kinds.Array
kind_of push = Some kinds.Push
kind_of pop = Some kinds.Pop
kind_of end = Some kinds.End
kind_of (label name) = Some kinds.Target
kind_of (instruction i lacks) = Some kinds.Instruction
kind_of (before calls) = Some kinds.Before
kind_of (thread calls) = Some kinds.Thread

-- what is wrong with a line by itself
abbrev pub slip_of : Line → Option Slip
slip_of (wrong kind slip) = Some slip
slip_of _ = None

-- whether a lock is missing
abbrev pub lacks_lock : Line → Bool
lacks_lock (instruction i lacks) = lacks
lacks_lock _ = false

-- a line without where it lies in memory
abbrev pub view : Source → Line
view lines.Misshapen = misshapen
view (lines.Wrong kind slip) = wrong kind slip
view (lines.Capacity n) = capacity n
view (lines.Mode m) = mode m
view (lines.Array name words) = array name.now words
view lines.Push = push
view lines.Pop = pop
view lines.End = end
view (lines.Target name) = label name.now
view (lines.Instruction i lacks) = instruction (renamed (λ a. a.now) (λ l. l.now) i) lacks
view (lines.Before calls) = before calls
view (lines.Thread calls) = thread calls
