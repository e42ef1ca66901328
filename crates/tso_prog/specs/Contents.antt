-- What a program has so far, as far as its lines were read.
use Rattle.std.specs.Prelude.{ℕ, List}
use Rattle.tso_line.specs.declared.instruction.Mode.{Mode}
use Rattle.tso_line.specs.declared.instruction.CallKind.{CallKind}
use Rattle.tso_line.specs.declared.instruction.Instruction.{Instruction}
use Rattle.tso_line.specs.Lines.{Name}
use Rattle.tso_prog.specs.declared.client.Array.{Array}
use Rattle.tso_prog.specs.declared.draft.Part.{Part}
use Rattle.tso_prog.specs.declared.draft.Part.TheVariants as parts

-- a label stands before the instruction of this number
pub record TargetOf : Type 0 where
  pub name : Name
  pub at : ℕ

-- an instruction whose label is a name, and its line
pub record StepOf : Type 0 where
  pub instruction : Instruction ℕ Name
  pub line : ℕ

-- a procedure so far
pub record BodyOf : Type 0 where
  pub labels : List TargetOf
  pub steps : List StepOf

-- words counts those of all arrays, calls those of the prologue and all threads
pub record Content : Type 0 where
  pub part : Part
  pub capacity : ℕ
  pub mode : Mode
  pub arrays : List Array
  pub words : ℕ
  pub push : BodyOf
  pub pop : BodyOf
  pub prologue : List CallKind
  pub threads : List (List CallKind)
  pub calls : ℕ

-- the procedure that the lines are in
abbrev pub open_in : Part → BodyOf → BodyOf → BodyOf
open_in parts.Pop push pop = pop
open_in _ push pop = push

abbrev pub opened : Content → BodyOf
opened c = open_in c.part c.push c.pop
