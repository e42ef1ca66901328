-- What a text denotes.
use Rattle.std.specs.Prelude.{ℕ, List}
use Rattle.tso_line.specs.declared.instruction.Mode.{Mode}
use Rattle.tso_line.specs.declared.instruction.CallKind.{CallKind}
use Rattle.tso_line.specs.declared.instruction.Instruction.{Instruction}
use Rattle.tso_prog.specs.declared.client.Array.{Array}

-- a program without the lines that its instructions stand on
pub record ClientOf : Type 0 where
  pub capacity : ℕ
  pub mode : Mode
  pub arrays : List Array
  pub push : List (Instruction ℕ ℕ)
  pub pop : List (Instruction ℕ ℕ)
  pub prologue : List CallKind
  pub threads : List (List CallKind)
