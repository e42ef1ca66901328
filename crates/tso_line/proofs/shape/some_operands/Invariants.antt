use Rattle.std.proofs.Common.{◌≡◌, length}
use Rattle.tso_line.specs.declared.shape.Operands.TheVariants.{Zero}
use Rattle.tso_line.specs.Lexemes.{pieces, operands_after}
use Rattle.tso_line.proofs.shape.some_operands.Given as goal

abbrev pub invariant-loop-piece : goal.invariant-loop-piece
invariant-loop-piece l = operands_after l.operands (pieces l.rest) ≡ operands_after Zero (pieces l.lexemes)

abbrev pub decreases-loop-piece : goal.decreases-loop-piece
decreases-loop-piece l = length l.rest
