use Rattle.tso_flow.specs.Faults.{IsFirst}
use Rattle.tso_flow.specs.First.{ShapeIn}
use Rattle.tso_flow.proofs.fault.first_shape.Given as goal

abbrev pub invariant-loop-i : goal.invariant-loop-i
invariant-loop-i l = IsFirst (ShapeIn l.steps l.lines l.i) l.first
