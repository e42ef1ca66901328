use Rattle.tso_flow.specs.Faults.{IsFirst}
use Rattle.tso_flow.specs.First.{ReadOf}
use Rattle.tso_flow.proofs.fault.first_unwritten.Given as goal

abbrev pub invariant-loop-i : goal.invariant-loop-i
invariant-loop-i l = IsFirst (ReadOf l.kind l.steps l.lines l.locations l.i) l.first
