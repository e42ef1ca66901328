use Rattle.tso_flow.specs.Faults.{IsFirst}
use Rattle.tso_flow.specs.First.{ReadIn}
use Rattle.tso_flow.proofs.fault.first_read.Given as goal

abbrev pub invariant-loop-i : goal.invariant-loop-i
invariant-loop-i l = IsFirst (ReadIn l.kind l.steps l.lines l.location l.i) l.first
