use Rattle.std.proofs.Common.{◌≡◌, replicate}
use Rattle.tso_verdict.specs.declared.mark.Mark.TheVariants.{NeverMet}
use Rattle.tso_verdict.proofs.mark.Marks.new.Given as goal

abbrev pub invariant-loop : goal.invariant-loop
invariant-loop l = l.marks ≡ replicate l.counter NeverMet
