use Rattle.std.proofs.Common.{◌≡◌, ◌*◌}
use Rattle.tso_table.specs.Totals.{allotment}
use Rattle.tso_table.proofs.budget.allotted.Given as goal

abbrev pub invariant-loop : goal.invariant-loop
invariant-loop g l = (l.book.total ≡ l.counter * allotment) × (l.share.amount ≡ l.counter * allotment) × (l.share.parts ≡ l.initial.share.parts)
