use Rattle.std.proofs.Common.{ℕ, ◌-◌}
use Rattle.std.specs.Prelude.{IsTrue}
use Rattle.tso_choose.specs.Closures.{has_bit, IsClosed, IsIn}
use Rattle.tso_choose.proofs.closure.closure.Given as goal

abbrev pub invariant-grow : goal.invariant-grow
invariant-grow l = record {
  has : IsTrue (has_bit l.set l.number);
  least : (other : ℕ) → IsTrue (has_bit other l.number) → IsClosed l.needs other → IsIn l.set other;
}

abbrev pub decreases-grow : goal.decreases-grow
decreases-grow l = 65536 - l.set
