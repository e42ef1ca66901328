use Rattle.std.proofs.Common.{None, refl}
use Rattle.tso_keys.proofs.Ordered.{no_pair}
use Rattle.tso_keys.proofs.orders.OrderMemo.new.Goals as goal

pub invariant_of-result : goal.invariant_of-result
invariant_of-result c = λ i p at. absurd (no_pair None 1024 i p refl at)
