use Rattle.std.proofs.Common.{AllPairs, take}
use Rattle.tso_fifo.specs.Check.{IsApart}
use Rattle.tso_fifo.specs.declared.order.Placed.{Placed}
use Rattle.tso_hist.specs.Views.{history_view}
use Rattle.tso_fifo.proofs.check.is_ordered.Given as goal

abbrev pub invariant-loop-i : goal.invariant-loop-i
invariant-loop-i l = AllPairs (λ (x y : Placed). IsApart (history_view l.history) y.thread y.call x) (take l.i l.order)
