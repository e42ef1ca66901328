use Rattle.tso_fifo.proofs.Filled.{IsCheckedTo}
use Rattle.tso_hist.specs.Views.{history_view}
use Rattle.tso_prog.specs.Views.{mode_view}
use Rattle.tso_fifo.proofs.check.is_allowed.Given as goal

abbrev pub invariant-loop-i : goal.invariant-loop-i
invariant-loop-i l = IsCheckedTo (mode_view l.queue.mode) l.queue.capacity (history_view l.history) l.order l.i l.taken
