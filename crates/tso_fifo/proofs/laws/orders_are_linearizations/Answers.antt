use Rattle.tso_hist.proofs.InTurn.{histories_tell}
use Rattle.tso_hist.specs.Views.{history_view}
use Rattle.tso_model.specs.Objects.{Queue}
use Rattle.tso_model.proofs.Orders.{told, untold}
use Rattle.tso_prog.specs.Views.{mode_view}
use Rattle.tso_fifo.proofs.laws.orders_are_linearizations.Goals as goal

pub returns : goal.returns
returns c = λ mode capacity n events h order turn is.
    let same = histories_tell n events h turn is in
    (told (Queue (mode_view mode) capacity) (history_view h) events order same, untold (Queue (mode_view mode) capacity) (history_view h) events order same)
