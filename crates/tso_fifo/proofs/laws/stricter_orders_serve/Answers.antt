use Rattle.tso_hist.specs.Views.{history_view}
use Rattle.tso_model.specs.Objects.{Queue}
use Rattle.tso_model.proofs.Orders.{looser}
use Rattle.tso_prog.specs.Views.{mode_view}
use Rattle.tso_fifo.proofs.laws.stricter_orders_serve.Goals as goal

pub returns : goal.returns
returns c = λ mode capacity strict loose order at_least l. looser (history_view strict) (history_view loose) at_least (Queue (mode_view mode) capacity) order l
