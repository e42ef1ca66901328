use Rattle.std.proofs.Common.{List, ◌∷◌, ◌++◌, ap, ◌∙◌, append_assoc}
use Rattle.tso_hist.proofs.InTurn.{histories_tell}
use Rattle.tso_hist.specs.Turns.{IsInTurn}
use Rattle.tso_hist.specs.Views.{history_view}
use Rattle.tso_model.specs.Events.{Event}
use Rattle.tso_model.specs.Objects.{Queue}
use Rattle.tso_model.proofs.Beginnings.{beginning}
use Rattle.tso_model.proofs.Orders.{told, untold}
use Rattle.tso_prog.specs.Views.{mode_view}
use Rattle.tso_fifo.proofs.laws.beginnings_are_linearizable.Goals as goal

pub returns : goal.returns
returns c = λ mode capacity n events more h whole turn is is' (order, l).
    let object = Queue (mode_view mode) capacity in
    let first : IsInTurn n events = (λ past e later split. turn past e (later ++ more) (ap (λ (es : List Event). es ++ more) split ∙ append_assoc past (e ∷ later) more)) in
    let same = histories_tell n events h first is in
    let (o, b) = beginning object (history_view h) events more same (order, told object (history_view whole) (events ++ more) order (histories_tell n (events ++ more) whole turn is') l) in
    (o, untold object (history_view h) events o same b)
