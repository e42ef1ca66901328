use Rattle.std.proofs.Common.{List, sym, ◌∙◌, subst, ◌↔◌}
use Rattle.tso_model.specs.Events.{events_of}
use Rattle.tso_model.specs.Linear.{IsLinearization, IsOrder}
use Rattle.tso_model.specs.Objects.{Queue}
use Rattle.tso_model.specs.States.{Called, first_history}
use Rattle.tso_model.proofs.Fits.{after_same}
use Rattle.tso_model.proofs.Theorems as theorems
use Rattle.tso_prog.specs.Views.{mode_view}
use Rattle.tso_fifo.proofs.laws.orders_of_runs.Goals as goal

pub returns : goal.returns
returns g c = λ P memory labels m mode capacity h order run is.
    let object = Queue (mode_view mode) capacity in
    subst (λ (v : List (List Called)). IsOrder object v order ↔ IsLinearization object (events_of labels) order) (after_same (first_history P) labels ∙ sym is) (theorems.orders_are_linearizations _ P memory labels m run object order)
