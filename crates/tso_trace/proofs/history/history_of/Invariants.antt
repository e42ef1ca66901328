use Rattle.std.proofs.Common.{◌≡◌, map, take}
use Rattle.tso_hist.specs.Views.{history_view}
use Rattle.tso_machine.specs.Machines.{label_of}
use Rattle.tso_machine.specs.Programs.{program_of}
use Rattle.tso_model.specs.States.{first_history}
use Rattle.tso_model.specs.Views.{after_labels}
use Rattle.tso_trace.proofs.history.history_of.Given as goal

abbrev pub invariant-loop-label : goal.invariant-loop-label
invariant-loop-label l = history_view l.history ≡ after_labels (first_history (program_of l.client)) (map label_of (take l.label-index l.labels))
