use Rattle.tso_machine.specs.Programs.{program_of}
use Rattle.tso_model.specs.States.{first_history}
use Rattle.tso_trace.proofs.HistoryLemmas.{history_grows}
use Rattle.tso_trace.proofs.history.history_of.Goals as goal

pub loop-label-preserved : goal.loop-label-preserved
loop-label-preserved c =
    history_grows (first_history (program_of c.args.client.now)) _ _ c.args.labels.now c.loop-label.label-index _ c.loop-label-test.true c.loop-label.invariant c.in_ok-note.ensures.ok
