use Rattle.std.specs.Option.{option_map}
use Rattle.tso_compact.proofs.MotionLemmas.{running_labels}
use Rattle.tso_machine.specs.Programs.{program_of}
use Rattle.tso_prog.specs.Views.{call_view}
use Rattle.tso_compact.proofs.motion.core_motion.Goals as goal

pub returns-in-Running-clause-labels : goal.returns-in-Running-clause-labels
returns-in-Running-clause-labels c = λ memory i.
    running_labels (program_of c.args.client.now) memory i (option_map call_view c.args.call) c.args.procedure c.args.thread.now c.in-Running.frame _ c.action_motion.result c.in-Running.is
    c.next_action-action.ensures.is (rw c.as_slice.ensures at (c.action_motion.ensures.labels c.args.procedure memory i))
