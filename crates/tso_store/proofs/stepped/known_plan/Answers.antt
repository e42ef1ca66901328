use Rattle.tso_store.proofs.Performed.{known_plans}
use Rattle.tso_store.proofs.stepped.known_plan.Goals as goal

pub returns : goal.returns
returns c =
    known_plans c.args.client.now c.args.parts.now c.args.key.now c.args.thread c.args.own c.known_motion.result c.requires.kept c.requires.small c.requires.own (rw c.procedure_at-procedure.ensures at c.known_motion.ensures)
