use Rattle.std.proofs.Common.{sym}
use Rattle.tso_store.proofs.Absences.{sought_from}
use Rattle.tso_store.proofs.Sheeted.{no_successor}
use Rattle.tso_store.proofs.sought.find_from.Goals as goal

pub returns-in-Some : goal.returns-in-Some
returns-in-Some c = sought_from c.args.client.now c.args.parts.now c.args.keys.now c.in-Some.key c.args.number c.args.actor c.find_step.result c.requires.kept (sym c.in-Some.ensures) c.find_step.ensures

pub returns-in-None : goal.returns-in-None
returns-in-None c = (no_successor c.args.client.now c.args.parts.now c.args.keys.now c.args.number c.args.actor (sym c.in-None.ensures)).0
