use Rattle.std.proofs.Common.{sym}
use Rattle.tso_keys.proofs.Procedures.{remembered}
use Rattle.tso_keys.proofs.running.procedure_at.Goals as goal

pub procedure_by-requires : goal.procedure_by-requires
procedure_by-requires c = remembered c.args.histories.now c.args.running.now c.args.number c.in-Some.history.now c.requires.running (sym c.in-Some.ensures)
