use Rattle.std.proofs.Common.{sym}
use Rattle.tso_keys.proofs.Procedures.{told}
use Rattle.tso_keys.proofs.running.procedure_by.Goals as goal

pub returns-in-Some-procedure_of : goal.returns-in-Some-procedure_of
returns-in-Some-procedure_of c = told c.args.history.now c.in-Some.found.now c.args.thread c.in-Some-procedure_of.procedure (c.requires c.in-Some.found.now (sym c.in-Some.ensures)) c.in-Some-procedure_of.ensures
