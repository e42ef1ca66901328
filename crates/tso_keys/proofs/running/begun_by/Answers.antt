use Rattle.std.proofs.Common.{sym}
use Rattle.tso_keys.proofs.Procedures.{counted}
use Rattle.tso_keys.proofs.running.begun_by.Goals as goal

pub returns-in-Some-count_of : goal.returns-in-Some-count_of
returns-in-Some-count_of c = counted c.args.history.now c.in-Some.found.now c.args.thread c.in-Some-count_of.count (c.requires c.in-Some.found.now (sym c.in-Some.ensures)) c.in-Some-count_of.ensures.0 c.in-Some-count_of.ensures.1
