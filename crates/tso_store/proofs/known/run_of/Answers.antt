use Rattle.std.proofs.Common.{sym}
use Rattle.tso_store.proofs.known.run_of.Goals as goal

pub returns-in-Push : goal.returns-in-Push
returns-in-Push c = rw c.in-Push.is (c.requires c.args.number c.in-Some.found.now (sym c.in-Some.ensures)).push

pub returns-in-Pop : goal.returns-in-Pop
returns-in-Pop c = rw c.in-Pop.is (c.requires c.args.number c.in-Some.found.now (sym c.in-Some.ensures)).pop
