use Rattle.std.proofs.Common.{refl}
use Rattle.tso_scan.proofs.states.read_end.Goals as goal

pub returns-in_ok-push-in-Ok : goal.returns-in_ok-push-in-Ok
returns-in_ok-push-in-Ok c = record { end = c.in-Ok.end; reads = c.in-Ok.ensures; ends = c.in_ok-push-in-Ok.ensures.ok; sources = refl; keys = refl }
