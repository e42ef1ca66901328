use Rattle.std.proofs.Common.{refl}
use Rattle.tso_scan.proofs.halves.read_twig.Goals as goal

pub returns : goal.returns
returns c = record { rest = c.in-Some.rest.now; behind = refl; is = rw c.in-Some.is at c.in_ok-shape.ensures }
