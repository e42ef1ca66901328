use Rattle.std.proofs.Common.{drop, Some}
use Rattle.tso_flow.specs.Paths.{Path}
use Rattle.tso_say.proofs.paths.leads.Given as goal

abbrev pub invariant-loop-next : goal.invariant-loop-next
invariant-loop-next l = Path (Some l.location) l.steps l.at (drop l.next-index l.path) l.to → Path (Some l.location) l.steps 0 l.path l.to
