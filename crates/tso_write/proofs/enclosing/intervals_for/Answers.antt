use Rattle.std.proofs.Common.{subst}
use Rattle.tso_cert.specs.Seen.{Keeps}
use Rattle.tso_cells.specs.declared.hulls.Hull.{Hull}
use Rattle.tso_write.proofs.enclosing.intervals_for.Goals as goal

pub intervals_of-requires : goal.intervals_of-requires
intervals_of-requires c = let hull = c.take_all.new.hull in subst (λ (h : Hull). Keeps h hull) c.in_ok-hull.ensures c.take_all.ensures.keeps

pub returns-clause-held : goal.returns-clause-held
returns-clause-held c = c.intervals_of.ensures.held c.args.worked.now.store.states c.take_all.ensures.seen
