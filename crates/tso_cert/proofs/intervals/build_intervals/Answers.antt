use Rattle.std.proofs.Common.{subst}
use Rattle.tso_cert.specs.Lookup.{tree_states}
use Rattle.tso_cert.specs.Seen.{Keeps}
use Rattle.tso_cert.specs.Trees.{tree_of}
use Rattle.tso_cells.specs.declared.hulls.Hull.{Hull}
use Rattle.tso_cert.proofs.intervals.build_intervals.Goals as goal

pub intervals_of-requires : goal.intervals_of-requires
intervals_of-requires c = let hull = c.take_tree.new.hull in subst (λ (h : Hull). Keeps h hull) c.in_ok-hull.ensures c.in_ok-take_tree.ensures.keeps

pub returns-clause-held : goal.returns-clause-held
returns-clause-held c = c.intervals_of.ensures.held (tree_states (tree_of c.args.cert.now)) c.in_ok-take_tree.ensures.seen
