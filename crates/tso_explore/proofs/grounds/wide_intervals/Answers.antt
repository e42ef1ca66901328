use Rattle.std.proofs.Common.{subst}
use Rattle.tso_cells.specs.declared.hulls.Hull.{Hull}
use Rattle.tso_cert.proofs.SeenLemmas.{keeps_refl}
use Rattle.tso_cert.specs.Seen.{Keeps}
use Rattle.tso_explore.proofs.grounds.wide_intervals.Goals as goal

pub intervals_of-requires : goal.intervals_of-requires
intervals_of-requires c = let hull = c.in_ok-hull.hull in subst (λ (h : Hull). Keeps h hull) c.in_ok-hull.ensures (keeps_refl hull)

pub returns : goal.returns
returns c = λ own least. record { closed = c.in_ok-table.ensures.inductive; fits = tt; own = least }
