use Rattle.tso_pool.proofs.Closes.{none_closed, more_closed, all_closed}
use Rattle.tso_pool.proofs.closing.tickets_left.Goals as goal

pub loop-count-init : goal.loop-count-init
loop-count-init g c = record { linked = c.requires; closed = none_closed _ }

pub loop-count-preserved : goal.loop-count-preserved
loop-count-preserved g c = record {
  linked = c.in-Some.ensures.linked;
  closed = more_closed _ _ _ _ _ _ c.loop-count.invariant.closed c.in-Some.ensures.closed.0 c.saturating_add-left.ensures;
}

pub returns : goal.returns
returns g c = all_closed _ _ _ c.in_default.ensures.closed.0 c.loop-count.invariant.closed
