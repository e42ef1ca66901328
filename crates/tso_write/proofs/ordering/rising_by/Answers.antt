use Rattle.tso_write.proofs.OrderingLemmas.{rising_ordered}
use Rattle.tso_write.proofs.ordering.rising_by.Goals as goal

pub returns : goal.returns
returns g c =
    rising_ordered c.args.store.now.states c.in_ok-standings.standings c.in_ok-groups.groups c.as_slice.result.now _ _ c.in_ok-standings.ensures c.in_ok-groups.ensures c.as_slice.ensures c.in_ok-numbers.ensures
