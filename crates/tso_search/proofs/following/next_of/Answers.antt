use Rattle.tso_search.proofs.following.next_of.Goals as goal

pub arrival-requires : goal.arrival-requires
arrival-requires c = rw c.in-Crossings.is at c.requires.one_stop
