use Rattle.tso_store.proofs.numbered.Store.standings.Goals as goal

pub standings_of-requires : goal.standings_of-requires
standings_of-requires c = (c.self.inside.checked.now.client, c.self.invariant.kept)

pub returns : goal.returns
returns c = rw (← c.self.view_is) c.standings_of.ensures
