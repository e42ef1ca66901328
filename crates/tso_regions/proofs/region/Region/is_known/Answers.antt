use Rattle.tso_regions.proofs.RegionLemmas.{done_for, met_for}
use Rattle.tso_regions.proofs.region.Region.is_known.Goals as goal

pub returns-clause-met : goal.returns-clause-met
returns-clause-met g c = rw (← c.self.view_is) (met_for g.U.Realm.client c.self.inside.checked.now.client c.self.inside.store.states c.self.invariant.client_is c.self.invariant.explored.met)

pub returns-clause-done : goal.returns-clause-done
returns-clause-done g c =
    rw (← c.self.view_is) (done_for g.U.Realm.client g.U.Realm.table c.self.inside.checked.now.client c.self.inside.table.now c.self.inside.store.states c.self.inside.marks
    c.self.invariant.client_is c.self.invariant.table_is c.self.invariant.explored.done)
