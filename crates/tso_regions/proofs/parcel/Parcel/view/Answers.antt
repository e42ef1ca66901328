use Rattle.tso_regions.proofs.RegionLemmas.{parcel_sound}
use Rattle.tso_regions.proofs.parcel.Parcel.view.Goals as goal

pub returns-clause-sound : goal.returns-clause-sound
returns-clause-sound g c = parcel_sound g.U.Realm.client c.self.inside.store c.args.number c.view.result c.self.invariant c.view.ensures.state
