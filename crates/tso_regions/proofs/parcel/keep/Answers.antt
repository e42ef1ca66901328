use Rattle.tso_parts.proofs.Distinct.{grown_extends}
use Rattle.tso_regions.proofs.RegionLemmas.{sound_more_of}
use Rattle.tso_regions.proofs.parcel.keep.Goals as goal

pub returns-in-Ok-clause-sound : goal.returns-in-Ok-clause-sound
returns-in-Ok-clause-sound c =
    sound_more_of c.args.store.now.client c.add_view.new.self.client c.args.store.now.states c.add_view.new.self.states c.args.view.now c.in-Ok.field-0-1 c.requires.sound c.requires.state c.add_view.ensures.client c.in-Ok.ensures.added.kept

pub returns-in-Ok-clause-stays : goal.returns-in-Ok-clause-stays
returns-in-Ok-clause-stays c = grown_extends c.args.store.now.states c.add_view.new.self.states c.args.view.now c.in-Ok.field-0-1 c.in-Ok.ensures.added.kept
