use Rattle.std.proofs.Common.{◌∙◌, sym}
use Rattle.tso_regions.proofs.RegionLemmas.{sound_at}
use Rattle.tso_regions.proofs.parcel.keep_all.Goals as goal

pub keep-requires-clause-state : goal.keep-requires-clause-state
keep-requires-clause-state c =
    sound_at c.args.from.now.client c.loop-number.store.client c.args.from.now.states _ c.in-Some.view c.requires.from (c.loop-number.invariant.client ∙ sym c.requires.client) (sym c.in-Some.ensures.state)
