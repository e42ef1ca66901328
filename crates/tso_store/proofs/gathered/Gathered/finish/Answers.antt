use Rattle.std.proofs.Common.{subst, sym}
use Rattle.tso_parts.specs.Numbers.{IsNumbered}
use Rattle.tso_store.specs.Gathering.{Gathering}
use Rattle.tso_store.proofs.Gatherings.{keys_differ}
use Rattle.tso_store.proofs.gathered.Gathered.finish.Goals as goal

pub listed-keys-requires-clause-numbered : goal.listed-keys-requires-clause-numbered
listed-keys-requires-clause-numbered c = rw c.from_vec.ensures (keys_differ c.self.inside.parts c.self.inside.keys.items (subst (λ (g : Gathering). IsNumbered g.states) (sym c.self.view_is) c.requires.numbered))
